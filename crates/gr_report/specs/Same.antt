-- Whether members have the same rows.
use Rattle.std.specs.Prelude.{List, [], ◌∷◌, Bool, true, false, ◌&&◌, ◌==◌, map, bytes_eq}
use Rattle.std.specs.List.{list_all}
use Rattle.std.specs.Cmp.Lexicographic.{pointwise}
use Rattle.gr_value.specs.Fields.{value_eq}
use Rattle.gr_stamp.specs.declared.change.Change.{Change}
use Rattle.gr_stamp.specs.declared.change.Kind.{Kind}
use Rattle.gr_stamp.specs.declared.change.Kind.TheVariants.{Put, Invalid, Remove}
use Rattle.gr_stamp.specs.Version.{Version}
use Rattle.gr_history.specs.declared.record.MemberRecord.{MemberRecord}
use Rattle.gr_history.specs.declared.record.ShardRecord.{ShardRecord}

abbrev pub kind_eq : Kind → Kind → Bool
kind_eq (Put one) (Put two) = value_eq one two
kind_eq Invalid Invalid = true
kind_eq Remove Remove = true
kind_eq _ _ = false

abbrev pub stamp_eq : Version → Version → Bool
stamp_eq one two = one.ver == two.ver && (one.member == two.member && one.rv == two.rv)

abbrev pub row_eq : Change → Change → Bool
row_eq one two = bytes_eq one.key two.key && (kind_eq one.kind two.kind && stamp_eq one.stamp two.stamp)

abbrev pub shard_eq : ShardRecord → ShardRecord → Bool
shard_eq one two = pointwise row_eq one.region.rows two.region.rows

-- shard by shard, and row by row
abbrev pub member_eq : MemberRecord → MemberRecord → Bool
member_eq one two = pointwise shard_eq one.shards two.shards

-- the rows of each shard
abbrev pub rows_by_shard : MemberRecord → List (List Change)
rows_by_shard member_record = map (λ shard. shard.region.rows) member_record.shards

-- Each has the rows of the first.
abbrev pub are_equal : List MemberRecord → Bool
are_equal [] = true
are_equal (first ∷ rest) = list_all (member_eq first) rest
