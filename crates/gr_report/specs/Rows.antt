-- The rows of several shards, in the order of their keys.
use Rattle.std.specs.Prelude.{ℕ, List, [], map, flat_map}
use Rattle.std.specs.List.{fold}
use Rattle.std.specs.List.Sorted.{IsStrictlySortedBy}
use Rattle.std.specs.Ordering.{nat_cmp}
use Rattle.std.specs.Cmp.Lexicographic.{slice_cmp}
use Rattle.std.specs.BTreeMap.{insert_entry}
use Rattle.std.specs.Map.{values_of}
use Rattle.gr_stamp.specs.declared.change.Change.{Change}
use Rattle.gr_history.specs.declared.record.ShardRecord.{ShardRecord}

abbrev pub ByKey : Type 0 → Type 0
ByKey A = List (List ℕ × A)

-- with one row more, at its key
abbrev pub with_row : {A : Type 0} → (A → List ℕ) → ByKey A → A → ByKey A
with_row key rows row = insert_entry (slice_cmp nat_cmp) rows (key row) row

-- rows by their keys, of which no two have the same
abbrev pub by_key : {A : Type 0} → (A → List ℕ) → List A → ByKey A
by_key key rows = fold (with_row key) [] rows

-- the rows of all shards of a member
abbrev pub rows_of : List ShardRecord → List Change
rows_of shards = values_of (by_key (λ row. row.key) (flat_map (λ shard. shard.region.rows) shards))

-- Rows stand in the order of their keys, and no two at one key.
abbrev pub AreInOrder : List Change → Type 0
AreInOrder rows = IsStrictlySortedBy (slice_cmp nat_cmp) (map (λ row. row.key) rows)
