-- What a query finds in the regions of several shards.
use Rattle.std.specs.Prelude.{◌≡◌, ℕ, List, [], ◌∷◌, Option, Some, None, if◌then◌else◌, map, flat_map, bytes_eq}
use Rattle.std.specs.List.{fold, IsDistinct}
use Rattle.std.specs.List.Sorted.{IsStrictlySortedBy}
use Rattle.std.specs.Ordering.{nat_cmp}
use Rattle.std.specs.Cmp.Lexicographic.{slice_cmp}
use Rattle.std.specs.BTreeMap.{insert_entry}
use Rattle.gr_value.specs.declared.value.Field.{Field}
use Rattle.gr_stamp.specs.declared.change.Change.{Change}
use Rattle.gr_stamp.specs.Winner.{put_value}
use Rattle.gr_oql.specs.Question.{Question}
use Rattle.gr_oql.specs.Events.{where_matching}
use Rattle.gr_history.specs.declared.query_reply.Row.{Row}
use Rattle.gr_history.specs.declared.record.ShardRecord.{ShardRecord}

-- what stands at all shards
abbrev pub standing_rows : List ShardRecord → List Change
standing_rows shards = flat_map (λ shard. shard.region.rows) shards

-- No two stand at one key.
abbrev pub AreApart : List Change → Type 0
AreApart rows = IsDistinct bytes_eq (map (λ row. row.key) rows)

-- the value that stands at a key, where there is one
abbrev pub value_among : List ℕ → List Change → Option (List Field)
value_among key [] = None
value_among key (row ∷ rows) = if bytes_eq key row.key then put_value row.kind else value_among key rows

-- the same among rows of an answer
abbrev pub value_in : List ℕ → List Row → Option (List Field)
value_in key [] = None
value_in key (row ∷ rows) = if bytes_eq key row.key then Some row.value else value_in key rows

-- Rows in the order of their keys: at each key the value that stands there, where the query matches it, and no others.
pub record IsAnswer (question : Question) (standing : List Change) (rows : List Row) : Type 0 where
  pub in_order : IsStrictlySortedBy (slice_cmp nat_cmp) (map (λ row. row.key) rows)
  pub exact : (key : List ℕ) → value_in key rows ≡ where_matching question (value_among key standing)

-- values by their keys
abbrev pub Found : Type 0
Found = List (List ℕ × List Field)

abbrev pub with_value : List ℕ → Option (List Field) → Found → Found
with_value key None found = found
with_value key (Some value) found = insert_entry (slice_cmp nat_cmp) found key value

-- with the value of one row more, where it has one that matches
abbrev pub with_row : Question → Found → Change → Found
with_row question found row = with_value row.key (where_matching question (put_value row.kind)) found

abbrev pub found_rows : Found → List Row
found_rows found = map (λ entry. record { key = entry.0; value = entry.1 }) found

-- What is found. Of two rows at one key the later stands: but no two do, where the regions are those of a member.
abbrev pub answer : Question → List ShardRecord → List Row
answer question shards = found_rows (fold (with_row question) [] (standing_rows shards))
