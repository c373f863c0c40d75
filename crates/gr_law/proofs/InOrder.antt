-- The rows of a result are in order of keys, each key once.
use Rattle.std.proofs.Common.{◌≡◌, ℕ, List, [], ◌∷◌, refl}
use Rattle.std.specs.Prelude.{Option, Some, None, map}
use Rattle.std.specs.List.{filter_map}
use Rattle.std.specs.List.Sorted.{IsStrictlySortedBy}
use Rattle.gr_value.specs.declared.value.Field.{Field}
use Rattle.gr_history.specs.Regions.{keys_of}
use Rattle.gr_oql.specs.Question.{Question}
use Rattle.gr_oql.specs.Events.{where_matching}
use Rattle.gr_history.specs.declared.query_reply.Row.{Row}
use Rattle.gr_history.specs.declared.deed.Deed.{Deed}
use Rattle.gr_history.specs.Standing.{changes, present}
use Rattle.gr_history.specs.Queries.{row_at, rows_of}
use Rattle.gr_law.proofs.Keys.{AreBehind, IsInOrder, in_order_keys}

abbrev pub row_keys : List Row → List (List ℕ)
row_keys rows = map (λ (row : Row). row.key) rows

behind_rows : (question : Question) (past : List Deed) (low : List ℕ) (keys : List (List ℕ)) → AreBehind low keys
    → AreBehind low (row_keys (filter_map (row_at question past) keys))
behind_rows question past low [] behind = tt
behind_rows question past low (key ∷ keys) behind = at_value (where_matching question (present key past)) refl (behind_rows question past
    low keys behind.1)
  where
    at_value : (o : Option (List Field)) → where_matching question (present key past) ≡ o → AreBehind low (row_keys (filter_map (row_at
        question past) keys))
        → AreBehind low (row_keys (filter_map (row_at question past) (key ∷ keys)))
    at_value None e next = rw e next
    at_value (Some value) e next = rw e (behind.0, next)

rows_by : (question : Question) (past : List Deed) (keys : List (List ℕ)) → IsInOrder keys → IsInOrder (row_keys (filter_map (row_at
    question past) keys))
unfolding IsStrictlySortedBy
rows_by question past [] in_order = tt
rows_by question past (key ∷ keys) in_order = at_value (where_matching question (present key past)) refl (rows_by question past keys
    in_order.1)
  where
    at_value : (o : Option (List Field)) → where_matching question (present key past) ≡ o → IsInOrder (row_keys (filter_map (row_at
        question past) keys))
        → IsInOrder (row_keys (filter_map (row_at question past) (key ∷ keys)))
    at_value None e next = rw e next
    at_value (Some value) e next = rw e (behind_rows question past key keys in_order.0, next)

pub rows_in_order : (question : Question) (past : List Deed) → IsInOrder (row_keys (rows_of question past))
rows_in_order question past = rows_by question past (keys_of (changes past)) (in_order_keys (changes past))
