-- The result of a query over slots that hold what stands is the one that the history has.
use Rattle.std.proofs.Common.{◌≡◌, ◌∙◌, ap, refl, ℕ, List, [], ◌∷◌, Option, Some, None, option_map}
use Rattle.std.specs.List.{filter_map, cons_option}
use Rattle.std.specs.List.Sorted.{IsStrictlySortedBy}
use Rattle.std.specs.Ordering.{nat_cmp}
use Rattle.std.specs.Cmp.Lexicographic.{slice_cmp}
use Rattle.std.specs.Map.{keys_of as keys_in}
use Rattle.gr_stamp.specs.declared.change.Change.{Change}
use Rattle.gr_stamp.specs.Winner.{put_value}
use Rattle.gr_oql.specs.Events.{where_matching}
use Rattle.gr_oql.specs.Question.{Question}
use Rattle.gr_history.specs.declared.deed.Deed.{Deed}
use Rattle.gr_history.specs.Clock.{since}
use Rattle.gr_history.specs.Queries.{row_of, row_at, rows_of}
use Rattle.gr_history.specs.Regions.{keys_of}
use Rattle.gr_history.specs.Standing.{changes, standing}
use Rattle.gr_slots.specs.declared.slot.Slot.{Slot}
use Rattle.gr_slots.specs.Slots.{Entries}
use Rattle.gr_slots.proofs.Ordered.{found_at}
use Rattle.gr_shard.specs.Asking.{Hold, rows_in}
use Rattle.gr_shard.specs.Entries.{slot_of}
use Rattle.gr_shard.proofs.Left.{slots-held}

rows_found : (question : Question) (past : List Deed) (keys : List (List ℕ))
    → rows_in question (found_at (λ key. slot_of (standing key past) (since key past)) keys) ≡ filter_map (row_at question past) keys
rows_found question past [] = refl
rows_found question past (key ∷ keys) = at_standing (standing key past) refl (rows_found question past keys)
  where
    find : List ℕ → Option Slot
    find key = slot_of (standing key past) (since key past)

    at_standing : (o : Option Change) → standing key past ≡ o
        → rows_in question (found_at find keys) ≡ filter_map (row_at question past) keys
        → rows_in question (found_at find (key ∷ keys)) ≡ filter_map (row_at question past) (key ∷ keys)
    at_standing None e rest = rw e rest
    at_standing (Some change) e rest =
        rw e (ap (cons_option (option_map (row_of key) (where_matching question (put_value change.kind)))) rest)

pub rows_held : (question : Question) (slots : Entries) (past : List Deed) → Hold slots past
    → IsStrictlySortedBy (slice_cmp nat_cmp) (keys_in slots) → rows_in question slots ≡ rows_of question past
rows_held question slots past hold ordered =
    ap (rows_in question) (slots-held slots past hold ordered) ∙ rows_found question past (keys_of (changes past))
