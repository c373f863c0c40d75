-- How many removals there are, once a slot is set or dropped.
use Rattle.std.proofs.Common.{◌≡◌, ◌∙◌, ap, sym, refl, ℕ, ◌+◌, ◌-◌, List, [], ◌∷◌, Bool, true, false, Option, Some, None, arith}
use Rattle.std.proofs.Common.{if◌then◌else◌, option_map, is_some}
use Rattle.std.specs.Prelude.{cond, unwrap_or}
use Rattle.std.specs.List.{fold, sum_by}
use Rattle.std.specs.List.Sorted.{IsStrictlySortedBy}
use Rattle.std.specs.Map.{keys_of, values_of}
use Rattle.std.specs.BTreeMap.{is_at}
use Rattle.std.specs.Ordering.{nat_cmp}
use Rattle.std.specs.Cmp.Lexicographic.{slice_cmp}
use Rattle.std.proofs.lemmas.Map.Entries.{sum_by-insert_entry, sum_by-remove_entry}
use Rattle.gr_stamp.specs.Winner.{is_removal}
use Rattle.gr_slots.specs.declared.slot.Slot.{Slot}
use Rattle.gr_slots.specs.Slots.{Entries, slot_at, with_slot, without, removed_at, tombstones}
use Rattle.gr_slots.proofs.Timed.{key_order}

abbrev one_of : Slot → ℕ
one_of slot = cond (is_removal slot.kind) 1 0

abbrev one_if : Bool → ℕ
one_if b = if b then 1 else 0

-- the count of removals as a sum over what stands
summed : (slots : Entries) → tombstones slots ≡ sum_by one_of (values_of slots)
summed slots = from 0 slots
  where
    from : (n : ℕ) (es : Entries)
        → fold (λ n e. n + cond (is_removal e.1.kind) 1 0) n es ≡ fold (λ n slot. n + one_of slot) n (values_of es)
    from n [] = refl
    from n (e ∷ es) = from (n + one_of e.1) es

one_slot : (slot : Slot) → one_of slot ≡ one_if (is_some (removed_at (Some slot)))
one_slot slot = at_kind (is_removal slot.kind)
  where
    at_kind : (b : Bool) → cond b 1 0 ≡ one_if (is_some (if b then Some slot.taken_at else None))
    at_kind true = refl
    at_kind false = refl

one_found : (o : Option Slot) → unwrap_or (option_map one_of o) 0 ≡ one_if (is_some (removed_at o))
one_found None = refl
one_found (Some slot) = one_slot slot

left : (a b c : ℕ) → a + b ≡ c → c - b ≡ a
left a b c e = omega arith

set_counted : (key : List ℕ) (slot : Slot) (slots : Entries) → IsStrictlySortedBy (slice_cmp nat_cmp) (keys_of slots)
    → tombstones (with_slot key slot slots) + one_if (is_some (removed_at (slot_at key slots)))
    ≡ tombstones slots + one_if (is_some (removed_at (Some slot)))
set_counted key slot slots ordered =
    ap (λ n. n + one_if (is_some (removed_at (slot_at key slots)))) (summed (with_slot key slot slots))
    ∙ ap (λ n. sum_by one_of (values_of (with_slot key slot slots)) + n) (sym (one_found (slot_at key slots)))
    ∙ sum_by-insert_entry one_of key_order slots key slot ordered
    ∙ ap (λ n. n + one_of slot) (sym (summed slots)) ∙ ap (λ n. tombstones slots + n) (one_slot slot)

drop_counted : (key : List ℕ) (slots : Entries)
    → tombstones (without key slots) + one_if (is_some (removed_at (slot_at key slots))) ≡ tombstones slots
drop_counted key slots =
    ap (λ n. n + one_if (is_some (removed_at (slot_at key slots)))) (summed (without key slots))
    ∙ ap (λ n. sum_by one_of (values_of (without key slots)) + n) (sym (one_found (slot_at key slots)))
    ∙ sum_by-remove_entry one_of (is_at (slice_cmp nat_cmp key)) slots ∙ sym (summed slots)

-- The count is kept where a slot is set.
pub set_kept : (key : List ℕ) (slot : Slot) (slots next : Entries) (count counted : ℕ) (gone more : Bool)
    → IsStrictlySortedBy (slice_cmp nat_cmp) (keys_of slots) → count ≡ tombstones slots
    → gone ≡ is_some (removed_at (slot_at key slots)) → more ≡ is_some (removed_at (Some slot))
    → counted ≡ count + one_if more - one_if gone → next ≡ with_slot key slot slots → counted ≡ tombstones next
set_kept key slot slots next count counted gone more ordered was old new is set =
    is ∙ ap (λ n. n + one_if more - one_if gone) was ∙ ap (λ b. tombstones slots + one_if b - one_if gone) new
    ∙ ap (λ b. tombstones slots + one_if (is_some (removed_at (Some slot))) - one_if b) old
    ∙ left (tombstones (with_slot key slot slots)) (one_if (is_some (removed_at (slot_at key slots))))
    (tombstones slots + one_if (is_some (removed_at (Some slot)))) (set_counted key slot slots ordered)
    ∙ ap tombstones (sym set)

-- It is kept where a slot is dropped.
pub drop_kept : (key : List ℕ) (slot : Slot) (slots next : Entries) (count counted : ℕ) (gone : Bool) → count ≡ tombstones slots
    → Some slot ≡ slot_at key slots → gone ≡ is_some (removed_at (Some slot)) → counted ≡ count + 0 - one_if gone
    → next ≡ without key slots → counted ≡ tombstones next
drop_kept key slot slots next count counted gone was found old is drop =
    is ∙ ap (λ n. n + 0 - one_if gone) was ∙ no_more (tombstones slots) (one_if gone)
    ∙ ap (λ b. tombstones slots - one_if b) (old ∙ ap (λ o. is_some (removed_at o)) found)
    ∙ left (tombstones (without key slots)) (one_if (is_some (removed_at (slot_at key slots)))) (tombstones slots)
    (drop_counted key slots)
    ∙ ap tombstones (sym drop)
  where
    no_more : (n m : ℕ) → n + 0 - m ≡ n - m
    no_more n m = omega arith
