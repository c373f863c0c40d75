-- A late row beside the others.
use Rattle.std.proofs.Common.{◌≡◌, ◌∙◌, ap, sym, subst, refl, ℕ, List, Bool, true, false, if◌then◌else◌}
use Rattle.std.proofs.Common.{Option, Some, None, option_map, is_some, bytes_eq}
use Rattle.std.specs.Prelude.{cond}
use Rattle.std.specs.Ordering.{nat_cmp}
use Rattle.std.specs.Cmp.Lexicographic.{slice_cmp}
use Rattle.std.specs.List.Sorted.{IsStrictlySortedBy}
use Rattle.std.specs.Map.{keys_of}
use Rattle.std.specs.BTreeMap.{is_at}
use Rattle.std.proofs.lemmas.Map.Lookups.{exact_bytes}
use Rattle.std.proofs.lemmas.Slice.Eq.{bytes_eq-Decides}
use Rattle.gr_slots.specs.declared.slot.Slot.{Slot}
use Rattle.gr_slots.specs.Slots.{Entries, slot_at, with_slot, without}
use Rattle.gr_slots.specs.Late.{Row, with_late, late_at, IsApart, IsReady}
use Rattle.gr_slots.proofs.Found.{slot_at-with_slot, at-with_slot, at-without, sorted-with_slot, sorted-without}
use Rattle.gr_slots.proofs.Ordered.{one_order}
use Rattle.gr_slots.proofs.Timed.{key_order, one_key}

abbrev is_key : List ℕ → List ℕ → Bool
is_key key = is_at (slice_cmp nat_cmp key)

abbrev AreInOrder : Entries → Type 0
AreInOrder rows = IsStrictlySortedBy (slice_cmp nat_cmp) (keys_of rows)

pub late_ordered : (late : Option Row) (rows : Entries) → AreInOrder rows → AreInOrder (with_late late rows)
late_ordered None rows ordered = ordered
late_ordered (Some row) rows ordered = sorted-with_slot row.0 row.1 rows ordered

-- the first, or else the second
abbrev pub either : Option Slot → Option Slot → Option Slot
either None other = other
either (Some slot) other = Some slot

or_none : (o : Option Slot) → o ≡ either o None
or_none None = refl
or_none (Some slot) = refl

-- the slot of the late row, where it is that of the key
abbrev pub late_slot : List ℕ → Option Row → Option Slot
late_slot key late = option_map (λ (row : Row). row.1) (late_at key late)

-- What is found at a key is what is found among the others, or else late.
pub found_late : (q : List ℕ) (late : Option Row) (rows : Entries) → IsApart late rows
    → slot_at q (with_late late rows) ≡ either (slot_at q rows) (late_slot q late)
found_late q None rows apart = or_none (slot_at q rows)
found_late q (Some row) rows apart = slot_at-with_slot q row.0 row.1 rows ∙ at_key (bytes_eq row.0 q) refl
  where
    at_key : (b : Bool) → bytes_eq row.0 q ≡ b
        → (if b then Some row.1 else slot_at q rows)
        ≡ either (slot_at q rows) (option_map (λ (row : Row). row.1) (if b then Some row else None))
    at_key true k =
        let none : slot_at q rows ≡ None = ap (λ k. slot_at k rows) (sym ((bytes_eq-Decides row.0 q).0 k)) ∙ apart in
        ap (λ o. either o (Some row.1)) (sym none)
    at_key false k = or_none (slot_at q rows)

-- Where nothing waits, and nothing does afterwards, there is room as before.
pub still_ready : (room : Option ℕ) (late next_late : Option Row) (unlisted next_unlisted : Option (List ℕ)) (count : ℕ)
    → (late ≡ None → next_late ≡ None) → (unlisted ≡ None → next_unlisted ≡ None) → IsReady room late unlisted count
    → IsReady room next_late next_unlisted count
still_ready None late next_late unlisted next_unlisted count none_late none_unlisted ready = tt
still_ready (Some at) late next_late unlisted next_unlisted count none_late none_unlisted ready =
    (none_late ready.0, none_unlisted ready.1, ready.2)

-- ---- a key leaves

swapped : (a b : Bool) (slot : Slot) (o : Option Slot) → (a ≡ true → b ≡ true → ⊥)
    → cond a (Some slot) (cond b None o) ≡ cond b None (cond a (Some slot) o)
swapped true true slot o never = absurd (never refl refl)
swapped true false slot o never = refl
swapped false b slot o never = refl

twice : (b : Bool) (slot : Slot) (o : Option Slot) → cond b None o ≡ cond b None (cond b (Some slot) o)
twice true slot o = refl
twice false slot o = refl

leave_other : (key : List ℕ) (row : Row) (rows : Entries) → AreInOrder rows → bytes_eq row.0 key ≡ false
    → with_slot row.0 row.1 (without key rows) ≡ without key (with_slot row.0 row.1 rows)
leave_other key row rows ordered other =
    one_order (slice_cmp nat_cmp) key_order exact_bytes _ _
    (sorted-with_slot row.0 row.1 (without key rows) (sorted-without key rows ordered))
    (sorted-without key (with_slot row.0 row.1 rows) (sorted-with_slot row.0 row.1 rows ordered))
    (λ q. at-with_slot q row.0 row.1 (without key rows) ∙ ap (cond (is_key row.0 q) (Some row.1)) (at-without q key rows ordered)
    ∙ swapped (is_key row.0 q) (is_key key q) row.1 (slot_at q rows)
    (λ a b. never ((bytes_eq-Decides row.0 key).1 (one_key row.0 q a ∙ sym (one_key key q b))))
    ∙ ap (cond (is_key key q) None) (sym (at-with_slot q row.0 row.1 rows))
    ∙ sym (at-without q key (with_slot row.0 row.1 rows) (sorted-with_slot row.0 row.1 rows ordered)))
  where
    never : bytes_eq row.0 key ≡ true → ⊥
    never same = cc

leave_same : (key : List ℕ) (slot : Slot) (rows : Entries) → AreInOrder rows → without key rows ≡ without key (with_slot key slot rows)
leave_same key slot rows ordered =
    one_order (slice_cmp nat_cmp) key_order exact_bytes _ _ (sorted-without key rows ordered)
    (sorted-without key (with_slot key slot rows) (sorted-with_slot key slot rows ordered))
    (λ q. at-without q key rows ordered ∙ twice (is_key key q) slot (slot_at q rows)
    ∙ ap (cond (is_key key q) None) (sym (at-with_slot q key slot rows))
    ∙ sym (at-without q key (with_slot key slot rows) (sorted-with_slot key slot rows ordered)))

-- where it has a row among the others
pub leave_found : (key : List ℕ) (late : Option Row) (rows : Entries) (slot : Slot) → AreInOrder rows → IsApart late rows
    → Some slot ≡ slot_at key rows → with_late late (without key rows) ≡ without key (with_late late rows)
leave_found key None rows slot ordered apart found = refl
leave_found key (Some row) rows slot ordered apart found = leave_other key row rows ordered (at_key (bytes_eq row.0 key) refl)
  where
    at_key : (b : Bool) → bytes_eq row.0 key ≡ b → b ≡ false
    at_key true k = absurd (let e : Some slot ≡ None =
        found ∙ ap (λ k. slot_at k rows) (sym ((bytes_eq-Decides row.0 key).0 k)) ∙ apart in cc)
    at_key false k = refl

-- where it may be late
abbrev pub still_late : List ℕ → Option Row → Option Row
still_late key late = if is_some (late_at key late) then None else late

pub leave_taken : (key : List ℕ) (late : Option Row) (rows : Entries) → AreInOrder rows
    → with_late (still_late key late) (without key rows) ≡ without key (with_late late rows)
leave_taken key None rows ordered = refl
leave_taken key (Some row) rows ordered = at_key (bytes_eq row.0 key) refl
  where
    at_key : (b : Bool) → bytes_eq row.0 key ≡ b
        → with_late (if is_some (if b then Some row else None) then None else Some row) (without key rows)
        ≡ without key (with_slot row.0 row.1 rows)
    at_key true k = subst (λ other. without key rows ≡ without key (with_slot other row.1 rows))
        (sym ((bytes_eq-Decides row.0 key).0 k)) (leave_same key row.1 rows ordered)
    at_key false k = leave_other key row rows ordered k

pub apart_left : (key : List ℕ) (late : Option Row) (rows : Entries) → AreInOrder rows → IsApart late rows
    → IsApart late (without key rows)
apart_left key None rows ordered apart = tt
apart_left key (Some row) rows ordered apart =
    at-without row.0 key rows ordered ∙ ap (cond (is_key key row.0) None) apart ∙ none (is_key key row.0)
  where
    none : (b : Bool) → ◌≡◌ {A = Option Slot} (cond b None None) None
    none true = refl
    none false = refl

pub apart_taken : (key : List ℕ) (late : Option Row) (rows : Entries) → IsApart late rows → IsApart (still_late key late) rows
apart_taken key late rows apart = at_test (is_some (late_at key late))
  where
    at_test : (b : Bool) → IsApart (if b then None else late) rows
    at_test true = tt
    at_test false = apart
