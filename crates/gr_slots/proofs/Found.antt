-- What is found at a key after a slot was set.
use Rattle.std.proofs.Common.{◌≡◌, ◌∙◌, ap, sym, refl, ℕ, List, [], ◌∷◌, Bool, true, false, if◌then◌else◌}
use Rattle.std.proofs.Common.{Option, Some, None, bytes_eq}
use Rattle.std.specs.Prelude.{cond}
use Rattle.std.specs.BTreeMap.{is_at}
use Rattle.std.specs.List.{AllByRecursion}
use Rattle.std.specs.List.Sorted.{IsStrictlySortedBy}
use Rattle.std.specs.Map.{keys_of}
use Rattle.std.proofs.lemmas.Map.{lookup-remove_entry}
use Rattle.std.proofs.lemmas.Map.Entries.{lookup_head, lookup_tail}
use Rattle.std.proofs.lemmas.Map.Keys.{IsDistinct-from_sorted}
use Rattle.std.specs.declared.cmp.Ordering.{Ordering}
use Rattle.std.specs.declared.cmp.Ordering.TheVariants.{Less, Equal, Greater}
use Rattle.std.specs.Ordering.{nat_cmp, match_ordering, is_eq, ordering_reverse}
use Rattle.std.specs.Cmp.{both_ways, IsTotalOrder, nat_cmp_total, eq_by_cmp_equiv}
use Rattle.std.specs.Cmp.Lexicographic.{slice_cmp, lists_total}
use Rattle.std.proofs.lemmas.Map.Text.{is_eq-slice_cmp}
use Rattle.std.proofs.lemmas.Slice.Eq.{bytes_eq-Decides}
use Rattle.gr_slots.specs.declared.slot.Slot.{Slot}
use Rattle.gr_slots.specs.Slots.{Entries, slot_at, with_slot, without}

-- A test of one key against another answers as their bytes do.
sides : (q key : List ℕ) → is_eq (slice_cmp nat_cmp q key) ≡ bytes_eq key q
sides q key = is_eq-slice_cmp q key ∙ both_ways (bytes_eq q key) (bytes_eq key q)
    (λ is. (bytes_eq-Decides key q).1 (sym ((bytes_eq-Decides q key).0 is)))
    (λ is. (bytes_eq-Decides q key).1 (sym ((bytes_eq-Decides key q).0 is)))

-- keys that compare as equal are one
pub same_key : (one two : List ℕ) → slice_cmp nat_cmp one two ≡ Equal → one ≡ two
same_key one two is = (bytes_eq-Decides one two).0 (sym (is_eq-slice_cmp one two) ∙ ap is_eq is)

either : (b : Bool) (x y z : Option Slot) → (if b then x else z) ≡ (if b then x else (if b then y else z))
either true x y z = refl
either false x y z = refl

-- The slot is found at its key, and at other keys what was found before.
pub slot_at-with_slot : (q key : List ℕ) (slot : Slot) (slots : Entries)
    → slot_at q (with_slot key slot slots) ≡ (if bytes_eq key q then Some slot else slot_at q slots)
slot_at-with_slot q key slot [] = ap (λ b. if b then Some slot else None) (sides q key)
slot_at-with_slot q key slot (e ∷ es) =
    at_order (slice_cmp nat_cmp key e.0) refl (bytes_eq key q) refl (slot_at-with_slot q key slot es)
  where
    test : List ℕ → Bool
    test k = is_eq (slice_cmp nat_cmp q k)

    at_order : (o : Ordering) → slice_cmp nat_cmp key e.0 ≡ o → (b : Bool) → bytes_eq key q ≡ b
        → slot_at q (with_slot key slot es) ≡ (if bytes_eq key q then Some slot else slot_at q es)
        → slot_at q (match_ordering o ((key, slot) ∷ e ∷ es) ((e.0, slot) ∷ es) (e ∷ with_slot key slot es))
        ≡ (if b then Some slot else slot_at q (e ∷ es))
    at_order Less is b same rest = ap (λ t. if t then Some slot else slot_at q (e ∷ es)) (sides q key ∙ same)
    at_order Equal is b same rest =
        let key_is : key ≡ e.0 = same_key key e.0 is in
        let tested : test e.0 ≡ b = sides q e.0 ∙ ap (λ k. bytes_eq k q) (sym key_is) ∙ same in
        ap (λ t. if t then Some slot else slot_at q es) tested
        ∙ either b (Some slot) (Some e.1) (slot_at q es)
        ∙ ap (λ t. if b then Some slot else (if t then Some e.1 else slot_at q es)) (sym tested)
    at_order Greater is true same rest =
        let q_is : key ≡ q = (bytes_eq-Decides key q).0 same in
        let apart : test e.0 ≡ false = ap (λ k. is_eq (slice_cmp nat_cmp k e.0)) (sym q_is) ∙ ap is_eq is in
        ap (λ t. if t then Some e.1 else slot_at q (with_slot key slot es)) apart ∙ rest
        ∙ ap (λ t. if t then Some slot else slot_at q es) same
    at_order Greater is false same rest =
        ap (λ found. if test e.0 then Some e.1 else found) (rest ∙ ap (λ t. if t then Some slot else slot_at q es) same)

key_order : IsTotalOrder (slice_cmp nat_cmp)
key_order = lists_total nat_cmp_total

abbrev is_key : List ℕ → List ℕ → Bool
is_key key = is_at (slice_cmp nat_cmp key)

by_cond : (b : Bool) (x y : Option Slot) → (if b then x else y) ≡ cond b x y
by_cond true x y = refl
by_cond false x y = refl

-- the same by the order of keys
pub at-with_slot : (q key : List ℕ) (slot : Slot) (slots : Entries)
    → slot_at q (with_slot key slot slots) ≡ cond (is_key key q) (Some slot) (slot_at q slots)
at-with_slot q key slot slots = slot_at-with_slot q key slot slots
    ∙ ap (λ b. if b then Some slot else slot_at q slots) (sym (sides q key) ∙ (eq_by_cmp_equiv key_order).symm q key)
    ∙ by_cond (is_key key q) (Some slot) (slot_at q slots)

-- What is found at a key after a slot was taken away.
pub at-without : (q key : List ℕ) (slots : Entries) → IsStrictlySortedBy (slice_cmp nat_cmp) (keys_of slots)
    → slot_at q (without key slots) ≡ cond (is_key key q) None (slot_at q slots)
at-without q key slots sorted = lookup-remove_entry (eq_by_cmp_equiv key_order) (is_key key)
    (λ x y e. ap (λ k. is_key k y) (same_key key x (equal_is (slice_cmp nat_cmp key x) e))) q slots
    (IsDistinct-from_sorted (slice_cmp nat_cmp) _ sorted)
  where
    equal_is : (o : Ordering) → is_eq o ≡ true → o ≡ Equal
    equal_is Less e = absurd cc
    equal_is Equal e = refl
    equal_is Greater e = absurd cc

-- a key that is below all, and below a further one, is below all with the further one
below : (k key : List ℕ) (slot : Slot) (es : Entries) → slice_cmp nat_cmp k key ≡ Less
    → AllByRecursion (λ q. slice_cmp nat_cmp k q ≡ Less) (keys_of es)
    → AllByRecursion (λ q. slice_cmp nat_cmp k q ≡ Less) (keys_of (with_slot key slot es))
below k key slot [] less all = (less, tt)
below k key slot (e ∷ es) less all = at_order (slice_cmp nat_cmp key e.0) (below k key slot es less all.1)
  where
    at_order : (o : Ordering) → AllByRecursion (λ q. slice_cmp nat_cmp k q ≡ Less) (keys_of (with_slot key slot es))
        → AllByRecursion (λ q. slice_cmp nat_cmp k q ≡ Less)
        (keys_of (match_ordering o ((key, slot) ∷ e ∷ es) ((e.0, slot) ∷ es) (e ∷ with_slot key slot es)))
    at_order Less rest = (less, all)
    at_order Equal rest = all
    at_order Greater rest = (all.0, rest)

-- Slots stay in order where one is set.
pub sorted-with_slot : (key : List ℕ) (slot : Slot) (slots : Entries) → IsStrictlySortedBy (slice_cmp nat_cmp) (keys_of slots)
    → IsStrictlySortedBy (slice_cmp nat_cmp) (keys_of (with_slot key slot slots))
unfolding IsStrictlySortedBy
sorted-with_slot key slot [] sorted = (tt, tt)
sorted-with_slot key slot (e ∷ es) sorted = at_order (slice_cmp nat_cmp key e.0) refl (sorted-with_slot key slot es sorted.1)
  where
    further : slice_cmp nat_cmp key e.0 ≡ Less → (fs : Entries) → AllByRecursion (λ q. slice_cmp nat_cmp e.0 q ≡ Less) (keys_of fs)
        → AllByRecursion (λ q. slice_cmp nat_cmp key q ≡ Less) (keys_of fs)
    further less [] all = tt
    further less (f ∷ fs) all = (key_order.trans key e.0 f.0 less all.0, further less fs all.1)

    at_order : (o : Ordering) → slice_cmp nat_cmp key e.0 ≡ o → IsStrictlySortedBy (slice_cmp nat_cmp) (keys_of (with_slot key slot es))
        → IsStrictlySortedBy (slice_cmp nat_cmp)
        (keys_of (match_ordering o ((key, slot) ∷ e ∷ es) ((e.0, slot) ∷ es) (e ∷ with_slot key slot es)))
    at_order Less is rest = ((is, further is es sorted.0), sorted)
    at_order Equal is rest = sorted
    at_order Greater is rest =
        (below e.0 key slot es (key_order.antisymm e.0 key ∙ ap ordering_reverse is) sorted.0, rest)

-- Slots stay in order where one is taken away.
pub sorted-without : (key : List ℕ) (slots : Entries) → IsStrictlySortedBy (slice_cmp nat_cmp) (keys_of slots)
    → IsStrictlySortedBy (slice_cmp nat_cmp) (keys_of (without key slots))
unfolding IsStrictlySortedBy
sorted-without key [] sorted = tt
sorted-without key (e ∷ es) sorted = at_key (is_key key e.0) (sorted-without key es sorted.1)
  where
    still : (k : List ℕ) (fs : Entries) → AllByRecursion (λ q. slice_cmp nat_cmp k q ≡ Less) (keys_of fs)
        → AllByRecursion (λ q. slice_cmp nat_cmp k q ≡ Less) (keys_of (without key fs))
    still k [] all = tt
    still k (f ∷ fs) all = at_head (is_key key f.0) (still k fs all.1)
      where
        at_head : (b : Bool) → AllByRecursion (λ q. slice_cmp nat_cmp k q ≡ Less) (keys_of (without key fs))
            → AllByRecursion (λ q. slice_cmp nat_cmp k q ≡ Less) (keys_of (if b then fs else f ∷ without key fs))
        at_head true rest = all.1
        at_head false rest = (all.0, rest)

    at_key : (b : Bool) → IsStrictlySortedBy (slice_cmp nat_cmp) (keys_of (without key es))
        → IsStrictlySortedBy (slice_cmp nat_cmp) (keys_of (if b then es else e ∷ without key es))
    at_key true rest = sorted.1
    at_key false rest = (still e.0 es sorted.0, rest)

-- A key that has no slot isn't taken away.
pub without-none : (key : List ℕ) (slots : Entries) → slot_at key slots ≡ None → without key slots ≡ slots
without-none key [] none = refl
without-none key (e ∷ es) none = at_key (is_key key e.0) refl (without-none key es)
  where
    at_key : (b : Bool) → is_key key e.0 ≡ b → (slot_at key es ≡ None → without key es ≡ es) → without key (e ∷ es) ≡ e ∷ es
    at_key true k rest = absurd (let f : Some e.1 ≡ None = sym (lookup_head (is_key key) e es k) ∙ none in cc)
    at_key false k rest = rw k (ap (λ es. e ∷ es) (rest (sym (lookup_tail (is_key key) e es k) ∙ none)))
