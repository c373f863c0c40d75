-- The region that a shard leaves is the one that stands after its history.
use Rattle.std.proofs.Common.{◌≡◌, ◌∙◌, ap, sym, refl, subst, ℕ, List, [], ◌∷◌, Bool, true, false, ◌||◌, Option, Some, None}
use Rattle.std.proofs.Common.{inl, inr}
use Rattle.std.specs.declared.cmp.Ordering.{Ordering}
use Rattle.std.specs.declared.cmp.Ordering.TheVariants.{Less, Equal, Greater}
use Rattle.std.specs.List.{filter_map, list_any, AllByRecursion}
use Rattle.std.specs.List.Sorted.{IsStrictlySortedBy}
use Rattle.std.specs.Ordering.{nat_cmp, match_ordering, ordering_reverse}
use Rattle.std.specs.Cmp.{nat_cmp_total, IsTotalOrder}
use Rattle.std.specs.Cmp.Lexicographic.{slice_cmp, lists_total}
use Rattle.std.specs.BTreeMap.{is_at}
use Rattle.std.specs.Map.{keys_of as keys_in}
use Rattle.std.proofs.lemmas.Map.Text.{is_eq-slice_cmp}
use Rattle.std.proofs.lemmas.Slice.Eq.{bytes_eq-Decides}
use Rattle.gr_stamp.specs.declared.change.Change.{Change}
use Rattle.gr_history.specs.declared.identity.Identity.{Identity}
use Rattle.gr_history.specs.declared.deed.Deed.{Deed}
use Rattle.gr_history.specs.declared.record.Region.{Region}
use Rattle.gr_history.specs.Clock.{since}
use Rattle.gr_history.specs.Standing.{changes, standing}
use Rattle.gr_history.specs.Regions.{with_key, keys_of, all_standing, IsRegionOf}
use Rattle.gr_law.specs.Grids.{Among}
use Rattle.gr_law.proofs.Images.{key_of_change, lasting_came}
use Rattle.gr_law.proofs.Steps.{standing_best}
use Rattle.gr_slots.specs.declared.slot.Slot.{Slot}
use Rattle.gr_slots.specs.Slots.{Entries}
use Rattle.gr_slots.proofs.Found.{same_key}
use Rattle.gr_slots.proofs.Ordered.{found_at, tabulated}
use Rattle.gr_shard.specs.Asking.{Hold}
use Rattle.gr_shard.specs.Entries.{slot_of, changes_in, puts_of, removals_of}
use Rattle.gr_shard.specs.View.{IsKept, Kept}

total : IsTotalOrder (slice_cmp nat_cmp)
total = lists_total nat_cmp_total

-- ---- the keys of changes ascend

after_with_key : (least key : List ℕ) (keys : List (List ℕ)) → slice_cmp nat_cmp least key ≡ Less
    → AllByRecursion (λ other. slice_cmp nat_cmp least other ≡ Less) keys
    → AllByRecursion (λ other. slice_cmp nat_cmp least other ≡ Less) (with_key key keys)
after_with_key least key [] less all = (less, tt)
after_with_key least key (first ∷ keys) less all =
    at_order (slice_cmp nat_cmp key first) (after_with_key least key keys less all.1)
  where
    at_order : (o : Ordering) → AllByRecursion (λ other. slice_cmp nat_cmp least other ≡ Less) (with_key key keys)
        → AllByRecursion (λ other. slice_cmp nat_cmp least other ≡ Less)
        (match_ordering o (key ∷ first ∷ keys) (first ∷ keys) (first ∷ with_key key keys))
    at_order Less rest = (less, all)
    at_order Equal rest = all
    at_order Greater rest = (all.0, rest)

before_all : (key first : List ℕ) (keys : List (List ℕ)) → slice_cmp nat_cmp key first ≡ Less
    → AllByRecursion (λ other. slice_cmp nat_cmp first other ≡ Less) keys
    → AllByRecursion (λ other. slice_cmp nat_cmp key other ≡ Less) keys
before_all key first [] less all = tt
before_all key first (other ∷ keys) less all = (total.trans key first other less all.0, before_all key first keys less all.1)

pub with_key-sorted : (key : List ℕ) (keys : List (List ℕ)) → IsStrictlySortedBy (slice_cmp nat_cmp) keys
    → IsStrictlySortedBy (slice_cmp nat_cmp) (with_key key keys)
unfolding IsStrictlySortedBy
with_key-sorted key [] sorted = (tt, tt)
with_key-sorted key (first ∷ keys) sorted = at_order (slice_cmp nat_cmp key first) refl (with_key-sorted key keys sorted.1)
  where
    at_order : (o : Ordering) → slice_cmp nat_cmp key first ≡ o → IsStrictlySortedBy (slice_cmp nat_cmp) (with_key key keys)
        → IsStrictlySortedBy (slice_cmp nat_cmp) (match_ordering o (key ∷ first ∷ keys) (first ∷ keys) (first ∷ with_key key keys))
    at_order Less is rest = ((is, before_all key first keys is sorted.0), sorted)
    at_order Equal is rest = sorted
    at_order Greater is rest =
        let less : slice_cmp nat_cmp first key ≡ Less = total.antisymm first key ∙ ap ordering_reverse is in
        (after_with_key first key keys less sorted.0, rest)

pub keys_of-sorted : (all : List Change) → IsStrictlySortedBy (slice_cmp nat_cmp) (keys_of all)
unfolding IsStrictlySortedBy
keys_of-sorted [] = tt
keys_of-sorted (change ∷ past) = with_key-sorted change.key (keys_of past) (keys_of-sorted past)

-- ---- what slots hold is what stands

any_of : (key : List ℕ) (keys : List (List ℕ)) → Among key keys → list_any (is_at (slice_cmp nat_cmp key)) keys ≡ true
any_of key [] a = absurd a
any_of key (first ∷ keys) (inl is) =
    ap (λ b. b || list_any (is_at (slice_cmp nat_cmp key)) keys) (is_eq-slice_cmp key first ∙ (bytes_eq-Decides key first).1 is)
any_of key (first ∷ keys) (inr a) = or_right (is_at (slice_cmp nat_cmp key) first) (any_of key keys a)
  where
    or_right : (b : Bool) {c : Bool} → c ≡ true → (b || c) ≡ true
    or_right true e = refl
    or_right false e = e

pub slot_stands : (past : List Deed) (key : List ℕ) (slot : Slot) → slot_of (standing key past) (since key past) ≡ Some slot
    → list_any (is_at (slice_cmp nat_cmp key)) (keys_of (changes past)) ≡ true
slot_stands past key slot is = at_standing (standing key past) refl
  where
    at_standing : (o : Option Change) → standing key past ≡ o → list_any (is_at (slice_cmp nat_cmp key)) (keys_of (changes past)) ≡ true
    at_standing None e = absurd (let none : None ≡ Some slot = ap (λ s. slot_of s (since key past)) (sym e) ∙ is in cc)
    at_standing (Some change) e =
        let best = standing_best key past change e in
        let same : change.key ≡ key = (bytes_eq-Decides change.key key).0 best.of_key in
        any_of key (keys_of (changes past))
        (subst (λ k. Among k (keys_of (changes past))) same
        (key_of_change change (changes past) (lasting_came key past change best.among)))

found_stands : (past : List Deed) (keys : List (List ℕ))
    → changes_in (found_at (λ key. slot_of (standing key past) (since key past)) keys) ≡ filter_map (λ key. standing key past) keys
found_stands past [] = refl
found_stands past (key ∷ keys) = at_standing (standing key past) refl (found_stands past keys)
  where
    find : List ℕ → Option Slot
    find key = slot_of (standing key past) (since key past)

    at_standing : (o : Option Change) → standing key past ≡ o
        → changes_in (found_at find keys) ≡ filter_map (λ key. standing key past) keys
        → changes_in (found_at find (key ∷ keys)) ≡ filter_map (λ key. standing key past) (key ∷ keys)
    at_standing None e rest = rw e rest
    at_standing (Some change) e rest =
        let same : change.key ≡ key = (bytes_eq-Decides change.key key).0 (standing_best key past change e).of_key in
        rw e (ap (λ k. record { key = k; kind = change.kind; stamp = change.stamp } ∷ changes_in (found_at find keys)) (sym same)
        ∙ ap (λ changes. change ∷ changes) rest)

-- The slots that hold what stands are those that the history has at the keys of its changes.
pub slots-held : (slots : Entries) (past : List Deed) → Hold slots past → IsStrictlySortedBy (slice_cmp nat_cmp) (keys_in slots)
    → slots ≡ found_at (λ key. slot_of (standing key past) (since key past)) (keys_of (changes past))
slots-held slots past hold ordered =
    tabulated (slice_cmp nat_cmp) total same_key slots (keys_of (changes past))
    (λ key. slot_of (standing key past) (since key past)) ordered (keys_of-sorted (changes past)) hold
    (slot_stands past)

pub slots-kept : (id : Identity) (opening : ℕ) (now : Kept) (past : List Deed) → IsKept id opening now past
    → IsStrictlySortedBy (slice_cmp nat_cmp) (keys_in now.slots)
    → now.slots ≡ found_at (λ key. slot_of (standing key past) (since key past)) (keys_of (changes past))
slots-kept id opening now past kept ordered = slots-held now.slots past kept.stands ordered

pub changes_in-kept : (id : Identity) (opening : ℕ) (now : Kept) (past : List Deed) → IsKept id opening now past
    → IsStrictlySortedBy (slice_cmp nat_cmp) (keys_in now.slots) → changes_in now.slots ≡ all_standing past
changes_in-kept id opening now past kept ordered =
    ap changes_in (slots-kept id opening now past kept ordered)
    ∙ found_stands past (keys_of (changes past))

pub region-kept : (id : Identity) (opening : ℕ) (now : Kept) (past : List Deed) → IsKept id opening now past
    → IsStrictlySortedBy (slice_cmp nat_cmp) (keys_in now.slots) → (region : Region)
    → region.rows ≡ puts_of (changes_in now.slots) → region.tombstones ≡ removals_of (changes_in now.slots)
    → region.floor ≡ now.floor → region.vector.ids ≡ now.vector
    → IsRegionOf opening past region
region-kept id opening now past kept ordered region rows tombstones floor_is vector_is =
    let same = changes_in-kept id opening now past kept ordered in
    record {
      rows_are = rows ∙ ap puts_of same;
      tombstones_are = tombstones ∙ ap removals_of same;
      floor_is = floor_is ∙ kept.floored;
      vector_is = vector_is ∙ kept.noted;
    }
