-- What a shard keeps stays tied to its history by a sweep.
use Rattle.std.proofs.Common.{◌≡◌, ◌≤◌, ◌∙◌, ap, sym, refl, subst, ℕ, ◌-◌, List, [], ◌∷◌, Bool, true, false, if◌then◌else◌, ◌&&◌, ◌||◌}
use Rattle.std.proofs.Common.{cond, Option, Some, None, bytes_eq, filter, max, nat_le, arith}
use Rattle.std.specs.declared.cmp.Ordering.TheVariants.{Less, Equal}
use Rattle.std.specs.List.{filter_map, AllByRecursion}
use Rattle.std.specs.List.Sorted.{IsStrictlySortedBy}
use Rattle.std.specs.Cmp.{nat_cmp_total, IsTotalOrder, eq_by_cmp_equiv}
use Rattle.std.specs.Cmp.Lexicographic.{slice_cmp, lists_total}
use Rattle.std.specs.Ordering.{nat_cmp}
use Rattle.std.specs.BTreeMap.{is_at}
use Rattle.std.specs.Map.{keys_of as keys_in, remove_entry}
use Rattle.std.proofs.lemmas.Bool.Decides.{nat_tests}
use Rattle.std.proofs.lemmas.Map.{lookup-remove_entry}
use Rattle.std.proofs.lemmas.Map.Keys.{IsDistinct-from_sorted}
use Rattle.std.proofs.lemmas.Map.Text.{is_eq-slice_cmp}
use Rattle.gr_stamp.specs.declared.change.Change.{Change}
use Rattle.gr_stamp.specs.declared.stamp.TheConstants.{LIMIT}
use Rattle.gr_history.specs.declared.identity.Identity.{Identity}
use Rattle.gr_history.specs.declared.deed.Deed.{Deed}
use Rattle.gr_history.specs.declared.deed.Deed.TheVariants.{Swept}
use Rattle.gr_history.specs.Ids.{id_of}
use Rattle.gr_history.specs.Clock.{clock, since}
use Rattle.gr_history.specs.Floor.{floor, removal_of, greatest_ver}
use Rattle.gr_history.specs.Recipients.{recipients}
use Rattle.gr_history.specs.Stable.{due, is_due, is_due_from, is_stable}
use Rattle.gr_history.specs.Standing.{changes, lasting, standing, names}
use Rattle.gr_history.specs.Regions.{keys_of}
use Rattle.gr_stamp.specs.Winner.{winner, is_removal}
use Rattle.gr_slots.specs.declared.slot.Slot.{Slot}
use Rattle.gr_slots.specs.Slots.{Entries, slot_at, without, timed_out, is_timed_out}
use Rattle.gr_slots.proofs.Found.{same_key}
use Rattle.gr_slots.proofs.Ordered.{found_at, is_equal}
use Rattle.gr_stable.proofs.Counting.{heard_next}
use Rattle.gr_history.specs.Calls.{ver_of}
use Rattle.gr_shard.specs.Asking.{Hold}
use Rattle.gr_shard.specs.Entries.{slot_from, slot_of, slot_ver}
use Rattle.gr_shard.specs.Looked.{IsLooked}
use Rattle.gr_shard.specs.Sweeps.{stands_stable, without_all, risen}
use Rattle.gr_shard.specs.View.{IsKept, Kept}
use Rattle.gr_law.proofs.Turns.{swept_untold}
use Rattle.gr_shard.proofs.Following.{untold_in_step}
use Rattle.gr_shard.proofs.Left.{slots-kept}
use Rattle.gr_shard.proofs.Made.{slot_ver-slot_of}
use Rattle.gr_shard.proofs.Slots.{unchanged}

total : IsTotalOrder (slice_cmp nat_cmp)
total = lists_total nat_cmp_total

-- ---- what is found once keys were dropped

below-without : (least : List ℕ) (test : List ℕ → Bool) (slots : Entries)
    → AllByRecursion (λ key. slice_cmp nat_cmp least key ≡ Less) (keys_in slots)
    → AllByRecursion (λ key. slice_cmp nat_cmp least key ≡ Less) (keys_in (remove_entry test slots))
below-without least test [] all = tt
below-without least test (e ∷ es) all = at_test (test e.0) (below-without least test es all.1)
  where
    at_test : (b : Bool) → AllByRecursion (λ key. slice_cmp nat_cmp least key ≡ Less) (keys_in (remove_entry test es))
        → AllByRecursion (λ key. slice_cmp nat_cmp least key ≡ Less) (keys_in (cond b es (e ∷ remove_entry test es)))
    at_test true rest = all.1
    at_test false rest = (all.0, rest)

sorted-without : (test : List ℕ → Bool) (slots : Entries) → IsStrictlySortedBy (slice_cmp nat_cmp) (keys_in slots)
    → IsStrictlySortedBy (slice_cmp nat_cmp) (keys_in (remove_entry test slots))
unfolding IsStrictlySortedBy
sorted-without test [] sorted = tt
sorted-without test (e ∷ es) sorted = at_test (test e.0) (sorted-without test es sorted.1)
  where
    at_test : (b : Bool) → IsStrictlySortedBy (slice_cmp nat_cmp) (keys_in (remove_entry test es))
        → IsStrictlySortedBy (slice_cmp nat_cmp) (keys_in (cond b es (e ∷ remove_entry test es)))
    at_test true rest = sorted.1
    at_test false rest = (below-without e.0 test es sorted.0, rest)

slot_at-without : (q key : List ℕ) (slots : Entries) → IsStrictlySortedBy (slice_cmp nat_cmp) (keys_in slots)
    → slot_at q (without key slots) ≡ (if bytes_eq key q then None else slot_at q slots)
slot_at-without q key slots sorted =
    lookup-remove_entry (eq_by_cmp_equiv total) (is_at (slice_cmp nat_cmp key))
    (λ x y is. ap (λ k. is_at (slice_cmp nat_cmp k) y) (same_key key x (equal_at key x is)))
    q slots (IsDistinct-from_sorted (slice_cmp nat_cmp) _ sorted)
    ∙ ap (λ b. if b then None else slot_at q slots) (is_eq-slice_cmp key q)
  where
    equal_at : (one two : List ℕ) → is_at (slice_cmp nat_cmp one) two ≡ true → slice_cmp nat_cmp one two ≡ Equal
    equal_at one two is = is_equal (slice_cmp nat_cmp one two) is

pub slot_at-without_all : (q : List ℕ) (keys : List (List ℕ)) (slots : Entries) → IsStrictlySortedBy (slice_cmp nat_cmp) (keys_in slots)
    → slot_at q (without_all keys slots) ≡ (if names q keys then None else slot_at q slots)
slot_at-without_all q [] slots sorted = refl
slot_at-without_all q (key ∷ rest) slots sorted =
    slot_at-without_all q rest (without key slots) (sorted-without (is_at (slice_cmp nat_cmp key)) slots sorted)
    ∙ ap (λ found. if names q rest then None else found) (slot_at-without q key slots sorted)
    ∙ either (bytes_eq key q) (names q rest)
  where
    either : (here later : Bool)
        → (if later then None else (if here then None else slot_at q slots)) ≡ (if here || later then None else slot_at q slots)
    either true true = refl
    either true false = refl
    either false true = refl
    either false false = refl

-- ---- what a sweep lets expire is what is due

-- Of what is found at keys, those that pass two tests, one after the other.
twice_kept : (find : List ℕ → Option Slot) (out : List ℕ × Slot → Bool) (stable due_ : List ℕ → Bool)
    → ((key : List ℕ) → find key ≡ None → due_ key ≡ false)
    → ((key : List ℕ) (slot : Slot) → find key ≡ Some slot → due_ key ≡ (out (key, slot) && stable key))
    → (keys : List (List ℕ)) → filter stable (keys_in (filter out (found_at find keys))) ≡ filter due_ keys
twice_kept find out stable due_ none some [] = refl
twice_kept find out stable due_ none some (key ∷ keys) = at_key (find key) refl (twice_kept find out stable due_ none some keys)
  where
    at_key : (o : Option Slot) → find key ≡ o → filter stable (keys_in (filter out (found_at find keys))) ≡ filter due_ keys
        → filter stable (keys_in (filter out (found_at find (key ∷ keys)))) ≡ filter due_ (key ∷ keys)
    at_key None is rest = rw (is, none key is) rest
    at_key (Some slot) is rest = rw (is, some key slot is) (at_tests (out (key, slot)) (stable key) refl refl)
      where
        at_tests : (b c : Bool) → out (key, slot) ≡ b → stable key ≡ c
            → filter stable (keys_in (if b then (key, slot) ∷ filter out (found_at find keys) else filter out (found_at find keys)))
            ≡ (if b && c then key ∷ filter due_ keys else filter due_ keys)
        at_tests true true b_is c_is = rw c_is (ap (λ keys. key ∷ keys) rest)
        at_tests true false b_is c_is = rw c_is rest
        at_tests false c b_is c_is = rest

module _ (id : Identity) (opening moment looked : ℕ) (now : Kept) (past : List Deed) where
  none_due : IsKept id opening now past → (key : List ℕ) → slot_of (standing key past) (since key past) ≡ None
      → is_due id moment past key ≡ false
  none_due kept key none = at_standing (standing key past) refl none
    where
      at_standing : (o : Option Change) → standing key past ≡ o → slot_of o (since key past) ≡ None
          → is_due_from id moment o (since key past) past ≡ false
      at_standing None is none_ = refl
      at_standing (Some change) is none_ = absurd cc

  some_due : IsKept id opening now past → IsLooked id looked past → (key : List ℕ) (slot : Slot)
      → slot_of (standing key past) (since key past) ≡ Some slot
      → is_due id moment past key ≡ (is_timed_out looked (max moment now.clock) slot && stands_stable id past (standing key past))
  some_due kept known_of key slot is = at_standing (standing key past) refl
    where
      at_standing : (o : Option Change) → standing key past ≡ o
          → is_due_from id moment o (since key past) past ≡ (is_timed_out looked (max moment now.clock) slot && stands_stable id past o)
      at_standing None none = absurd (let e : None ≡ Some slot = ap (λ o. slot_of o (since key past)) (sym none) ∙ is in cc)
      at_standing (Some change) stands =
          let from = since key past in
          let slot_is : slot_from change from ≡ slot = some_is (ap (λ o. slot_of o from) (sym stands) ∙ is) in
          sym (ap (λ s. is_timed_out looked (max moment now.clock) s && is_stable id (id_of change) past) (sym slot_is)
          ∙ ap (λ at. is_timed_out looked (max moment at) (slot_from change from) && is_stable id (id_of change) past) kept.clocked
          ∙ both (is_removal change.kind) (nat_le looked from) (nat_le 600 (max moment (clock past) - from)) (is_stable id (id_of change) past)
          (λ sooner removal. known_of.unstable key (slot_from change from) (ap (λ o. slot_of o from) stands) removal
          (grind (arith, nat_tests))))
        where
          some_is : {one two : Slot} → Some one ≡ Some two → one ≡ two
          some_is e = cc

          both : (a f b c : Bool) → (f ≡ false → a ≡ true → c ≡ false) → ((a && (f && b)) && c) ≡ (a && (b && c))
          both true true b c unstable = refl
          both true false true c unstable = sym (unstable refl refl)
          both true false false c unstable = refl
          both false f b c unstable = refl

  pub expiring-due : IsKept id opening now past → IsLooked id looked past → IsStrictlySortedBy (slice_cmp nat_cmp) (keys_in now.slots)
      → filter (λ key. stands_stable id past (standing key past)) (timed_out looked (max moment now.clock) now.slots) ≡ due id moment past
  expiring-due kept known_of ordered =
      ap (λ slots. filter (λ key. stands_stable id past (standing key past)) (timed_out looked (max moment now.clock) slots))
      (slots-kept id opening now past kept ordered)
      ∙ twice_kept (λ key. slot_of (standing key past) (since key past)) (λ entry. is_timed_out looked (max moment now.clock) entry.1)
      (λ key. stands_stable id past (standing key past)) (is_due id moment past)
      (none_due kept) (some_due kept known_of) (keys_of (changes past))

-- Of the keys that have timed out, but for those that were looked at, those at which what stands is stable are what is due.
pub expired_is : (id : Identity) (opening moment clock_ looked : ℕ) (now : Kept) (past : List Deed) (out expired : List (List ℕ))
    → IsKept id opening now past → IsLooked id looked past → IsStrictlySortedBy (slice_cmp nat_cmp) (keys_in now.slots)
    → clock_ ≡ max moment now.clock
    → out ≡ timed_out looked clock_ now.slots → expired ≡ filter (λ key. stands_stable id past (standing key past)) out
    → expired ≡ due id moment past
expired_is id opening moment clock_ looked now past out expired kept known_of ordered clock_is out_is is =
    is ∙ ap (filter (λ key. stands_stable id past (standing key past))) (out_is ∙ ap (λ n. timed_out looked n now.slots) clock_is)
    ∙ expiring-due id opening moment looked now past kept known_of ordered

-- what stands in a slot is the change that stands
pub slot_stable : (id : Identity) (past : List Deed) (stands : Option Change) (from : ℕ) (slot : Slot) → Some slot ≡ slot_of stands from
    → is_stable id (record { member = slot.stamp.member; rv = slot.stamp.rv }) past ≡ stands_stable id past stands
slot_stable id past None from slot is = absurd cc
slot_stable id past (Some change) from slot is =
    let same : slot ≡ slot_from change from = some_is is in
    ap (λ (s : Slot). is_stable id (record { member = s.stamp.member; rv = s.stamp.rv }) past) same
  where
    some_is : {one two : Slot} → Some one ≡ Some two → one ≡ two
    some_is e = cc

-- ---- the floor after a sweep

-- what is due is a removal that stands
due_stands : (id : Identity) (moment : ℕ) (past : List Deed) (key : List ℕ) → is_due id moment past key ≡ true
    → removal_of (standing key past) ≡ standing key past
due_stands id moment past key is = at_standing (standing key past) is
  where
    at_standing : (o : Option Change) → is_due_from id moment o (since key past) past ≡ true → removal_of o ≡ o
    at_standing None e = refl
    at_standing (Some change) e = at_kind (is_removal change.kind) e
      where
        at_kind : (b : Bool) → (b && (nat_le 600 (max moment (clock past) - since key past) && is_stable id (id_of change) past)) ≡ true
            → (if b then Some change else None) ≡ Some change
        at_kind true f = refl
        at_kind false f = absurd cc

risen-greatest : (slots : Entries) (past : List Deed) (floor_ : ℕ) (keys : List (List ℕ))
    → ((key : List ℕ) → slot_ver (slot_at key slots) ≡ ver_of (standing key past))
    → AllByRecursion (λ key. removal_of (standing key past) ≡ standing key past) keys
    → risen slots floor_ keys ≡ max (greatest_ver (filter_map (λ key. removal_of (standing key past)) keys)) floor_
risen-greatest slots past floor_ [] same all = omega arith
risen-greatest slots past floor_ (key ∷ keys) same all =
    risen-greatest slots past (max floor_ (slot_ver (slot_at key slots))) keys same all.1
    ∙ ap (λ v. max (greatest_ver (filter_map (λ key. removal_of (standing key past)) keys)) (max floor_ v)) (same key)
    ∙ at_standing (standing key past) refl
  where
    more : ℕ
    more = greatest_ver (filter_map (λ key. removal_of (standing key past)) keys)

    sorted_out : (a b c : ℕ) → max a (max b c) ≡ max (max c a) b
    sorted_out a b c = omega arith

    at_standing : (o : Option Change) → standing key past ≡ o
        → max more (max floor_ (ver_of o)) ≡ max (greatest_ver (filter_map (λ key. removal_of (standing key past)) (key ∷ keys))) floor_
    at_standing None is = rw is (omega arith)
    at_standing (Some change) is = rw (all.0, is) (sorted_out more floor_ change.stamp.ver)

all_due : (id : Identity) (moment : ℕ) (past : List Deed) (keys : List (List ℕ))
    → AllByRecursion (λ key. removal_of (standing key past) ≡ standing key past) (filter (is_due id moment past) keys)
all_due id moment past [] = tt
all_due id moment past (key ∷ keys) = at_test (is_due id moment past key) refl (all_due id moment past keys)
  where
    at_test : (b : Bool) → is_due id moment past key ≡ b
        → AllByRecursion (λ key. removal_of (standing key past) ≡ standing key past) (filter (is_due id moment past) keys)
        → AllByRecursion (λ key. removal_of (standing key past) ≡ standing key past)
        (if b then key ∷ filter (is_due id moment past) keys else filter (is_due id moment past) keys)
    at_test true is rest = (due_stands id moment past key is, rest)
    at_test false is rest = rest

-- ---- all together

stands_swept : (slots : Entries) (moment : ℕ) (expired : List (List ℕ)) (past : List Deed)
    → IsStrictlySortedBy (slice_cmp nat_cmp) (keys_in slots) → Hold slots past
    → Hold (without_all expired slots) (Swept moment expired ∷ past)
stands_swept slots moment expired past ordered stands key =
    slot_at-without_all key expired slots ordered ∙ at_named (names key expired) refl
  where
    left : Bool → Option Change
    left b = winner key (if b then [] else lasting key past)

    at_named : (b : Bool) → names key expired ≡ b
        → (if b then None else slot_at key slots)
        ≡ slot_of (standing key (Swept moment expired ∷ past)) (since key (Swept moment expired ∷ past))
    at_named true is =
        sym (ap (λ o. slot_of o (since key (Swept moment expired ∷ past))) (ap left is))
    at_named false is = stands key ∙ sym (unchanged key (Swept moment expired) past (ap left is))

module _ (id : Identity) (opening moment : ℕ) (now : Kept) (past : List Deed) where
  -- The floor, risen to the versions of what is due, is the one behind the sweep.
  pub floor_swept : (expired : List (List ℕ)) → IsKept id opening now past → expired ≡ due id moment past
      → risen now.slots now.floor expired ≡ floor opening (Swept moment expired ∷ past)
  floor_swept expired kept is =
      risen-greatest now.slots past now.floor expired
      (λ key. ap slot_ver (kept.stands key) ∙ slot_ver-slot_of (standing key past) (since key past))
      (subst (λ keys. AllByRecursion (λ key. removal_of (standing key past) ≡ standing key past) keys) (sym is)
      (all_due id moment past (keys_of (changes past))))
      ∙ ap (max (greatest_ver (filter_map (λ key. removal_of (standing key past)) expired))) kept.floored

  -- Kept before a sweep, all is kept after it.
  pub kept_swept : (expired : List (List ℕ)) → IsKept id opening now past → IsStrictlySortedBy (slice_cmp nat_cmp) (keys_in now.slots)
      → expired ≡ due id moment past → risen now.slots now.floor expired ≤ LIMIT
      → IsKept id opening
      (record now {
        slots = without_all expired now.slots;
        floor = risen now.slots now.floor expired;
        clock = max moment now.clock;
      })
      (Swept moment expired ∷ past)
  unfolding recipients
  kept_swept expired kept ordered is low = record {
    place = kept.place;
    lawful = (is, kept.lawful);
    of_shard = kept.of_shard;
    named = (tt, kept.named);
    stands = stands_swept now.slots moment expired past ordered kept.stands;
    noted = kept.noted;
    floored = floor_swept expired kept is;
    low = low;
    clocked = ap (max moment) kept.clocked;
    imaged = kept.imaged;
    aimed = kept.aimed;
    told = kept.told ∙ sym (heard_next (Swept moment expired) past);
    in_step = untold_in_step (Swept moment expired) past now.queries (λ client name. refl)
        (swept_untold id opening moment expired past is) kept.in_step;
  }
