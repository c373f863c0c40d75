-- Each removal that stands stays listed.
use Rattle.std.proofs.Common.{◌≡◌, ◌∙◌, ap, sym, subst, refl, Result, Ok, Err, ℕ, List, [], ◌∷◌, ◌++◌}
use Rattle.std.proofs.Common.{Bool, true, false, ◌||◌, if◌then◌else◌, Option, Some, None, is_some}
use Rattle.std.specs.Prelude.{cond, OnOk, OnErr}
use Rattle.std.specs.Ordering.{nat_cmp}
use Rattle.std.specs.Cmp.Lexicographic.{slice_cmp}
use Rattle.std.specs.List.Sorted.{IsStrictlySortedBy}
use Rattle.std.specs.Map.{keys_of}
use Rattle.std.specs.BTreeMap.{is_at, IsOrdered}
use Rattle.std.proofs.lemmas.List.Folds.{list_any-append}
use Rattle.gr_slots.specs.declared.slot.Slot.{Slot}
use Rattle.gr_slots.specs.Slots.{Entries, slot_at, with_slot, without, removed_at}
use Rattle.gr_slots.specs.Removals.{Moments, keys_at, is_listed, is_moment, is_removed_at, is_one, AreIndexed}
use Rattle.gr_slots.proofs.Found.{at-with_slot, at-without, sorted-with_slot}
use Rattle.gr_slots.proofs.Timed.{one_key, key_itself}

abbrev is_key : List ℕ → List ℕ → Bool
is_key key = is_at (slice_cmp nat_cmp key)

pub added : (key : List ℕ) (keys : List (List ℕ)) (new : Bool) → new ≡ true
    → is_listed key (keys ++ (if new then key ∷ [] else [])) ≡ true
added key keys false e = absurd cc
added key keys true e =
    list_any-append (is_key key) keys (key ∷ []) ∙ ap (λ b. is_listed key keys || (b || false)) (key_itself key)
    ∙ or_true (is_listed key keys)
  where
    or_true : (b : Bool) → (b || true) ≡ true
    or_true true = refl
    or_true false = refl

or_more : (b x y : Bool) → (x ≡ true → y ≡ true) → (b || x) ≡ true → (b || y) ≡ true
or_more true x y more e = refl
or_more false x y more e = more e

or_second : (b x : Bool) → x ≡ true → (b || x) ≡ true
or_second true x e = refl
or_second false x e = e

-- what is listed in the one lists is in the others
abbrev StaysListed : Moments → Moments → Type 0
StaysListed before after = (q : List ℕ) (at : ℕ) → is_listed q (keys_at before at) ≡ true → is_listed q (keys_at after at) ≡ true

-- where more is listed
pub more_listed : (unlisted : Option (List ℕ)) (slots : Entries) (before after : Moments) → AreIndexed unlisted slots before
    → StaysListed before after → IsOrdered nat_cmp after → AreIndexed unlisted slots after
more_listed unlisted slots before after are stays in_time = record {
  ordered = are.ordered;
  in_time = in_time;
  listed = λ q at e. or_more (is_one unlisted q) (is_listed q (keys_at before at)) (is_listed q (keys_at after at)) (stays q at)
      (are.listed q at e);
}

-- where what was unlisted is listed
pub all_listed : (key : List ℕ) (slots : Entries) (before after : Moments) → AreIndexed (Some key) slots before
    → StaysListed before after → IsOrdered nat_cmp after
    → ((at : ℕ) → is_moment at (removed_at (slot_at key slots)) ≡ true → is_listed key (keys_at after at) ≡ true)
    → AreIndexed None slots after
all_listed key slots before after are stays in_time new = record {
  ordered = are.ordered;
  in_time = in_time;
  listed = λ q at e. at_key q at (is_key key q) refl e;
}
  where
    at_key : (q : List ℕ) (at : ℕ) (b : Bool) → is_key key q ≡ b → is_removed_at at (slot_at q slots) ≡ true
        → is_listed q (keys_at after at) ≡ true
    at_key q at true k e =
        let is : key ≡ q = one_key key q k in
        subst (λ q. is_listed q (keys_at after at) ≡ true) is (new at (ap (λ q. is_removed_at at (slot_at q slots)) is ∙ e))
    at_key q at false k e =
        stays q at (subst (λ b. (b || is_listed q (keys_at before at)) ≡ true) k (are.listed q at e))

-- where a slot was put at a key and is unlisted, if it is a removal
pub put_listed : (slots next : Entries) (removals : Moments) (key : List ℕ) (slot : Slot) (unlisted : Option (List ℕ))
    → AreIndexed None slots removals → next ≡ with_slot key slot slots → IsStrictlySortedBy (slice_cmp nat_cmp) (keys_of next)
    → unlisted ≡ (if is_some (removed_at (Some slot)) then Some key else None) → AreIndexed unlisted next removals
put_listed slots next removals key slot unlisted are set ordered waits = record {
  ordered = ordered;
  in_time = are.in_time;
  listed = λ q at e. at_key q at (is_key key q) refl e;
}
  where
    found : (q : List ℕ) (b : Bool) → is_key key q ≡ b → slot_at q next ≡ cond b (Some slot) (slot_at q slots)
    found q b k = ap (slot_at q) set ∙ at-with_slot q key slot slots ∙ ap (λ b. cond b (Some slot) (slot_at q slots)) k

    removal : (at : ℕ) (o : Option ℕ) → is_moment at o ≡ true → is_some o ≡ true
    removal at None e = absurd cc
    removal at (Some moment) e = refl

    at_key : (q : List ℕ) (at : ℕ) (b : Bool) → is_key key q ≡ b → is_removed_at at (slot_at q next) ≡ true
        → (is_one unlisted q || is_listed q (keys_at removals at)) ≡ true
    at_key q at true k e =
        let waiting : unlisted ≡ Some key = waits
        ∙ ap (λ b. if b then Some key else None) (removal at (removed_at (Some slot)) (ap (is_removed_at at) (sym (found q true k)) ∙ e)) in
        ap (λ u. is_one u q || is_listed q (keys_at removals at)) waiting ∙ ap (λ b. b || is_listed q (keys_at removals at)) k
    at_key q at false k e =
        or_second (is_one unlisted q) (is_listed q (keys_at removals at))
        (are.listed q at (ap (is_removed_at at) (sym (found q false k)) ∙ e))

-- where a slot was listed, if it is a removal, and then set, or not
pub set_listed : {T E : Type 0} (result : Result T E) (slots next : Entries) (before after : Moments) (key : List ℕ) (slot : Slot)
    → AreIndexed None slots before → StaysListed before after → IsOrdered nat_cmp after
    → ((at : ℕ) → is_moment at (removed_at (Some slot)) ≡ true → is_listed key (keys_at after at) ≡ true)
    → OnOk result (next ≡ with_slot key slot slots) → OnErr result (next ≡ slots) → AreIndexed None next after
set_listed (Err e) slots next before after key slot are stays in_time new set err =
    subst (λ slots. AreIndexed None slots after) (sym err) (more_listed None slots before after are stays in_time)
set_listed (Ok u) slots next before after key slot are stays in_time new set err = record {
  ordered = subst (λ es. IsStrictlySortedBy (slice_cmp nat_cmp) (keys_of es)) (sym set) (sorted-with_slot key slot slots are.ordered);
  in_time = in_time;
  listed = λ q at e. at_key q at (is_key key q) refl e;
}
  where
    found : (q : List ℕ) (b : Bool) → is_key key q ≡ b → slot_at q next ≡ cond b (Some slot) (slot_at q slots)
    found q b k = ap (slot_at q) set ∙ at-with_slot q key slot slots ∙ ap (λ b. cond b (Some slot) (slot_at q slots)) k

    at_key : (q : List ℕ) (at : ℕ) (b : Bool) → is_key key q ≡ b → is_removed_at at (slot_at q next) ≡ true
        → is_listed q (keys_at after at) ≡ true
    at_key q at true k e =
        subst (λ q. is_listed q (keys_at after at) ≡ true) (one_key key q k)
        (new at (ap (is_removed_at at) (sym (found q true k)) ∙ e))
    at_key q at false k e = stays q at (are.listed q at (ap (is_removed_at at) (sym (found q false k)) ∙ e))

-- where a slot was dropped
pub drop_listed : (unlisted : Option (List ℕ)) (slots next : Entries) (removals : Moments) (key : List ℕ)
    → AreIndexed unlisted slots removals → next ≡ without key slots → IsStrictlySortedBy (slice_cmp nat_cmp) (keys_of next)
    → AreIndexed unlisted next removals
drop_listed unlisted slots next removals key are drop ordered = record {
  ordered = ordered;
  in_time = are.in_time;
  listed = λ q at e. at_key q at (is_key key q) refl e;
}
  where
    found : (q : List ℕ) (b : Bool) → is_key key q ≡ b → slot_at q next ≡ cond b None (slot_at q slots)
    found q b k = ap (slot_at q) drop ∙ at-without q key slots are.ordered ∙ ap (λ b. cond b None (slot_at q slots)) k

    at_key : (q : List ℕ) (at : ℕ) (b : Bool) → is_key key q ≡ b → is_removed_at at (slot_at q next) ≡ true
        → (is_one unlisted q || is_listed q (keys_at removals at)) ≡ true
    at_key q at true k e = absurd (let is : false ≡ true = ap (is_removed_at at) (sym (found q true k)) ∙ e in cc)
    at_key q at false k e = are.listed q at (ap (is_removed_at at) (sym (found q false k)) ∙ e)

sorted_none : IsStrictlySortedBy (slice_cmp nat_cmp) (keys_of {X = Slot} [])
unfolding IsStrictlySortedBy
sorted_none = tt

-- without slots nothing need be listed
pub none_listed : (slots : Entries) (removals : Moments) → slots ≡ [] → IsOrdered nat_cmp removals → AreIndexed None slots removals
none_listed slots removals none in_time = record {
  ordered = subst (λ es. IsStrictlySortedBy (slice_cmp nat_cmp) (keys_of es)) (sym none) sorted_none;
  in_time = in_time;
  listed = λ q at e. absurd (let is : false ≡ true = ap (λ es. is_removed_at at (slot_at q es)) (sym none) ∙ e in cc);
}
