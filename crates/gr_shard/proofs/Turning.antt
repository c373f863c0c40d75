-- What the open queries are told is what the history turns.
use Rattle.std.proofs.Common.{suc, ◌≡◌, ◌∙◌, ap, sym, refl, subst, arith, ℕ, List, [], ◌∷◌, ◌++◌, ◌==◌, Bool, true}
use Rattle.std.proofs.Common.{false, if◌then◌else◌, inl, inr}
use Rattle.std.proofs.Common.{Option, Some, None, filter, map, length}
use Rattle.std.proofs.lemmas.Bool.Decides.{nat_tests}
use Rattle.std.proofs.lemmas.List.{append-nil}
use Rattle.std.specs.List.{fold}
use Rattle.std.specs.List.Sorted.{IsStrictlySortedBy}
use Rattle.std.specs.Ordering.{nat_cmp, match_ordering}
use Rattle.std.specs.Cmp.Lexicographic.{slice_cmp}
use Rattle.std.specs.BTreeMap.{is_at}
use Rattle.std.specs.BTreeSet.{insert_key}
use Rattle.std.specs.Map.{keys_of as keys_in}
use Rattle.std.proofs.lemmas.Slice.Eq.{bytes_eq-Decides}
use Rattle.std.proofs.lemmas.Map.Text.{is_eq-slice_cmp}
use Rattle.gr_value.specs.declared.value.Field.{Field}
use Rattle.gr_stamp.specs.declared.change.Change.{Change}
use Rattle.gr_stamp.specs.Winner.{is_there}
use Rattle.gr_oql.specs.declared.event.Event.{Event}
use Rattle.gr_oql.specs.declared.event.Turned.{Turned}
use Rattle.gr_cq.specs.Entries.{Entry, Kept, Queries, coming_to, kept_noted, noted}
use Rattle.gr_cq.specs.Foresight.{Foresight}
use Rattle.gr_history.specs.declared.deed.Deed.{Deed}
use Rattle.gr_history.specs.Clock.{since}
use Rattle.gr_history.specs.Regions.{with_key}
use Rattle.gr_history.specs.Standing.{standing}
use Rattle.gr_history.specs.Turned.{is_other, turned, turned_at, turns, value_of}
use Rattle.gr_law.specs.Grids.{Among}
use Rattle.gr_law.proofs.Images.{key_added, key_kept}
use Rattle.gr_law.proofs.Keys.{IsInOrder}
use Rattle.gr_law.proofs.Turning.{turned_of}
use Rattle.gr_slots.specs.declared.slot.Slot.{Slot}
use Rattle.gr_slots.specs.Slots.{Entries, slot_at}
use Rattle.gr_shard.specs.Asking.{Hold}
use Rattle.gr_shard.specs.Entries.{slot_of}
use Rattle.gr_shard.specs.InStep.{IsInStep, IsUnasked}
use Rattle.gr_shard.specs.Telling.{IsForeseen, IsReady, is_other_slot, slot_there, slot_value, told_of, turned_between, turned_slot, with_keys}
use Rattle.gr_shard.proofs.Following.{noted_in_step}
use Rattle.gr_shard.proofs.Left.{with_key-sorted}
use Rattle.gr_shard.proofs.Made.{there-slot_of, value-slot_of}

-- ---- queries that are told of no key

coming_nothing : (kept : Kept) → coming_to [] kept ≡ []
coming_nothing kept = at_test kept.runs
  where
    nothing_ : List Event
    nothing_ = []

    at_test : (b : Bool) → (if b then nothing_ else nothing_) ≡ nothing_
    at_test true = refl
    at_test false = refl

kept_still : (kept : Kept) → kept_noted [] kept ≡ kept
kept_still kept =
    ap (λ more. record { question = kept.question; runs = kept.runs; waiting = kept.waiting ++ more }) (coming_nothing kept)
    ∙ ap (λ all. record { question = kept.question; runs = kept.runs; waiting = all }) (append-nil kept.waiting)

pub noted_nothing : (entries : List Entry) → noted [] entries ≡ entries
noted_nothing [] = refl
noted_nothing (entry ∷ entries) =
    ap (λ kept. record { client = entry.client; name = entry.name; kept = kept } ∷ noted [] entries) (kept_still entry.kept)
    ∙ ap (λ rest. entry ∷ rest) (noted_nothing entries)

not_none : (n : ℕ) → (suc n == 0) ≡ true → ⊥
not_none n e = let is : suc n ≡ 0 = grind (arith, nat_tests) in omega (arith, is)

pub noted_none : (all : List Turned) (entries : List Entry) → (length entries == 0) ≡ true → noted all entries ≡ entries
noted_none all [] none = refl
noted_none all (entry ∷ entries) none = absurd (not_none (length entries) none)

pub none_noted : (all : List Turned) (entries : List Entry) → (length all == 0) ≡ true → entries ≡ noted all entries
none_noted [] entries none = sym (noted_nothing entries)
none_noted (one ∷ all) entries none = absurd (not_none (length all) none)

-- ---- what was foreseen

pub is_ready : (all : List Turned) (queries : Queries) (foreseen : Option Foresight) → IsForeseen all queries foreseen
    → IsReady queries foreseen
is_ready all queries None is = tt
is_ready all queries (Some foreseen) is = is.0

pub told_noted : (all : List Turned) (queries : Queries) (foreseen : Option Foresight) → IsForeseen all queries foreseen
    → told_of foreseen queries.entries ≡ noted all queries.entries
told_noted all queries None is = sym is
told_noted all queries (Some foreseen) is = is.1

pub told_in_step : (deed : Deed) (past : List Deed) (all : List Turned) (entries : List Entry) → IsUnasked deed → turned deed past ≡ all
    → IsInStep entries past → IsInStep (noted all entries) (deed ∷ past)
told_in_step deed past all entries unasked is in_step =
    subst (λ t. IsInStep (noted t entries) (deed ∷ past)) is (noted_in_step deed past entries unasked in_step)

-- ---- the keys of slots

pub inserted : (keys : List (List ℕ)) (key : List ℕ) → insert_key (slice_cmp nat_cmp) keys key ≡ with_key key keys
inserted [] key = refl
inserted (first ∷ keys) key =
    ap (λ rest. match_ordering (slice_cmp nat_cmp key first) (key ∷ first ∷ keys) (first ∷ keys) (first ∷ rest)) (inserted keys key)

pub with_keys-push : (keys : List (List ℕ)) (slots : Entries) (key : List ℕ) (slot : Slot)
    → with_keys keys (slots ++ (key, slot) ∷ []) ≡ with_key key (with_keys keys slots)
with_keys-push keys [] key slot = refl
with_keys-push keys (entry ∷ slots) key slot = with_keys-push (with_key entry.0 keys) slots key slot

with_in_order : (more keys : List (List ℕ)) → IsInOrder keys → IsInOrder (fold (λ more key. with_key key more) keys more)
with_in_order [] keys is = is
with_in_order (key ∷ more) keys is = with_in_order more (with_key key keys) (with_key-sorted key keys is)

with_before : (key : List ℕ) (more keys : List (List ℕ)) → Among key keys → Among key (fold (λ more key. with_key key more) keys more)
with_before key [] keys a = a
with_before key (other ∷ more) keys a = with_before key more (with_key other keys) (key_kept key other keys a)

with_more : (key : List ℕ) (more keys : List (List ℕ)) → Among key more → Among key (fold (λ more key. with_key key more) keys more)
with_more key [] keys a = absurd a
with_more key (other ∷ more) keys (inl is) =
    with_before key more (with_key other keys) (subst (λ k. Among key (with_key k keys)) is (key_added key keys))
with_more key (other ∷ more) keys (inr a) = with_more key more (with_key other keys) a

found_among : (key : List ℕ) (slot : Slot) (slots : Entries) → slot_at key slots ≡ Some slot → Among key (keys_in slots)
found_among key slot [] is = absurd cc
found_among key slot (entry ∷ slots) is = at_test (is_at (slice_cmp nat_cmp key) entry.0) refl is (found_among key slot slots)
  where
    at_test : (b : Bool) → is_at (slice_cmp nat_cmp key) entry.0 ≡ b → (if b then Some entry.1 else slot_at key slots) ≡ Some slot
        → (slot_at key slots ≡ Some slot → Among key (keys_in slots)) → Among key (entry.0 ∷ keys_in slots)
    at_test true e is next = inl ((bytes_eq-Decides key entry.0).0 (sym (is_eq-slice_cmp key entry.0) ∙ e))
    at_test false e is next = inr (next is)

-- ---- slots before and behind a deed

same_other : (old new : Option Change) (from upto : ℕ) → is_other_slot (slot_of old from) (slot_of new upto) ≡ is_other old new
same_other None None from upto = refl
same_other None (Some new) from upto = refl
same_other (Some old) None from upto = refl
same_other (Some old) (Some new) from upto = refl

other_somewhere : (key : List ℕ) (old new : Entries) (one two : Option Slot) → slot_at key old ≡ one → slot_at key new ≡ two
    → is_other_slot one two ≡ true → Among key (with_keys (with_keys [] old) new)
other_somewhere key old new None None is_old is_new other = absurd cc
other_somewhere key old new (Some slot) two is_old is_new other =
    with_before key (keys_in new) (with_keys [] old) (with_more key (keys_in old) [] (found_among key slot old is_old))
other_somewhere key old new None (Some slot) is_old is_new other =
    with_more key (keys_in new) (with_keys [] old) (found_among key slot new is_new)

filtered_alike : (p q : List ℕ → Bool) (keys : List (List ℕ)) → ((key : List ℕ) → p key ≡ q key) → filter p keys ≡ filter q keys
filtered_alike p q [] alike = refl
filtered_alike p q (key ∷ keys) alike =
    ap (λ b. if b then key ∷ filter p keys else filter p keys) (alike key)
    ∙ ap (λ rest. if q key then key ∷ rest else rest) (filtered_alike p q keys alike)

mapped_alike : (f g : List ℕ → Turned) (keys : List (List ℕ)) → ((key : List ℕ) → f key ≡ g key) → map f keys ≡ map g keys
mapped_alike f g [] alike = refl
mapped_alike f g (key ∷ keys) alike =
    ap (λ one. one ∷ map f keys) (alike key) ∙ ap (λ rest. g key ∷ rest) (mapped_alike f g keys alike)

pub value-slot_at : (key : List ℕ) (slots : Entries) (past : List Deed) → Hold slots past
    → slot_value (slot_at key slots) ≡ value_of (standing key past)
value-slot_at key slots past stands = ap slot_value (stands key) ∙ value-slot_of (standing key past) (since key past)

pub there-slot_at : (key : List ℕ) (slots : Entries) (past : List Deed) → Hold slots past
    → slot_there (slot_at key slots) ≡ is_there (standing key past)
there-slot_at key slots past stands = ap slot_there (stands key) ∙ there-slot_of (standing key past) (since key past)

abbrev turned_with : List ℕ → Option (List Field) → Option (List Field) → Bool → Bool → Turned
turned_with key old new had has = record { key = key; old = old; new = new; had = had; has = has }

-- keys that turned alike
pub same_turned : (key : List ℕ) {a b c d : Option (List Field)} {i j k l : Bool} → a ≡ b → c ≡ d → i ≡ j → k ≡ l
    → turned_with key a c i k ≡ turned_with key b d j l
same_turned key old new had has = cc

nothing : IsInOrder []
unfolding IsStrictlySortedBy
nothing = tt

-- Where slots hold what stands before a deed and others what stands behind it, what differs is what the deed turns.
pub turned_by_slots : (deed : Deed) (past : List Deed) (old new : Entries) → Hold old past → Hold new (deed ∷ past)
    → turned deed past ≡ turned_between old new
turned_by_slots deed past old new before behind =
    ap (map (turned_at deed past))
    (turned_of deed past (with_keys (with_keys [] old) new)
    (with_in_order (keys_in new) (with_keys [] old) (with_in_order (keys_in old) [] nothing))
    (λ key turns_it. other_somewhere key old new (slot_at key old) (slot_at key new) refl refl (other key ∙ turns_it))
    ∙ filtered_alike (turns deed past) (λ key. is_other_slot (slot_at key old) (slot_at key new))
    (with_keys (with_keys [] old) new) (λ key. sym (other key)))
    ∙ mapped_alike (turned_at deed past) (turned_slot old new)
    (filter (λ key. is_other_slot (slot_at key old) (slot_at key new)) (with_keys (with_keys [] old) new)) values
  where
    other : (key : List ℕ) → is_other_slot (slot_at key old) (slot_at key new) ≡ turns deed past key
    other key =
        ap (λ o. is_other_slot o (slot_at key new)) (before key)
        ∙ ap (is_other_slot (slot_of (standing key past) (since key past))) (behind key)
        ∙ same_other (standing key past) (standing key (deed ∷ past)) (since key past) (since key (deed ∷ past))

    values : (key : List ℕ) → turned_at deed past key ≡ turned_slot old new key
    values key =
        same_turned key (sym (value-slot_at key old past before)) (sym (value-slot_at key new (deed ∷ past) behind))
        (sym (there-slot_at key old past before)) (sym (there-slot_at key new (deed ∷ past) behind))
