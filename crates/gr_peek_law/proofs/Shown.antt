-- What publications of the turned keys show.
use Rattle.std.proofs.Common.{◌≡◌, ◌⊎◌, ℕ, suc, ◌≤◌, List, [], ◌∷◌, ◌++◌, length, true, false, refl, sym, ap, ◌∙◌, inl, inr, bytes_eq, cond, fold, arith, length-append, nat_le}
use Rattle.std.specs.Prelude.{map}
use Rattle.std.specs.Ordering.{nat_cmp}
use Rattle.std.specs.Cmp.Lexicographic.{slice_cmp}
use Rattle.std.specs.FinMap as finite
use Rattle.std.proofs.lemmas.Map.Text.{is_eq-slice_cmp}
use Rattle.std.proofs.lemmas.Slice.Eq.{bytes_eq-Decides}
use Rattle.std.proofs.lemmas.Bool.Decides.{nat_tests}
use mathlib.Core.List.{IsPrefix}
use Rattle.gr_value.specs.declared.value.Field.{Field}
use Rattle.gr_oql.specs.declared.event.Turned.{Turned}
use Rattle.gr_history.specs.declared.deed.Deed.{Deed}
use Rattle.gr_history.specs.Standing.{present}
use Rattle.gr_history.specs.Places.{at_place}
use Rattle.gr_history.specs.Turned.{turns, turned_at, turned_keys, turned}
use Rattle.gr_law.specs.Grids.{Among}
use Rattle.gr_law.proofs.Lists.{either}
use Rattle.gr_law.proofs.Turning.{among_turned, unturned_present}
use Rattle.gr_by_key.specs.Maps.{ByKey}
use Rattle.gr_by_key.proofs.Maps.{get_with_value}
use Rattle.gr_peek.specs.Publications.{with_turned, with_publication, entries_after, present_after}
use Rattle.gr_peek.proofs.Prefixes.{prefix_self, prefix_trans}
use Rattle.gr_peek_law.specs.Turns.{turned_each}

turned_there : (deed : Deed) (past : List Deed) (keys : List (List ℕ)) (rows : ByKey (List Field)) (key : List ℕ)
    → Among key keys ⊎ (finite.get rows key ≡ present key (deed ∷ past))
    → finite.get (fold with_turned rows (map (turned_at deed past) keys)) key ≡ present key (deed ∷ past)
turned_there deed past [] rows key (inl a) = absurd a
turned_there deed past [] rows key (inr is) = is
turned_there deed past (first ∷ keys) rows key there =
    turned_there deed past keys (with_turned rows (turned_at deed past first)) key (at_key (either (bytes_eq first key)) there)
  where
    got : finite.get (with_turned rows (turned_at deed past first)) key ≡ cond (bytes_eq first key) (present first (deed ∷ past)) (finite.get rows key)
    got = get_with_value first (present first (deed ∷ past)) rows key
        ∙ ap (λ b. cond b (present first (deed ∷ past)) (finite.get rows key)) (is_eq-slice_cmp first key)

    at_key : (bytes_eq first key ≡ true) ⊎ (bytes_eq first key ≡ false)
        → Among key (first ∷ keys) ⊎ (finite.get rows key ≡ present key (deed ∷ past))
        → Among key keys ⊎ (finite.get (with_turned rows (turned_at deed past first)) key ≡ present key (deed ∷ past))
    at_key (inl is) h = inr (got ∙ ap (λ b. cond b (present first (deed ∷ past)) (finite.get rows key)) is ∙ ap (λ k. present k (deed ∷ past)) ((bytes_eq-Decides first key).0 is))
    at_key (inr apart) (inl (inl is)) = absurd (no (sym ((bytes_eq-Decides first key).1 (sym is)) ∙ apart))
      where
        no : true ≡ false → ⊥
        no e = cc
    at_key (inr apart) (inl (inr a)) = inl a
    at_key (inr apart) (inr same) = inr (got ∙ ap (λ b. cond b (present first (deed ∷ past)) (finite.get rows key)) apart ∙ same)

one_more : (xs : List (List Turned)) (turned : List Turned) (rows : ByKey (List Field))
    → fold with_publication rows (xs ++ turned ∷ []) ≡ with_publication (fold with_publication rows xs) turned
one_more [] turned rows = refl
one_more (first ∷ xs) turned rows = one_more xs turned (with_publication rows first)

pub whole : (past : List Deed) (key : List ℕ) → present_after (turned_each past) key ≡ present key past
whole [] key = finite.get-empty (slice_cmp nat_cmp) key
whole (deed ∷ past) key =
    ap (λ (rows : ByKey (List Field)). finite.get rows key) (one_more (turned_each past) (turned deed past) finite.empty)
    ∙ turned_there deed past (turned_keys deed past) (entries_after (turned_each past)) key (at_turn (whole past key) (either (turns deed past key)))
  where
    at_turn : present_after (turned_each past) key ≡ present key past → (turns deed past key ≡ true) ⊎ (turns deed past key ≡ false)
        → Among key (turned_keys deed past) ⊎ (finite.get (entries_after (turned_each past)) key ≡ present key (deed ∷ past))
    at_turn before (inl is) = inl (among_turned deed past key is)
    at_turn before (inr isnt) = inr (before ∙ sym (unturned_present deed past key isnt))

pub count : (past : List Deed) → length (turned_each past) ≡ length past
count [] = refl
count (deed ∷ past) = omega (arith, length-append (turned_each past) (turned deed past ∷ []), count past)

-- further deeds only add publications
pub grows : (more past : List Deed) → IsPrefix (turned_each past) (turned_each (more ++ past))
grows [] past = prefix_self (turned_each past)
grows (deed ∷ more) past =
    prefix_trans (turned_each past) (turned_each (more ++ past)) (turned_each (deed ∷ more ++ past)) (grows more past)
    (turned deed (more ++ past) ∷ [], refl)

-- a beginning of a list with one more is a beginning of the list, or the whole
shorter : {A : Type 0} (known xs : List A) (x : A) → IsPrefix known (xs ++ x ∷ []) → IsPrefix known xs ⊎ (known ≡ xs ++ x ∷ [])
shorter [] xs x p = inl (xs, refl)
shorter {A = A} (k ∷ known) [] x (rest, is) = inr (only known rest is)
  where
    only : (known rest : List A) → k ∷ known ++ rest ≡ x ∷ [] → k ∷ known ≡ x ∷ []
    only [] rest e = cc
    only (m ∷ known) rest e = absurd cc
shorter (k ∷ known) (y ∷ xs) x (rest, is) = next (shorter known xs x (rest, cc is))
  where
    next : IsPrefix known xs ⊎ (known ≡ xs ++ x ∷ []) → IsPrefix (k ∷ known) (y ∷ xs) ⊎ (k ∷ known ≡ y ∷ xs ++ x ∷ [])
    next (inl p) = let same : k ≡ y = cc is in inl (p.0, cc (p.1, same))
    next (inr e) = let same : k ≡ y = cc is in inr (cc (e, same))

prefix_length : {A : Type 0} (xs ys : List A) → IsPrefix xs ys → length xs ≤ length ys
prefix_length xs ys p = omega (arith, sym (ap length p.1) ∙ length-append xs p.0)

pub place : (past : List Deed) (known : List (List Turned)) → IsPrefix known (turned_each past) → known ≡ turned_each (at_place (length known) past)
place [] [] p = refl
place [] (k ∷ known) p = absurd (cc (p.1))
place (deed ∷ past) known p = at_case (place past known) (shorter known (turned_each past) (turned deed past) p)
  where
    at_case : (IsPrefix known (turned_each past) → known ≡ turned_each (at_place (length known) past)) → IsPrefix known (turned_each past) ⊎ (known ≡ turned_each past ++ turned deed past ∷ [])
        → known ≡ turned_each (at_place (length known) (deed ∷ past))
    at_case before (inl q) =
        let le : length known ≤ length past = omega (arith, prefix_length known (turned_each past) q, count past) in
        let test : nat_le (suc (length past)) (length known) ≡ false = grind (arith, nat_tests) in
        rw test (before q)
    at_case before (inr e) =
        let n : length known ≡ suc (length past) = ap length e ∙ count (deed ∷ past) in
        let test : nat_le (suc (length past)) (length known) ≡ true = grind (arith, nat_tests) in
        rw test e

pub shows : (past : List Deed) (known : List (List Turned)) (key : List ℕ) → IsPrefix known (turned_each past)
    → present_after known key ≡ present key (at_place (length known) past)
shows past known key p = ap (λ (l : List (List Turned)). present_after l key) (place past known p) ∙ whole (at_place (length known) past) key
