-- Publications that turn no key.
use Rattle.std.proofs.Common.{◌≡◌, ℕ, zero, suc, ◌≤◌, List, [], ◌∷◌, ◌++◌, Bool, true, false, length, drop, fold, refl, sym, ap, subst, ◌∙◌, arith}
use Rattle.std.specs.Prelude.{nat_le}
use Rattle.std.proofs.lemmas.List.{drop_all}
use Rattle.std.proofs.Math.Seq.{drop-append_seam}
use Rattle.std.proofs.lemmas.Bool.Decides.{nat_tests}
use mathlib.Core.List.{IsPrefix}
use Rattle.gr_value.specs.declared.value.Field.{Field}
use Rattle.gr_oql.specs.declared.event.Turned.{Turned}
use Rattle.gr_by_key.specs.Maps.{ByKey}
use Rattle.gr_peek.specs.Publications.{with_publication, entries_after, TurnsNone, AddsNoTurn}
use Rattle.gr_peek.specs.Entering.{longer}
use Rattle.gr_peek.proofs.Prefixes.{prefix_self, prefix_shorter}

none_later : (m n : ℕ) (publications : List (List Turned)) → m ≤ n → TurnsNone (drop m publications) → TurnsNone (drop n publications)
none_later zero zero publications le none = none
none_later zero (suc n) [] le none = tt
none_later zero (suc n) (first ∷ publications) le none = none_later zero n publications (omega arith) none.1
none_later (suc m) zero publications le none = absurd (omega arith)
none_later (suc m) (suc n) [] le none = tt
none_later (suc m) (suc n) (first ∷ publications) le none = none_later m n publications (omega arith) none

pub adds_none : (publications : List (List Turned)) → AddsNoTurn publications publications
adds_none publications = (prefix_self publications, subst TurnsNone (sym (drop_all (length publications) publications (omega arith))) tt)

same_fold : (publications : List (List Turned)) (entries : ByKey (List Field)) → TurnsNone publications → fold with_publication entries publications ≡ entries
same_fold [] entries none = refl
same_fold (turned ∷ publications) entries none = rw none.0 (same_fold publications entries none.1)

fold_behind : (earlier behind : List (List Turned)) (entries : ByKey (List Field)) → TurnsNone behind
    → fold with_publication entries (earlier ++ behind) ≡ fold with_publication entries earlier
fold_behind [] behind entries none = same_fold behind entries none
fold_behind (first ∷ earlier) behind entries none = fold_behind earlier behind (with_publication entries first) none

-- publications that turn no key leave the entries as they are
pub same_entries : (earlier later : List (List Turned)) → AddsNoTurn earlier later → entries_after later ≡ entries_after earlier
same_entries earlier later adds =
    let none : TurnsNone adds.0.0 = subst TurnsNone (ap (drop (length earlier)) (sym adds.0.1) ∙ drop-append_seam earlier adds.0.0) adds.1 in
    ap entries_after (sym adds.0.1) ∙ fold_behind earlier adds.0.0 _ none

-- of two beginnings of one list the longer adds no turned key, if the other is told up to the last one
pub longer_adds : (this other all : List (List Turned)) (count turned_at : ℕ) → IsPrefix this all → IsPrefix other all → count ≡ length this
    → TurnsNone (drop turned_at other) → nat_le turned_at count ≡ true → AddsNoTurn this (longer other this)
longer_adds this other all count turned_at p q is none le = by_test (nat_le (length this) (length other)) refl
  where
    by_test : (test : Bool) → nat_le (length this) (length other) ≡ test → AddsNoTurn this (longer other this)
    by_test true e = rw e (prefix_shorter this other all p q (grind (arith, nat_tests)), none_later turned_at (length this) other (grind (arith, nat_tests)) none)
    by_test false e = rw e (adds_none this)
