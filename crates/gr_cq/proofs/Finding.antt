-- The query of a client and name among the open ones.
use Rattle.std.proofs.Common.{◌≡◌, ℕ, zero, suc, ◌+◌, ◌<◌, List, [], ◌∷◌, Bool, true, false, not, Option, Some, None, length}
use Rattle.std.proofs.Common.{filter, is_some, set, get_or, refl, sym, ap, ◌∙◌, arith}
use Rattle.std.specs.Prelude.{position}
use Rattle.std.specs.List.{position_from}
use Rattle.std.proofs.lemmas.Iterator.Adapters.{position_from-zero}
use Rattle.std.proofs.lemmas.List.Quantifiers.{position-Some}
use Rattle.gr_cq.specs.declared.open.Open.{Open}
use Rattle.gr_cq.specs.Entries.{Kept, Entry, is_at, find, changed_at, with_kept, closed}
use Rattle.gr_cq.specs.View.{kept_of, entry_of, entries_of}

pub some_kept : (one : Option Kept) → is_some one ≡ true → (kept : Kept) × (one ≡ Some kept)
some_kept None is = cc
some_kept (Some kept) is = (kept, refl)

module _ (client : ℕ) (name : List ℕ) where
  abbrev pub is_here : Open → Bool
  is_here one = is_at client name (entry_of one)

  abbrev AreOthers : List Open → ℕ → Open → Type 0
  AreOthers all i d = (k : ℕ) → k < i → is_here (get_or all k d) ≡ false

  found_from : (all : List Open) (i : ℕ) (d : Open) → i < length all → AreOthers all i d → is_here (get_or all i d) ≡ true
      → find client name (entries_of all) ≡ Some (kept_of (get_or all i d))
  found_from [] i d lt others here = absurd (omega (arith, lt))
  found_from (one ∷ all) zero d lt others here = rw here refl
  found_from (one ∷ all) (suc i) d lt others here =
      rw (others 0 (omega arith)) (found_from all i d (omega (arith, lt)) (λ k l. others (suc k) (omega (arith, l))) here)

  pub found_at : (all : List Open) (i : ℕ) (d : Open) → position is_here all ≡ Some i
      → find client name (entries_of all) ≡ Some (kept_of (get_or all i d))
  found_at all i d at = let is = position-Some is_here all i d at in found_from all i d is.0 is.2 is.1

  none_from : (all : List Open) (i : ℕ) → position_from is_here i all ≡ None → find client name (entries_of all) ≡ None
  none_from [] i none = refl
  none_from (one ∷ all) i none = first (is_here one) refl none (none_from all (i + 1))
    where
      first : (b : Bool) → is_here one ≡ b → position_from is_here i (one ∷ all) ≡ None
          → (position_from is_here (i + 1) all ≡ None → find client name (entries_of all) ≡ None)
          → find client name (entries_of (one ∷ all)) ≡ None
      first true here none rest = cc
      first false here none rest = rw here (rest (grind arith))

  pub not_found : (all : List Open) → position is_here all ≡ None → find client name (entries_of all) ≡ None
  not_found all none = none_from all 0 (sym (position_from-zero is_here all) ∙ none)

  changed_from : (change : Kept → Kept) (all : List Open) (i : ℕ) (d new : Open) → i < length all → AreOthers all i d
      → is_here (get_or all i d) ≡ true → entry_of new ≡ with_kept change (entry_of (get_or all i d))
      → entries_of (set all i new) ≡ changed_at client name change (entries_of all)
  changed_from change [] i d new lt others here is = absurd (omega (arith, lt))
  changed_from change (one ∷ all) zero d new lt others here is = rw here (ap (λ entry. entry ∷ entries_of all) is)
  changed_from change (one ∷ all) (suc i) d new lt others here is =
      rw (others 0 (omega arith)) (ap (λ rest. entry_of one ∷ rest)
      (changed_from change all i d new (omega (arith, lt)) (λ k l. others (suc k) (omega (arith, l))) here is))

  pub changed_here : (change : Kept → Kept) (all : List Open) (i : ℕ) (d new : Open) → Some i ≡ position is_here all
      → entry_of new ≡ with_kept change (entry_of (get_or all i d))
      → entries_of (set all i new) ≡ changed_at client name change (entries_of all)
  changed_here change all i d new at is =
      let first = position-Some is_here all i d (sym at) in changed_from change all i d new first.0 first.2 first.1 is

  unchanged : (change : Kept → Kept) (entries : List Entry) → find client name entries ≡ None
      → entries ≡ changed_at client name change entries
  unchanged change [] none = refl
  unchanged change (entry ∷ entries) none = first (is_at client name entry) refl none (unchanged change entries)
    where
      first : (b : Bool) → is_at client name entry ≡ b → find client name (entry ∷ entries) ≡ None
          → (find client name entries ≡ None → entries ≡ changed_at client name change entries)
          → entry ∷ entries ≡ changed_at client name change (entry ∷ entries)
      first true here none rest = absurd (some here none)
        where
          some : is_at client name entry ≡ true → find client name (entry ∷ entries) ≡ None → ⊥
          some here none = cc
      first false here none rest = rw here (ap (λ more. entry ∷ more) (rest (grind arith)))

  -- where there is none, nothing is changed
  pub none_changed : (change : Kept → Kept) (all : List Open) → None ≡ position is_here all
      → entries_of all ≡ changed_at client name change (entries_of all)
  none_changed change all none = unchanged change (entries_of all) (not_found all (sym none))

  -- whether there is one
  pub is_found : (all : List Open) (o : Option ℕ) → o ≡ position is_here all → is_some o ≡ is_some (find client name (entries_of all))
  is_found all None at = ap is_some (sym (not_found all (sym at)))
  is_found [] (Some i) at = cc
  is_found (one ∷ all) (Some i) at = ap is_some (sym (found_at (one ∷ all) i one (sym at)))

-- a query is closed where it is let go
pub closed_of : (client : ℕ) (name : List ℕ) (all : List Open)
    → entries_of (filter (λ one. not (is_at client name (entry_of one))) all) ≡ closed client name (entries_of all)
closed_of client name [] = refl
closed_of client name (one ∷ all) = first (is_at client name (entry_of one)) refl (closed_of client name all)
  where
    first : (b : Bool) → is_at client name (entry_of one) ≡ b
        → entries_of (filter (λ one. not (is_at client name (entry_of one))) all) ≡ closed client name (entries_of all)
        → entries_of (filter (λ one. not (is_at client name (entry_of one))) (one ∷ all)) ≡ closed client name (entries_of (one ∷ all))
    first true here rest = rw here rest
    first false here rest = rw here (ap (λ more. entry_of one ∷ more) rest)
