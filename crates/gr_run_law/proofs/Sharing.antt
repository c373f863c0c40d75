-- A history whose places are shared out among owners: what one owner alone adds is that owner's.
use Rattle.std.proofs.Common.{◌≡◌, ◌≢◌, ℕ, zero, suc, ◌+◌, ◌<◌, ◌≤◌, ◌⊎◌, List, [], ◌∷◌, ◌++◌, length, Option, Some, None}
use Rattle.std.proofs.Common.{refl, sym, ap, ◌∙◌, subst, arith, length-append, append_assoc, append-nil, inl, inr, ⊎_elim, ne_eqb}
use Rattle.std.specs.Prelude.{slice_get}
use Rattle.std.specs.List.{filter_map, cons_option}
use native.Mathlib.Decide.{ℕ_discrete}
use mathlib.Core.Logic.{dite}
use Rattle.gr_turn.specs.Views.{times}
use Rattle.gr_history.specs.declared.deed.Deed.{Deed}
use Rattle.gr_law.specs.Grids.{Among}
use Rattle.gr_run_law.specs.Shares.{Stands, Owner, AreShared}
use Rattle.gr_run_law.proofs.Lists.{none_isnt_some, same_in_some}

module _ {E : Type 0} where
  pub get_below : (xs : List E) (p : ℕ) (d : E) → slice_get xs p ≡ Some d → p < length xs
  get_below [] p d e = absurd (none_isnt_some d e)
  get_below (x ∷ xs) zero d e = omega arith
  get_below (x ∷ xs) (suc p) d e = let k : p < length xs = get_below xs p d e in omega arith

  get_here : (front xs : List E) (x : E) → slice_get (front ++ x ∷ xs) (length front) ≡ Some x
  get_here [] xs x = refl
  get_here (y ∷ ys) xs x = get_here ys xs x

  pub not_below : (list : List E) (low : ℕ) (ps : List ℕ) (ds : List E) (q : ℕ) → Stands list low ps ds → 0 < times q ps → low ≤ q
  not_below list low [] [] q h t = absurd (omega arith)
  not_below list low [] (d ∷ ds) q h t = absurd h
  not_below list low (p ∷ ps) [] q h t = absurd h
  not_below list low (p ∷ ps) (d ∷ ds) q h t =
      dite (ℕ_discrete q p) (λ (e : q ≡ p). let k = h.0 in omega arith)
      (λ ne. let s : 0 < 0 + times q ps = rw (ne_eqb q p ne) at t in
      let r : suc p ≤ q = not_below list (suc p) ps ds q h.2 (omega arith) in
      let k = h.0 in omega arith)

  here_is : (list front xs : List E) (x : E) (n : ℕ) → list ≡ front ++ x ∷ xs → n ≡ length front → slice_get list n ≡ Some x
  here_is list front xs x n e f = ap (λ (l : List E). slice_get l n) e ∙ ap (slice_get (front ++ x ∷ xs)) f ∙ get_here front xs x

  on_list : (list front xs : List E) (x : E) → list ≡ front ++ x ∷ xs → list ≡ (front ++ x ∷ []) ++ xs
  on_list list front xs x e = e ∙ sym (append_assoc front (x ∷ []) xs)

  on_length : (front : List E) (x : E) (n : ℕ) → n ≡ length front → suc n ≡ length (front ++ x ∷ [])
  on_length front x n f = let k = length-append front (x ∷ []) in omega arith

  within : (list front xs : List E) (x : E) (n : ℕ) → list ≡ front ++ x ∷ xs → n ≡ length front → n < length list
  within list front xs x n e f = let k = ap length e in let l = length-append front (x ∷ xs) in omega arith

  -- what stands at one of the places is one of the entries
  pub entry_at : (list : List E) (low : ℕ) (ps : List ℕ) (ds : List E) (p : ℕ) (P : E → Type 0) → Stands list low ps ds
      → ((k : ℕ) (d : E) → slice_get ds k ≡ Some d → P d) → 0 < times p ps → (d : E) × (slice_get list p ≡ Some d) × P d
  entry_at list low [] [] p P h all t = absurd (omega arith)
  entry_at list low [] (d ∷ ds) p P h all t = absurd h
  entry_at list low (q ∷ ps) [] p P h all t = absurd h
  entry_at list low (q ∷ ps) (d ∷ ds) p P h all t =
      dite (ℕ_discrete p q) (λ (e : p ≡ q). (d, ap (slice_get list) e ∙ h.1, all zero d refl))
      (λ ne. let s : 0 < 0 + times p ps = rw (ne_eqb p q ne) at t in
      entry_at list (suc q) ps ds p P h.2 (λ k x at. all (suc k) x at) (omega arith))

  get_among : (list : List E) (p : ℕ) (d : E) → slice_get list p ≡ Some d → Among d list
  get_among [] p d e = absurd (none_isnt_some d e)
  get_among (x ∷ xs) zero d e = inl (same_in_some d x (sym e))
  get_among (x ∷ xs) (suc p) d e = inr (get_among xs p d e)

  -- what stands is in the list
  pub owned_stands : (list : List E) (low : ℕ) (ps : List ℕ) (ds : List E) → Stands list low ps ds → (d : E) → Among d ds → Among d list
  owned_stands list low [] [] h d a = absurd a
  owned_stands list low [] (e ∷ ds) h d a = absurd h
  owned_stands list low (p ∷ ps) [] h d a = absurd h
  owned_stands list low (p ∷ ps) (e ∷ ds) h d (inl is) = get_among list p d (h.1 ∙ ap (λ x. Some x) (sym is))
  owned_stands list low (p ∷ ps) (e ∷ ds) h d (inr a) = owned_stands list (suc p) ps ds h.2 d a

module _ {E B : Type 0} (f : E → Option B) where
  -- f gives nothing of any of these
  abbrev pub GivesNone : List E → Type 0
  GivesNone ds = (k : ℕ) (d : E) → slice_get ds k ≡ Some d → f d ≡ None

  pub none_given : (ds : List E) → GivesNone ds → filter_map f ds ≡ []
  none_given [] none = refl
  none_given (d ∷ ds) none = rw (none zero d refl) (none_given ds (λ k x at. none (suc k) x at))

  abbrev IsNone : List E → ℕ → Type 0
  IsNone list p = (d : E) × (slice_get list p ≡ Some d) × (f d ≡ None)

  -- each place from `low` on is one of these, or f gives nothing of what stands there
  abbrev Rest : List E → ℕ → List ℕ → Type 0
  Rest list low ps = (p : ℕ) → low ≤ p → p < length list → (0 < times p ps) ⊎ IsNone list p

  is_none_at : (list front xs : List E) (x : E) (n : ℕ) → list ≡ front ++ x ∷ xs → n ≡ length front → IsNone list n → f x ≡ None
  is_none_at list front xs x n e f' r = ap f (same_in_some x r.0 (sym (here_is list front xs x n e f') ∙ r.1)) ∙ r.2

  at_first : (list front : List E) (x : E) (xs : List E) (n p : ℕ) (ps : List ℕ) (d : E) (ds : List E) → list ≡ front ++ x ∷ xs
      → n ≡ length front → Stands list n (p ∷ ps) (d ∷ ds) → Rest list n (p ∷ ps)
      → ((qs : List ℕ) (es : List E) → Stands list (suc n) qs es → Rest list (suc n) qs → filter_map f xs ≡ filter_map f es)
      → filter_map f (x ∷ xs) ≡ filter_map f (d ∷ ds)
  at_first list front x xs n p ps d ds e f' h rest onward = dite (ℕ_discrete n p) here there
    where
      here : n ≡ p → filter_map f (x ∷ xs) ≡ filter_map f (d ∷ ds)
      here same =
          let is : x ≡ d = same_in_some x d (sym (here_is list front xs x n e f') ∙ ap (slice_get list) same ∙ h.1) in
          let tail : Stands list (suc n) ps ds = subst (λ (k : ℕ). Stands list (suc k) ps ds) (sym same) h.2 in
          let more : Rest list (suc n) ps = λ q lo hi. ⊎_elim (λ (t : 0 < times q (p ∷ ps)). inl (
          let ne : q ≢ p = λ r. absurd (omega arith) in
          let s : 0 < 0 + times q ps = rw (ne_eqb q p ne) at t in
          let k : 0 < times q ps = omega arith in k
          )) (λ r. inr r) (rest q (omega arith) hi) in
          let on = onward ps ds tail more in
          ap (λ (y : E). cons_option (f y) (filter_map f xs)) is ∙ ap (λ (l : List B). cons_option (f d) l) on

      there : (n ≢ p) → filter_map f (x ∷ xs) ≡ filter_map f (d ∷ ds)
      there ne =
          let above : suc n ≤ p = let k = h.0 in omega arith in
          let not : f x ≡ None = ⊎_elim
          (λ (t : 0 < times n (p ∷ ps)). absurd (
          let k : p ≤ n = not_below list p (p ∷ ps) (d ∷ ds) n (omega arith, h.1, h.2) t in omega arith
          ))
          (λ (r : IsNone list n). is_none_at list front xs x n e f' r) (rest n (omega arith) (within list front xs x n e f')) in
          ap (λ (o : Option B). cons_option o (filter_map f xs)) not
          ∙ onward (p ∷ ps) (d ∷ ds) (above, h.1, h.2) (λ q lo hi. rest q (omega arith) hi)

  swept : (list front xs : List E) (n : ℕ) (ps : List ℕ) (ds : List E) → list ≡ front ++ xs → n ≡ length front → Stands list n ps ds
      → Rest list n ps → filter_map f xs ≡ filter_map f ds
  swept list front xs n [] (d ∷ ds) e f' h rest = absurd h
  swept list front xs n (p ∷ ps) [] e f' h rest = absurd h
  swept list front [] n [] [] e f' h rest = refl
  swept list front [] n (p ∷ ps) (d ∷ ds) e f' h rest =
      let k = get_below list p d h.1 in let l = ap length (e ∙ append-nil front) in let low = h.0 in absurd (omega arith)
  swept list front (x ∷ xs) n [] [] e f' h rest =
      let not : f x ≡ None = ⊎_elim (λ (t : 0 < 0). absurd (omega arith)) (λ (r : IsNone list n). is_none_at list front xs x n e f' r)
      (rest n (omega arith) (within list front xs x n e f')) in
      ap (λ (o : Option B). cons_option o (filter_map f xs)) not
      ∙ swept list (front ++ x ∷ []) xs (suc n) [] [] (on_list list front xs x e) (on_length front x n f') (within list front xs x n e f')
      (λ p lo hi. rest p (omega arith) hi)
  swept list front (x ∷ xs) n (p ∷ ps) (d ∷ ds) e f' h rest =
      at_first list front x xs n p ps d ds e f' h rest
      (λ qs es h' rest'. swept list (front ++ x ∷ []) xs (suc n) qs es (on_list list front xs x e) (on_length front x n f') h' rest')

-- What f gives of the history is what it gives of one owner's deeds, where it gives nothing of the others'.
pub one_owner : {B : Type 0} (f : Deed → Option B) (list : List Deed) (owned : Owner → List Deed) (places : Owner → List ℕ)
    (owner : Owner) → AreShared list owned places
    → ((other : Owner) → (other ≡ owner) ⊎ GivesNone f (owned other))
    → filter_map f list ≡ filter_map f (owned owner)
one_owner f list owned places owner shared others = swept f list [] list 0 (places owner) (owned owner) refl refl (shared.stands owner) rest
  where
    rest : (p : ℕ) → 0 ≤ p → p < length list → (0 < times p (places owner)) ⊎ ((d : Deed) × (slice_get list p ≡ Some d) × (f d ≡ None))
    rest p lo hi =
        let at = shared.each p hi in
        ⊎_elim (λ (is : at.0 ≡ owner). inl (subst (λ (o : Owner). 0 < times p (places o)) is at.1))
        (λ (none : GivesNone f (owned at.0)). inr
        (entry_at list 0 (places at.0) (owned at.0) p (λ d. f d ≡ None) (shared.stands at.0) none at.1))
        (others at.0)
