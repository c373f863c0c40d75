-- Lists, functions that change at one number, and the mails of one sender.
use Rattle.std.proofs.Common.{◌≡◌, ◌≢◌, ◌<◌, ◌≤◌, ◌==◌, ℕ, zero, suc, true, false, cond, List, [], ◌∷◌, ◌++◌, length}
use Rattle.std.proofs.Common.{set, Option, Some, None, sym, refl, ap, ◌∙◌, subst, ⊎_elim, ◌⊎◌, inl, inr, arith, eq-eqb, ne_eqb}
use mathlib.Core.Option.{some, some-injective, some-ne-none}
use lib.ListN.{get_elem?}
use Rattle.crossbeam_queue.proofs.Lists.{at_set}
use Rattle.gr_post.specs.declared.mail.Mail.{Mail}
use Rattle.gr_post.specs.declared.mail.Posted.{Posted}
use Rattle.gr_post.specs.declared.view.View.{View}
use Rattle.gr_post.specs.Mails.{of}

-- a function, but for one number
abbrev pub put : {A : Type 0} → (ℕ → A) → ℕ → A → ℕ → A
put f k a q = cond (k == q) a (f q)

pub put_same : {A : Type 0} (f : ℕ → A) (k : ℕ) (a : A) → put f k a k ≡ a
put_same f k a = ap (λ b. cond b a (f k)) (eq-eqb k k refl)

pub put_other : {A : Type 0} (f : ℕ → A) (k : ℕ) (a : A) (q : ℕ) → k ≢ q → put f k a q ≡ f q
put_other f k a q n = ap (λ b. cond b a (f q)) (ne_eqb k q n)

pub put_none : (f : ℕ → Option ℕ) (k q : ℕ) → f q ≡ None → put f k None q ≡ None
put_none f k q e = elim (k == q) as (λ b. cond b None (f q) ≡ None) [ true ↦ refl | false ↦ e ]

pub nil_right : {A : Type 0} (xs : List A) → xs ++ [] ≡ xs
nil_right [] = refl
nil_right (x ∷ xs) = ap (λ l. x ∷ l) (nil_right xs)

pub of-append : (p : ℕ) (xs ys : List Posted) → of p (xs ++ ys) ≡ of p xs ++ of p ys
of-append p [] ys = refl
of-append p (m ∷ ms) ys =
    elim (m.from == p) as (λ b. cond b (m.mail ∷ of p (ms ++ ys)) (of p (ms ++ ys)) ≡ cond b (m.mail ∷ of p ms) (of p ms) ++ of p ys)
    [ true ↦ ap (λ l. m.mail ∷ l) (of-append p ms ys) | false ↦ of-append p ms ys ]

pub of_here : (p : ℕ) (x : Posted) → x.from ≡ p → of p (x ∷ []) ≡ x.mail ∷ []
of_here p x e = ap (λ b. cond b (x.mail ∷ []) []) (eq-eqb x.from p e)

of_else : (p : ℕ) (x : Posted) → x.from ≢ p → of p (x ∷ []) ≡ []
of_else p x n = ap (λ b. cond b (x.mail ∷ []) []) (ne_eqb x.from p n)

-- one more mail of another sender changes nothing
pub quiet : (l : List Mail) (p : ℕ) (x : Posted) → x.from ≢ p → l ++ of p (x ∷ []) ≡ l
quiet l p x n = ap (λ y. l ++ y) (of_else p x n) ∙ nil_right l

pub at_end : {A : Type 0} (l : List A) (a b : A) (j : ℕ) → get_elem? (l ++ a ∷ []) j ≡ some b → (get_elem? l j ≡ some b) ⊎
    ((j ≡ length l) × (a ≡ b))
at_end [] a b zero e = inr (refl, some-injective a b e)
at_end [] a b (suc j) e = absurd (some-ne-none b (sym e))
at_end (x ∷ xs) a b zero e = inl e
at_end (x ∷ xs) a b (suc j) e = ⊎_elim (λ t. inl t) (λ (t : (j ≡ length xs) × (a ≡ b)). inr (ap suc t.0, t.1)) (at_end xs a b j e)

pub only : {A : Type 0} (a b : A) (j : ℕ) → get_elem? (a ∷ []) j ≡ some b → (j ≡ 0) × (a ≡ b)
only a b zero e = (refl, some-injective a b e)
only a b (suc j) e = absurd (some-ne-none b (sym e))

pub clash : {A : Type 0} (a b : A) → Some a ≡ Some b → a ≡ b
clash a b e = cc

pub no_seat : (o : Option ℕ) (a : ℕ) → o ≡ Some a → o ≡ None → ⊥
no_seat o a e n = cc

pub lt_or_le : (a b : ℕ) → (a < b) ⊎ (b ≤ a)
lt_or_le zero zero = inr (omega arith)
lt_or_le zero (suc b) = inl (omega arith)
lt_or_le (suc a) zero = inr (omega arith)
lt_or_le (suc a) (suc b) = ⊎_elim (λ (x : a < b). inl (omega arith)) (λ (x : b ≤ a). inr (omega arith)) (lt_or_le a b)

-- each view of the list, with its number
abbrev pub All : (ℕ → View → Type 0) → List View → Type 0
All F views = (port : ℕ) (v : View) → get_elem? views port ≡ some v → F port v

pub all_set : (F : ℕ → View → Type 0) (views : List View) (port : ℕ) (w : View) → F port w
    → ((j : ℕ) (u : View) → j ≢ port → get_elem? views j ≡ some u → F j u) → All F (set views port w)
all_set F views port w mine others j u e =
    ⊎_elim (λ (x : (j ≡ port) × (w ≡ u)). subst (λ (y : ℕ × View). F y.0 y.1) (λ i. (sym x.0 i, x.1 i)) mine)
    (λ (x : (j ≢ port) × (get_elem? views j ≡ some u)). others j u x.0 x.1) (at_set views port j w u e)
