-- Lists whose items are numbered.
use Rattle.std.specs.Prelude.{ℕ, zero, suc, List, [], ◌∷◌}

-- what f gives for n numbers from this one on
abbrev pub numbers_from : {A : Type 0} → ℕ → ℕ → (ℕ → A) → List A
numbers_from from zero f = []
numbers_from from (suc n) f = f from ∷ numbers_from (suc from) n f

-- two lists of one length, where this holds of the items of each number, from this one on
abbrev pub PairsFrom : {A B : Type 0} → (ℕ → A → B → Type 0) → ℕ → List A → List B → Type 0
PairsFrom P from [] [] = Unit {0}
PairsFrom P from [] (y ∷ ys) = ⊥
PairsFrom P from (x ∷ xs) [] = ⊥
PairsFrom P from (x ∷ xs) (y ∷ ys) = P from x y × PairsFrom P (suc from) xs ys
