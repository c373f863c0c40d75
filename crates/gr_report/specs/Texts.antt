-- Texts one after another.
use Rattle.std.specs.Prelude.{ℕ, ◌+◌, List, [], ◌∷◌, ◌++◌, codes, flat_map}

-- the texts of all, numbered from this number
abbrev pub texts_from : {A : Type 0} → (ℕ → A → List ℕ) → ℕ → List A → List ℕ
texts_from text number [] = []
texts_from text number (first ∷ rest) = text number first ++ texts_from text (number + 1) rest

-- words with a space in front of each
abbrev pub spaced : List (List ℕ) → List ℕ
spaced words = flat_map (λ word. codes " " ++ word) words
