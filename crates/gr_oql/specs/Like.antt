-- Which texts a pattern stands for, both given by their characters.
use Rattle.std.specs.Prelude.{ℕ, List, [], ◌∷◌, Bool, true, false, ◌&&◌, ◌||◌, ◌==◌, if◌then◌else◌}
use Rattle.std.specs.List.{list_any}

-- the text itself, and what is left of it behind each of its characters
abbrev pub ends : List ℕ → List (List ℕ)
ends [] = [] ∷ []
ends (c ∷ cs) = (c ∷ cs) ∷ ends cs

-- `%` stands for any characters or none
abbrev pub percent : ℕ
percent = 37

-- `_` stands for one character, whichever it is
abbrev pub underscore : ℕ
underscore = 95

-- any character of a pattern but `%` stands for one, and mostly for itself
abbrev pub stands_for : ℕ → ℕ → Bool
stands_for p c = p == underscore || p == c

abbrev pub is_empty : List ℕ → Bool
is_empty [] = true
is_empty (c ∷ cs) = false

-- the text has a first character that this one stands for, and what comes behind it passes
abbrev pub first_and_rest : ℕ → (List ℕ → Bool) → List ℕ → Bool
first_and_rest p passes [] = false
first_and_rest p passes (c ∷ cs) = stands_for p c && passes cs

-- the whole text is what the pattern stands for
abbrev pub is_like : List ℕ → List ℕ → Bool
is_like [] text = is_empty text
is_like (p ∷ ps) text = if p == percent then list_any (is_like ps) (ends text) else first_and_rest p (is_like ps) text

-- some end of the text is what the pattern stands for
abbrev pub has_end_like : List ℕ → List ℕ → Bool
has_end_like pattern text = list_any (is_like pattern) (ends text)
