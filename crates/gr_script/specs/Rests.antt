-- What a text is that stands on a line as its rest.
use Rattle.std.specs.Prelude.{◌≡◌, ℕ, List, [], ◌∷◌, Bool, false}
use Rattle.std.specs.Coded.{Coded-set, codes}
use Rattle.gr_script.specs.Cuts.{is_space, ends_with}
use Rattle.gr_script.specs.Texts.{IsLine}

abbrev pub begins_spaced : List ℕ → Bool
begins_spaced [] = false
begins_spaced (first ∷ _) = is_space first

-- It has no line feed, and no space at either end.
pub record IsRest (text : List ℕ) : Type 0 where
  pub line : IsLine text
  pub front : begins_spaced text ≡ false
  pub back : ends_with 0x20 text ≡ false

pub IsRest-prop : (text : List ℕ) → IsProp (IsRest text)
IsRest-prop text = hlevel (Coded-set, codes)
