-- How one list begins another.
use Rattle.std.specs.Prelude.{◌≡◌, List, ◌++◌}

-- the list begins with these items, in this order
abbrev pub StartsWith : {E : Type 0} → List E → List E → Type 0
StartsWith {E} all first = (rest : List E) × (all ≡ first ++ rest)
