-- The parts of a line, put together from the right.
use Rattle.std.proofs.Common.{◌≡◌, List, [], ◌∷◌, ◌++◌, refl, ap}
use Rattle.gr_script.specs.declared.items.Item.{Item}
use Rattle.gr_script.specs.declared.parts.Parts.{Parts}
use Rattle.gr_script.specs.Said.{no_parts, parts_with, parts_of}

-- fields in front of those that these are the parts of
abbrev pub parts_onto : Parts → List Item → Parts
parts_onto parts [] = parts
parts_onto parts (item ∷ items) = parts_with item (parts_onto parts items)

pub onto_none : (items : List Item) → parts_onto no_parts items ≡ parts_of items
onto_none [] = refl
onto_none (item ∷ items) = ap (parts_with item) (onto_none items)

pub onto_last : (parts : Parts) (items : List Item) (item : Item)
    → parts_onto parts (items ++ item ∷ []) ≡ parts_onto (parts_with item parts) items
onto_last parts [] item = refl
onto_last parts (front ∷ items) item = ap (parts_with front) (onto_last parts items item)
