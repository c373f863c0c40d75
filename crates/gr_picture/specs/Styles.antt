-- What a style adds to the tag of a text.
use Rattle.std.specs.Prelude.{List, [], ◌∷◌, codes}
use Rattle.gr_picture.specs.Elements.{Attribute}
use Rattle.gr_picture.specs.declared.style.Style.{Style}
use Rattle.gr_picture.specs.declared.style.Style.TheVariants.{Plain, Bold, Dim, Dark, Middle, AtEnd}

abbrev pub style_attributes : Style → List Attribute
style_attributes Plain = []
style_attributes Bold = record { name = codes "font-weight"; value = codes "bold" } ∷ []
style_attributes Dim = record { name = codes "fill"; value = codes "#555" } ∷ []
style_attributes Dark = record { name = codes "fill"; value = codes "#333" } ∷ []
style_attributes Middle = record { name = codes "text-anchor"; value = codes "middle" } ∷ []
style_attributes AtEnd = record { name = codes "text-anchor"; value = codes "end" } ∷ []
