-- The fields that are kept, with the text that they print, where it is kept too.
use Rattle.std.specs.Prelude.{◌≡◌, List, Option, Some, None}
use Rattle.gr_value.specs.declared.fields.OneOrMany.{OneOrMany}
use Rattle.gr_value.specs.declared.fields.OneOrMany.TheVariants.{One, Many}
use Rattle.gr_value.specs.declared.value.Field.{Field}
use Rattle.gr_value.specs.ValueText.{value_text}

abbrev pub fields_of : OneOrMany → List Field
fields_of (One only) = only
fields_of (Many many text) = many.items

abbrev pub HasText : OneOrMany → Type 0
HasText (One only) = Unit {0}
HasText (Many many None) = Unit {0}
HasText (Many many (Some text)) = text.value.items ≡ value_text many.items
