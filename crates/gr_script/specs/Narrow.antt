-- The numbers of a line have room where a script keeps them.
use Rattle.std.specs.Prelude.{◌<◌, ◌^◌, List}
use Rattle.gr_script.specs.declared.forms.LineKind.{LineKind}
use Rattle.gr_script.specs.declared.forms.LineKind.TheVariants as kind
use Rattle.gr_script.specs.declared.items.Item.{Item}
use Rattle.gr_script.specs.Past.{number}

abbrev pub IsNarrowStep : List Item → Type 0
IsNarrowStep items = number 0 items < 2 ^ 8

abbrev pub IsNarrow : LineKind → List Item → Type 0
IsNarrow kind.Deliver items = (number 0 items < 2 ^ 8) × (number 1 items < 2 ^ 8) × (number 2 items < 2 ^ 32)
IsNarrow kind.Report items = number 0 items < 2 ^ 8
IsNarrow kind.Hear items = (number 0 items < 2 ^ 8) × (number 1 items < 2 ^ 8) × (number 2 items < 2 ^ 32)
IsNarrow kind.Sweep items = (number 0 items < 2 ^ 8) × (number 1 items < 2 ^ 64)
IsNarrow kind.Join items = (number 0 items < 2 ^ 8) × (number 1 items < 2 ^ 8)
IsNarrow kind.Depart items = number 0 items < 2 ^ 8
IsNarrow kind.Leave items = (number 0 items < 2 ^ 8) × (number 1 items < 2 ^ 32)
IsNarrow kind.Back items = (number 0 items < 2 ^ 8) × (number 1 items < 2 ^ 32)
IsNarrow _ items = Unit {0}
