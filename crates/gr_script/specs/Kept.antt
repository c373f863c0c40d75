-- What can be taken in behind earlier lines.
use Rattle.std.specs.Prelude.{◌≡◌, ◌≤◌, List, true, Some, option_map}
use Rattle.gr_script.specs.declared.saying.Saying.{Saying}
use Rattle.gr_script.specs.Forms.{rank, is_step}
use Rattle.gr_script.specs.Narrow.{IsNarrow, IsNarrowStep}
use Rattle.gr_script.specs.Past.{stage}
use Rattle.gr_script.specs.Printed.{saying_in}
use Rattle.gr_script.specs.Said.{line_of}

-- It is in order, its numbers have room, and the line that it is says it back.
pub record CanBeKept (past : List Saying) (saying : Saying) : Type 0 where
  pub order : stage past ≤ rank saying.kind
  pub step : is_step saying.kind ≡ true → IsNarrowStep saying.items
  pub other : IsNarrow saying.kind saying.items
  pub back : 8 ≤ rank saying.kind → option_map saying_in (line_of past saying) ≡ Some saying
