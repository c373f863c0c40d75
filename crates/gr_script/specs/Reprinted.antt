-- A text and the one form in which the script that it says is printed.
use Rattle.std.specs.Prelude.{◌≡◌, ℕ, List, Ok, false}
use Rattle.gr_script.specs.declared.script.Script.{Script}
use Rattle.gr_script.specs.Printed.{script_text}
use Rattle.gr_script.specs.Said.{script_of}
use Rattle.gr_script.specs.Scripts.{heading_of}

-- The text says a script, and this is what is printed of it.
pub record IsPrintOf (text printed : List ℕ) : Type 0 where
  pub script : Script
  pub says : script_of false text ≡ Ok (heading_of script, script.lines)
  pub printed_is : printed ≡ script_text (heading_of script) script.lines
