-- The script that a text says: its heading, and the line that each saying is.
use Rattle.std.specs.Prelude.{ℕ, List, [], reverse, Bool, unwrap_or, Result, Ok, Err}
use Rattle.gr_script.specs.declared.ending.ScriptEnd.{ScriptEnd}
use Rattle.gr_script.specs.declared.line.Line.{Line}
use Rattle.gr_script.specs.declared.saying.Saying.{Saying}
use Rattle.gr_script.specs.Past.{region, members, founders, shards, inbox, trouble, floor, homes}
use Rattle.gr_script.specs.Rules.{Heading, heading}
use Rattle.gr_script.specs.Sayings.{sayings_of}
pub use Rattle.gr_script.specs.LinesSaid.{no_parts, parts_with, parts_of, query_with, act_with, act_said, step_said, other_said, line_of}
pub use Rattle.gr_script.specs.LinesSaid.{lines_said}

abbrev pub heading_said : List Saying → Heading
heading_said past =
    heading (unwrap_or (region past) []) (members past) (founders past) (shards past) (inbox past) (trouble past) (floor past) (homes past)

abbrev pub script_said : List Saying → Heading × List Line
script_said past = (heading_said past, reverse (lines_said past))

abbrev pub script_from : Result (List Saying) ScriptEnd → Result (Heading × List Line) ScriptEnd
script_from (Ok past) = Ok (script_said past)
script_from (Err end) = Err end

-- The script that a text is, or why it is none.
abbrev pub script_of : Bool → List ℕ → Result (Heading × List Line) ScriptEnd
script_of runs text = script_from (sayings_of runs text)
