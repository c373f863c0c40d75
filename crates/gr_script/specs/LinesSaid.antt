-- The line of a script that each saying is.
use Rattle.std.specs.Prelude.{ℕ, ◌+◌, List, [], ◌∷◌, Option, Some, None, option_map, if◌then◌else◌}
use Rattle.std.specs.List.{cons_option}
use Rattle.std.specs.Option.{option_and_then}
use Rattle.gr_history.specs.declared.query_ask.QueryAsk.TheVariants as query
use Rattle.gr_oql.specs.Question.{Question}
use Rattle.gr_script.specs.declared.forms.LineKind.{LineKind}
use Rattle.gr_script.specs.declared.forms.LineKind.TheVariants as kind
use Rattle.gr_script.specs.declared.items.Item.{Item}
use Rattle.gr_script.specs.declared.items.Item.TheVariants as item
use Rattle.gr_script.specs.declared.line.Act.{Act}
use Rattle.gr_script.specs.declared.line.Act.TheVariants.{Call, Query, Peek}
use Rattle.gr_script.specs.declared.line.Line.{Line}
use Rattle.gr_script.specs.declared.line.Line.TheVariants as line
use Rattle.gr_script.specs.declared.parts.Parts.{Parts}
use Rattle.gr_script.specs.declared.saying.Saying.{Saying}
use Rattle.gr_script.specs.Forms.{is_step}
use Rattle.gr_script.specs.Operations.{ask_with}
use Rattle.gr_script.specs.Past.{number, steps}

-- what the fields of a line say that are no numbers, put together from the right
abbrev pub no_parts : Parts
no_parts = record { key = None; value = None; other = None; query = None }

abbrev pub parts_with : Item → Parts → Parts
parts_with (item.Key key) parts = record parts { key = Some key }
parts_with (item.Value value) parts = record parts { value = Some value; other = parts.value }
parts_with (item.Query query) parts = record parts { query = Some query }
parts_with _ parts = parts

abbrev pub parts_of : List Item → Parts
parts_of [] = no_parts
parts_of (item ∷ items) = parts_with item (parts_of items)

-- what a client asks of a query of this name at a line of this kind
abbrev pub query_with : LineKind → List ℕ → Option Question → Option Act
query_with kind.Open name found = option_map (λ asked. Query (query.Enrol name asked)) found
query_with kind.Stop name found = Some (Query (query.Stop name))
query_with kind.Close name found = Some (Query (query.Close name))
query_with kind.Fetch name found = Some (Query (query.Fetch name))
query_with _ name found = None

-- what a client does at a line of this kind, with this key or name
abbrev pub act_with : LineKind → List ℕ → Parts → Option Act
act_with (kind.Call operation) key parts = option_map Call (ask_with operation key parts.value parts.other)
act_with kind.Peek key parts = Some (Peek key)
act_with other key parts = query_with other key parts.query

abbrev pub act_said : LineKind → Parts → Option Act
act_said kind parts = option_and_then (λ key. act_with kind key parts) parts.key

-- the step of this number
abbrev pub step_said : ℕ → LineKind → List Item → Option Line
step_said seq kind items = option_map (λ act. line.Step (number 0 items) seq act) (act_said kind (parts_of items))

-- a line that is no step
abbrev pub other_said : LineKind → List Item → Option Line
other_said kind.Deliver items = Some (line.Deliver (number 0 items) (number 1 items) (number 2 items))
other_said kind.Report items = Some (line.Report (number 0 items))
other_said kind.Hear items = Some (line.Hear (number 0 items) (number 1 items) (number 2 items))
other_said kind.Sweep items = Some (line.Sweep (number 0 items) (number 1 items))
other_said kind.Join items = Some (line.Join (number 0 items) (number 1 items))
other_said kind.Depart items = Some (line.Depart (number 0 items))
other_said kind.Leave items = Some (line.Leave (number 0 items) (number 1 items))
other_said kind.Back items = Some (line.Back (number 0 items) (number 1 items))
other_said _ items = None

-- the line that is said behind earlier ones; a client's steps are numbered from 1
abbrev pub line_of : List Saying → Saying → Option Line
line_of past saying =
    if is_step saying.kind then step_said (steps (number 0 saying.items) past + 1) saying.kind saying.items
    else other_said saying.kind saying.items

-- the lines, the last one first
abbrev pub lines_said : List Saying → List Line
lines_said [] = []
lines_said (saying ∷ past) = cons_option (line_of past saying) (lines_said past)
