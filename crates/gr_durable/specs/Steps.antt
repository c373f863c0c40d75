-- Which queries a client has open by its steps.
use Rattle.std.specs.Prelude.{◌≡◌, ℕ, ◌<◌, List, [], ◌∷◌, Bool, true, false, bytes_eq, if◌then◌else◌}
use Rattle.gr_history.specs.declared.query_ask.QueryAsk.{QueryAsk}
use Rattle.gr_history.specs.declared.query_ask.QueryAsk.TheVariants.{Enrol, Stop, Close, Fetch}
use Rattle.gr_history.specs.declared.record.Record.{Record}
use Rattle.gr_history.specs.Queries.{name_of}
use Rattle.gr_law.specs.Grids.{Among}
use Rattle.gr_script.specs.declared.line.Act.{Act}
use Rattle.gr_script.specs.declared.line.Act.TheVariants as act
use Rattle.gr_script.specs.declared.line.Line.{Line}
use Rattle.gr_script.specs.declared.line.Step.{Step}
use Rattle.gr_script.specs.Rules.{Heading, IsStated}
use Rattle.gr_script.specs.Steps.{steps_of}
use Rattle.gr_durable.specs.declared.table.Table.{Table}
use Rattle.gr_durable.specs.Tables.{tables_of}

-- a query is open from where it is opened until it is closed
abbrev pub opens : QueryAsk → Bool → Bool
opens (Enrol name question) before = true
opens (Stop name) before = before
opens (Close name) before = false
opens (Fetch name) before = before

abbrev pub opens_at : List ℕ → Act → Bool → Bool
opens_at name (act.Call ask) before = before
opens_at name (act.Query ask) before = if bytes_eq (name_of ask) name then opens ask before else before
opens_at name (act.Peek key) before = before

-- whether the query of this name is open behind these steps, of which the first one comes first
abbrev pub is_open_behind : List ℕ → Bool → List Step → Bool
is_open_behind name before [] = before
is_open_behind name before (step ∷ steps) = is_open_behind name (opens_at name step.act before) steps

abbrev pub HasOpen : List Line → ℕ → List ℕ → Type 0
HasOpen lines client name = is_open_behind name false (steps_of client lines) ≡ true

pub record IsTableOf (client : ℕ) (name : List ℕ) (left : Record) : Type 0 where
  pub table : Table
  pub among : Among table (tables_of left)
  pub client_is : table.client ≡ client
  pub name_is : table.name ≡ name

-- There is a table of each query that a client has open behind its last line, and of no other.
pub record AreOfOpenQueries (heading : Heading) (lines : List Line) (left : Record) : Type 0 where
  pub open_ones : (table : Table) → Among table (tables_of left) → IsStated table.client heading × HasOpen lines table.client table.name
  pub all : (client : ℕ) (name : List ℕ) → IsStated client heading → HasOpen lines client name → IsTableOf client name left
