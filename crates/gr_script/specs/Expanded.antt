-- A script as it is played or run: clients that come back fetch their queries' events, or close them where they are too late.
use Rattle.std.specs.Prelude.{ℕ, ◌+◌, ◌==◌, ◌&&◌, List, [], ◌∷◌, Bool, true, false, length, map, reverse, if◌then◌else◌}
use Rattle.gr_history.specs.declared.query_ask.QueryAsk.{QueryAsk}
use Rattle.gr_history.specs.declared.query_ask.QueryAsk.TheVariants as query
use Rattle.gr_script.specs.declared.attendance.Presence.{Presence}
use Rattle.gr_script.specs.declared.line.Act.TheVariants as act
use Rattle.gr_script.specs.declared.line.Line.{Line}
use Rattle.gr_script.specs.declared.line.Line.TheVariants as line
use Rattle.gr_script.specs.Absence.{is_late, presence}
use Rattle.gr_script.specs.Steps.{step_count}

-- how many steps the returns of a client stand for
abbrev pub added : ℕ → List Line → ℕ
added client [] = 0
added client (line.Back own moment ∷ past) =
    (if own == client then length (presence own past).names else 0) + added client past
added client (_ ∷ past) = added client past

-- The new number of a client's step, behind the lines before it: its own, with the steps of the returns before it.
abbrev pub new_number : ℕ → ℕ → List Line → ℕ
new_number client number [] = number
new_number client number (line.Step own seq act ∷ past) =
    if own == client && seq == number then number + added client past else new_number client number past
new_number client number (_ ∷ past) = new_number client number past

-- what a client that is back does of a query
abbrev pub return_of : Bool → List ℕ → QueryAsk
return_of true name = query.Close name
return_of false name = query.Fetch name

-- these steps of a client behind the others, the first of them with this number
abbrev pub steps_on : ℕ → ℕ → List QueryAsk → List Line → List Line
steps_on client number [] past = past
steps_on client number (ask ∷ asks) past = steps_on client (number + 1) asks (line.Step client number (act.Query ask) ∷ past)

-- the steps of a client that stands so and is back at this moment, of all its queries in the order of their names
abbrev pub returns : Presence → ℕ → List QueryAsk
returns stands moment = map (return_of (is_late stands.moment moment)) stands.names

-- What is played in place of a line behind those before it. All lines are listed the last one first.
abbrev pub with_line : List Line → Line → List Line → List Line
with_line past (line.Step client seq act) before = line.Step client (seq + added client past) act ∷ before
with_line past (line.Deliver to client number) before = line.Deliver to client (new_number client number past) ∷ before
with_line past (line.Leave client moment) before = before
with_line past (line.Back client moment) before =
    steps_on client (step_count client past + added client past + 1) (returns (presence client past) moment) before
with_line past other before = other ∷ before

abbrev pub expanded : List Line → List Line
expanded [] = []
expanded (line ∷ past) = with_line past line (expanded past)

-- the same of lines in their order
abbrev pub expansion : List Line → List Line
expansion lines = reverse (expanded (reverse lines))
