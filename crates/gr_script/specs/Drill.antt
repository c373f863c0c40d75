-- The drill: a script that is drawn from a number.
use Rattle.std.specs.Prelude.{◌≡◌, ℕ, zero, suc, ◌+◌, ◌-◌, ◌*◌, ◌/◌, ◌%◌, List, [], ◌∷◌, ◌++◌, codes, nat_lt, ◌==◌, if◌then◌else◌}
use Rattle.std.specs.Fmt.{decimal}
use Rattle.std.specs.Prelude.{pos}
use Rattle.gr_value.specs.declared.scalar.Scalar.TheVariants.{Int}
use Rattle.gr_value.specs.declared.value.Field.{Field}
use Rattle.gr_value.specs.Drawing.{drawn}
use Rattle.gr_oql.specs.Grammar.{Spells}
use Rattle.gr_oql.specs.Question.{Question}
use Rattle.gr_history.specs.declared.ask.Ask.{Ask}
use Rattle.gr_history.specs.declared.ask.Ask.TheVariants as ask
use Rattle.gr_history.specs.declared.query_ask.QueryAsk.{QueryAsk}
use Rattle.gr_history.specs.declared.query_ask.QueryAsk.TheVariants as query
use Rattle.gr_script.specs.declared.line.Act.TheVariants.{Call, Query}
use Rattle.gr_script.specs.declared.line.Line.{Line}
use Rattle.gr_script.specs.declared.line.Line.TheVariants.{Step, Report, Sweep}
use Rattle.gr_script.specs.Rules.{Heading, heading}

-- the client of a step of the drill, of which the first is 1
abbrev pub drill_client : ℕ → ℕ
drill_client step = 1 + (step - 1) % 16

-- Client n is at member 1 to 4 in turn.
abbrev pub drill_homes : List ℕ
drill_homes = 1 ∷ 2 ∷ 3 ∷ 4 ∷ 1 ∷ 2 ∷ 3 ∷ 4 ∷ 1 ∷ 2 ∷ 3 ∷ 4 ∷ 1 ∷ 2 ∷ 3 ∷ 4 ∷ []

abbrev pub drill_region : List ℕ
drill_region = codes "/drill"

abbrev pub drill_heading : ℕ → Heading
drill_heading start = heading drill_region 4 4 8 8 start 0 drill_homes

-- ---- what is asked at a step, by the two numbers that are drawn for it

-- One key in four is shared by the clients, and the others are one client's own.
abbrev pub drill_key : ℕ → ℕ → List ℕ
drill_key client second =
    if second % 4 == 0 then codes "s" ++ decimal (second / 4 % 32)
    else codes "c" ++ (decimal client ++ (codes "." ++ decimal (second / 4 % 16)))

abbrev pub drill_value : ℕ → List Field
drill_value first = record { name = codes "n"; scalar = Int (pos (first % 1000)) } ∷ []

abbrev pub ask_by : ℕ → List ℕ → List Field → Ask
ask_by choice key value =
    if nat_lt choice 4 then ask.Put key value
    else (if choice == 4 then ask.Get key
    else (if choice == 5 then ask.Destroy key
    else (if choice == 6 then ask.PutIfAbsent key value
    else ask.Replace key value)))

abbrev pub drill_ask : ℕ → ℕ → ℕ → Ask
drill_ask client first second = ask_by (first % 8) (drill_key client second) (drill_value first)

-- ---- the lines

-- Of the clients, four have opened a query before their first step.
abbrev pub asked_before : ℕ → ℕ
asked_before client = if nat_lt client 5 then 1 else 0

-- which of its client's steps this step of the drill is
abbrev pub drill_seq : ℕ → ℕ
drill_seq step = (step - 1) / 16 + asked_before (drill_client step) + 1

-- how many steps of the drill a client makes, of so many
abbrev pub steps_made : ℕ → ℕ → ℕ
steps_made client steps = (steps + 16 - client) / 16

-- the same line of each member
abbrev pub at_members : (ℕ → Line) → List Line
at_members line = line 1 ∷ line 2 ∷ line 3 ∷ line 4 ∷ []

-- the reports and sweeps behind each thousandth step
abbrev pub swept_behind : ℕ → List Line
swept_behind step =
    if step % 1000 == 0 then at_members Report ++ at_members (λ member. Sweep member (700 * (step / 1000)))
    else []

abbrev pub step_lines : ℕ → ℕ → ℕ → List Line
step_lines step first second =
    Step (drill_client step) (drill_seq step) (Call (drill_ask (drill_client step) first second)) ∷ swept_behind step

-- so many steps from this one on, behind the number x
abbrev pub drill_steps : ℕ → ℕ → ℕ → List Line
drill_steps zero step x = []
drill_steps (suc left) step x =
    step_lines step (drawn x) (drawn (drawn x)) ++ drill_steps left (step + 1) (drawn (drawn x))

abbrev pub drill_query : List ℕ
drill_query = codes "SELECT * FROM /drill WHERE n >= 500"

-- what each client calls its query
abbrev pub query_name : List ℕ
query_name = codes "q"

abbrev pub asks_at : (ℕ → ℕ) → QueryAsk → List Line
asks_at seq asked = at_members (λ client. Step client (seq client) (Query asked))

-- the lines, where this is what the query's text asks
abbrev pub drill_lines : Question → ℕ → ℕ → List Line
drill_lines asked start steps =
    asks_at (λ client. 1) (query.Enrol query_name asked)
    ++ (drill_steps steps 1 start ++ asks_at (λ client. steps_made client steps + 2) (query.Fetch query_name))

-- a script of so many steps that are drawn from the number, in which the query asks what its text spells
abbrev pub IsDrill : ℕ → ℕ → Heading × List Line → Type 0
IsDrill start steps script = (asked : Question) × Spells drill_query asked ×
    (script ≡ (drill_heading start, drill_lines asked start steps))
