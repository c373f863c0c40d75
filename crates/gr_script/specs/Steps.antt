-- The steps of a client, and how many lines of each kind there are.
use Rattle.std.specs.Prelude.{◌≡◌, ℕ, ◌+◌, List, [], ◌∷◌, ◌==◌, ◌||◌, Bool, true, false, Option, Some, None, count_by, is_some, length}
use Rattle.std.specs.Prelude.{if◌then◌else◌}
use Rattle.std.specs.List.{filter_map}
use Rattle.gr_history.specs.declared.query_ask.QueryAsk.TheVariants as query
use Rattle.gr_script.specs.declared.line.Act.TheVariants as act
use Rattle.gr_script.specs.declared.line.Line.{Line}
use Rattle.gr_script.specs.declared.line.Line.TheVariants as line
use Rattle.gr_script.specs.declared.line.Step.{Step}

-- the step, where the line is one of this client
abbrev pub step_of : ℕ → Line → Option Step
step_of client (line.Step own seq act) = if own == client then Some (record { seq = seq; act = act }) else None
step_of client _ = None

-- the client's steps, in order
abbrev pub steps_of : ℕ → List Line → List Step
steps_of client lines = filter_map (step_of client) lines

-- The steps are numbered on from this number.
abbrev pub AreNumbered : ℕ → List Step → Type 0
AreNumbered number [] = Unit {0}
AreNumbered number (step ∷ steps) = (step.seq ≡ number) × AreNumbered (number + 1) steps

-- how many of the lines are steps of the client
abbrev pub step_count : ℕ → List Line → ℕ
step_count client lines = count_by (λ line. is_some (step_of client line)) lines

-- ---- lines of the other kinds

abbrev pub is_report : Line → Bool
is_report (line.Report member) = true
is_report _ = false

abbrev pub is_report_of : ℕ → Line → Bool
is_report_of of (line.Report member) = member == of
is_report_of of _ = false

abbrev pub is_sweep : Line → Bool
is_sweep (line.Sweep member moment) = true
is_sweep _ = false

abbrev pub is_join_of : ℕ → Line → Bool
is_join_of joiner (line.Join member from) = member == joiner
is_join_of joiner _ = false

-- whether this member gives the image on the line
abbrev pub is_join_from : ℕ → Line → Bool
is_join_from provider (line.Join member from) = from == provider
is_join_from provider _ = false

-- whether a client asks something of a query
abbrev pub is_query : Line → Bool
is_query (line.Step client seq (act.Query ask)) = true
is_query _ = false

abbrev pub is_open : Line → Bool
is_open (line.Step client seq (act.Query (query.Enrol name query))) = true
is_open _ = false

abbrev pub reports : List Line → ℕ
reports lines = count_by is_report lines

-- the reports of one member
abbrev pub reports_of : ℕ → List Line → ℕ
reports_of member lines = count_by (is_report_of member) lines

abbrev pub sweeps : List Line → ℕ
sweeps lines = count_by is_sweep lines

-- how often a member joins
abbrev pub joins_of : ℕ → List Line → ℕ
joins_of member lines = count_by (is_join_of member) lines

-- how often it gives an image
abbrev pub joins_from : ℕ → List Line → ℕ
joins_from provider lines = count_by (is_join_from provider) lines

abbrev pub queries : List Line → ℕ
queries lines = count_by is_query lines

abbrev pub opens : List Line → ℕ
opens lines = count_by is_open lines

-- ---- departures

abbrev pub departs : Line → Option ℕ
departs (line.Depart member) = Some member
departs _ = None

-- the members that departed
abbrev pub departed : List Line → List ℕ
departed lines = filter_map departs lines

-- whether the member is among those that departed
abbrev pub is_gone : List ℕ → ℕ → Bool
is_gone [] member = false
is_gone (first ∷ rest) member = first == member || is_gone rest member

-- how many reports are heard on a line, behind these: at a sweep one of each member that departed
abbrev pub heard_on : List Line → Line → ℕ
heard_on past (line.Hear by of number) = 1
heard_on past (line.Sweep member moment) = length (departed past)
heard_on past _ = 0

-- how many reports are heard on the lines, the last of which comes first
abbrev pub hears : List Line → ℕ
hears [] = 0
hears (line ∷ past) = heard_on past line + hears past
