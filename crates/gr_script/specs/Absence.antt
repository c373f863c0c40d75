-- Clients that leave and come back, and the queries that each has open.
use Rattle.std.specs.Prelude.{◌≡◌, ℕ, ◌-◌, ◌+◌, ◌==◌, List, [], ◌∷◌, Bool, true, false, not, nat_le, bytes_eq, filter, length, get_or}
use Rattle.std.specs.Prelude.{if◌then◌else◌}
use Rattle.gr_history.specs.declared.query_ask.QueryAsk.TheVariants as query
use Rattle.gr_history.specs.Regions.{with_key}
use Rattle.gr_script.specs.declared.attendance.Presence.{Presence}
use Rattle.gr_script.specs.declared.line.Act.{Act}
use Rattle.gr_script.specs.declared.line.Act.TheVariants as act
use Rattle.gr_script.specs.declared.line.Line.{Line}
use Rattle.gr_script.specs.declared.line.Line.TheVariants as line
use Rattle.gr_script.specs.Steps.{queries}

-- the most seconds after which a client that comes back still has its queries
abbrev pub longest_absence : ℕ
longest_absence = 300

-- Whether a client has left and isn't back, the moment of its last line of leaving or coming back, and the names of the
-- queries that it has open, in order.
abbrev pub presence_of : Bool → ℕ → List (List ℕ) → Presence
presence_of away moment names = record { away = away; moment = moment; names = names }

abbrev pub at_first : Presence
at_first = presence_of false 0 []

abbrev pub without_name : List ℕ → List (List ℕ) → List (List ℕ)
without_name name names = filter (λ other. not (bytes_eq other name)) names

-- A query is open from its opening to its closing.
abbrev pub names_after : Act → List (List ℕ) → List (List ℕ)
names_after (act.Query (query.Enrol name question)) names = with_key name names
names_after (act.Query (query.Stop name)) names = names
names_after (act.Query (query.Close name)) names = without_name name names
names_after (act.Query (query.Fetch name)) names = names
names_after (act.Call ask) names = names
names_after (act.Peek key) names = names

abbrev pub is_late : ℕ → ℕ → Bool
is_late left back = not (nat_le (back - left) longest_absence)

-- What comes of it on a line. A client that is back too late has no query open any more.
abbrev pub after_own : Line → Presence → Presence
after_own (line.Step client seq act) before = presence_of before.away before.moment (names_after act before.names)
after_own (line.Leave client moment) before = presence_of true moment before.names
after_own (line.Back client moment) before = presence_of false moment (if is_late before.moment moment then [] else before.names)
after_own _ before = before

-- whether the line is one of the client
abbrev pub is_own_line : ℕ → Line → Bool
is_own_line client (line.Step own seq act) = own == client
is_own_line client (line.Leave own moment) = own == client
is_own_line client (line.Back own moment) = own == client
is_own_line client _ = false

-- how a client stands behind the lines, the last of which comes first
abbrev pub presence : ℕ → List Line → Presence
presence client [] = at_first
presence client (line ∷ past) = if is_own_line client line then after_own line (presence client past) else presence client past

-- how many steps on queries a line stands for beside itself: one for each query that a client has open which comes back
abbrev pub returned_on : List Line → Line → ℕ
returned_on past (line.Back client moment) = length (presence client past).names
returned_on past _ = 0

abbrev pub returned : List Line → ℕ
returned [] = 0
returned (line ∷ past) = returned_on past line + returned past

-- how many steps on queries the lines stand for in all
abbrev pub asks : List Line → ℕ
asks past = queries past + returned past

-- What is kept of each client, by its number, is how it stands.
abbrev pub IsAttendance : List Presence → List Line → Type 0
IsAttendance kept past = (client : ℕ) → get_or kept client at_first ≡ presence client past

-- This client stands so now, and the others as they did.
abbrev pub IsSet : List Presence → ℕ → Presence → List Presence → Type 0
IsSet before client next after = (n : ℕ) → get_or after n at_first ≡ (if client == n then next else get_or before n at_first)

abbrev pub AreSame : List Presence → List Presence → Type 0
AreSame before after = (n : ℕ) → get_or after n at_first ≡ get_or before n at_first
