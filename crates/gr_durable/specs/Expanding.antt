-- What is kept while a script is expanded line by line.
use Rattle.std.specs.Prelude.{◌≡◌, ℕ, ◌+◌, ◌≤◌, ◌<◌, ◌==◌, Bool, true, false, List, [], ◌∷◌, ◌++◌, length, get_or, if◌then◌else◌}
use Rattle.gr_script.specs.declared.line.Line.{Line}
use Rattle.gr_script.specs.declared.line.Line.TheVariants.{Step, Deliver, Leave, Back}
use Rattle.gr_script.specs.Absence.{IsAttendance}
use Rattle.gr_script.specs.Expanded.{added, new_number}
use Rattle.gr_script.specs.Rules.{IsWithin}
use Rattle.gr_script.specs.Steps.{step_count}
use Rattle.gr_durable.specs.declared.expander.Expander.{Expander}
use Rattle.gr_durable.specs.declared.expander.Turn.{Turn}
use Rattle.gr_durable.specs.declared.expander.Turn.TheVariants as turn
use Rattle.gr_durable.specs.declared.numbers.Numbers.{Numbers}

-- whether a client leaves or comes back on the line
abbrev pub is_absence : Line → Bool
is_absence (Leave client moment) = true
is_absence (Back client moment) = true
is_absence _ = false

-- ---- the numbers of one client

abbrev pub no_numbers : Numbers
no_numbers = record { kept = 0; moved = []; added = 0 }

-- The first steps keep their numbers, the others have these.
pub record IsNumbered (numbers : Numbers) (client : ℕ) (past : List Line) : Type 0 where
  pub counted : numbers.kept + length numbers.moved ≡ step_count client past
  pub added_is : numbers.added ≡ added client past
  pub all_kept : numbers.added ≡ 0 → length numbers.moved ≡ 0
  pub first : (number : ℕ) → number ≤ numbers.kept → new_number client number past ≡ number
  pub rest : (place : ℕ) → place < length numbers.moved → new_number client (numbers.kept + 1 + place) past ≡ get_or numbers.moved place 0

-- with the client's next step
abbrev pub stepped : Numbers → ℕ → Numbers
stepped numbers seq =
    if numbers.added == 0 then record { kept = seq; moved = numbers.moved; added = numbers.added }
    else record { kept = numbers.kept; moved = numbers.moved ++ (seq + numbers.added) ∷ []; added = numbers.added }

-- with so many steps more for a return
abbrev pub with_added : Numbers → ℕ → Numbers
with_added numbers steps = record { kept = numbers.kept; moved = numbers.moved; added = steps + numbers.added }

-- ---- all clients

abbrev pub AreNumbered : ℕ → List Numbers → List Line → Type 0
AreNumbered clients all past = (client : ℕ) → client ≤ clients → IsNumbered (get_or all client no_numbers) client past

-- So much is kept behind the lines, which are listed the last one first, of a script with so many clients.
pub record IsExpander (clients : ℕ) (expander : Expander) (past : List Line) : Type 0 where
  pub attended : IsAttendance expander.attendance past
  pub many : length expander.numbers.items ≡ clients + 1
  pub numbered : AreNumbered clients expander.numbers.items past

-- A line names clients that are there, and steps that are.
abbrev pub Fits : ℕ → List Line → Line → Type 0
Fits clients past (Step client seq act) = (client ≤ clients) × (seq ≡ step_count client past + 1)
Fits clients past (Deliver to client number) = (client ≤ clients) × IsWithin 1 (step_count client past) number
Fits clients past (Back client moment) = client ≤ clients
Fits clients past _ = Unit {0}

-- the lines that are played in place of one
abbrev pub lines_in : Turn → List Line
lines_in (turn.Line line) = line ∷ []
lines_in (turn.Lines lines) = lines
