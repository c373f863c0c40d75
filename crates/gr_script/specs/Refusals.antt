-- Which line of a script is refused first, and for which reason.
use Rattle.std.specs.Prelude.{ℕ, ◌+◌, List, [], ◌∷◌, length, Bool, false, ◌&&◌}
use Rattle.std.specs.Prelude.{◌||◌, ◌==◌, nat_lt, nat_le, not, bytes_eq, Option, Some, None}
use Rattle.std.specs.Prelude.{Result, Ok, Err, slice_get, if◌then◌else◌}
use Rattle.std.specs.Option.{ok_or, option_map_or}
use Rattle.gr_script.specs.declared.forms.LineKind.{LineKind}
use Rattle.gr_script.specs.declared.forms.LineKind.TheVariants as kind
use Rattle.gr_script.specs.declared.items.Item.{Item}
use Rattle.gr_script.specs.declared.saying.Saying.{Saying}
use Rattle.gr_script.specs.declared.reason.Reason.{Reason}
use Rattle.gr_script.specs.declared.reason.Reason.TheVariants.{Header, Word, Fields, Range, Order, Later, Join, Itself}
use Rattle.gr_script.specs.declared.reason.Reason.TheVariants.{Count, NotInRun, Gone, Provider, Away}
use Rattle.gr_script.specs.Absence.{presence, returned}
use Rattle.gr_script.specs.Cuts.{text_said, is_skipped}
use Rattle.gr_script.specs.Fields.{first, fits, form_of}
use Rattle.gr_script.specs.Forms.{word, fields, rank, is_kind}
use Rattle.gr_script.specs.Halts.{◌>>=◌, unless}
use Rattle.gr_script.specs.Limits.{most_reports, most_hears, most_sweeps, most_opens, most_queries}
use Rattle.gr_script.specs.LinesSaid.{lines_said}
use Rattle.gr_script.specs.Items.{text_at, items_at}
use Rattle.gr_script.specs.Past.{number, founders, home, clients, setting, count_of, queries, steps, reports, joins, departs, gifts, hears}
use Rattle.gr_script.specs.Past.{stage}

-- ---- a line of the heading that is due

-- the lines that no script lacks, in order
abbrev pub required : List LineKind
required = kind.Georep ∷ kind.Region ∷ kind.Members ∷ kind.Shards ∷ []

-- The first of them has its fields in its word's place.
abbrev pub is_begun : LineKind → List ℕ → Bool
is_begun kind.Georep text = bytes_eq (first text) (word kind.Georep) && fits (fields kind.Georep) text
is_begun form text = bytes_eq (first text) (word form)

-- Another line is due.
abbrev pub lacks : ℕ → List ℕ → Bool
lacks stage text = option_map_or (λ due. not (is_begun due text)) (slice_get required stage) false

-- ---- what a line says against the earlier ones

-- Nothing has this number, where so many are numbered from 1.
abbrev pub is_missing : ℕ → ℕ → Bool
is_missing number count = number == 0 || nat_lt count number

-- No more lines may stand where so many do.
abbrev pub is_full : ℕ → ℕ → Bool
is_full most count = nat_le most count

abbrev pub is_no_join : ℕ → ℕ → List Saying → Bool
is_no_join member provider past = nat_le member (founders past) || not (joins member past == 0) || nat_lt (founders past) provider

-- The member departed on an earlier line.
abbrev pub is_gone : ℕ → List Saying → Bool
is_gone member past = not (departs member past == 0)

-- The client left on an earlier line and isn't back.
abbrev pub is_away : ℕ → List Saying → Bool
is_away client past = (presence client (lines_said past)).away

-- the moment of its last line of leaving or coming back
abbrev pub last_moment : ℕ → List Saying → ℕ
last_moment client past = (presence client (lines_said past)).moment

-- how many queries it has open
abbrev pub open_count : ℕ → List Saying → ℕ
open_count client past = length (presence client (lines_said past)).names

-- how many steps on queries there are, with those that lines stand for on which clients come back
abbrev pub asks : List Saying → ℕ
asks past = queries past + returned (lines_said past)

-- what a step may still be
abbrev pub step_tests : List Saying → List Item → List (Bool × Reason)
step_tests past items = (is_gone (home (number 0 items) past) past, Gone) ∷ (is_away (number 0 items) past, Away) ∷ []

-- and one on a query
abbrev pub query_tests : List Saying → Bool → List Item → List (Bool × Reason)
query_tests past is_full items =
    (is_gone (home (number 0 items) past) past, Gone) ∷ (is_away (number 0 items) past, Away) ∷ (is_full, Count) ∷ []

-- what a delivery may still be, to a member, of a client's step
abbrev pub delivery_tests : List Saying → ℕ → ℕ → ℕ → List (Bool × Reason)
delivery_tests past to client seq =
    (is_missing seq (steps client past), Later) ∷ (to == home client past, Itself) ∷ (is_gone to past, Gone) ∷ []

-- what a line with good fields may still be, and the reason against it, in order
abbrev pub tests : List Saying → LineKind → List Item → List (Bool × Reason)
tests past kind.Members items = (nat_lt (number 0 items) (number 1 items), Range) ∷ []
tests past kind.Client items = (not (number 0 items == clients past + 1), Order) ∷ []
tests past kind.Deliver items = delivery_tests past (number 0 items) (number 1 items) (number 2 items)
tests past kind.Hear items =
    (is_missing (number 2 items) (reports (number 1 items) past), Later)
    ∷ (number 0 items == number 1 items, Itself)
    ∷ (is_gone (number 0 items) past, Gone)
    ∷ (is_full most_hears (hears past), Count)
    ∷ []
tests past kind.Join items =
    (is_no_join (number 0 items) (number 1 items) past, Join)
    ∷ (is_gone (number 0 items) past || is_gone (number 1 items) past, Gone)
    ∷ []
tests past kind.Report items = (is_gone (number 0 items) past, Gone) ∷ (is_full most_reports (count_of kind.Report past), Count) ∷ []
tests past kind.Sweep items =
    (is_gone (number 0 items) past, Gone)
    ∷ (is_full most_sweeps (count_of kind.Sweep past) || nat_lt most_hears (hears past + count_of kind.Depart past), Count)
    ∷ []
tests past kind.Depart items = (is_gone (number 0 items) past, Gone) ∷ (not (gifts (number 0 items) past == 0), Provider) ∷ []
tests past kind.Leave items =
    (is_gone (home (number 0 items) past) past, Gone)
    ∷ (is_away (number 0 items) past || nat_lt (number 1 items) (last_moment (number 0 items) past), Away)
    ∷ []
tests past kind.Back items =
    (is_gone (home (number 0 items) past) past, Gone)
    ∷ (not (is_away (number 0 items) past) || nat_lt (number 1 items) (last_moment (number 0 items) past), Away)
    ∷ (nat_lt most_queries (asks past + open_count (number 0 items) past), Count)
    ∷ []
tests past kind.Open items = query_tests past (is_full most_opens (count_of kind.Open past) || is_full most_queries (asks past)) items
tests past kind.Stop items = query_tests past (is_full most_queries (asks past)) items
tests past kind.Close items = query_tests past (is_full most_queries (asks past)) items
tests past kind.Fetch items = query_tests past (is_full most_queries (asks past)) items
tests past kind.Georep items = []
tests past kind.Region items = []
tests past kind.Shards items = []
tests past kind.Inbox items = []
tests past kind.Trouble items = []
tests past kind.Floor items = []
tests past _ items = step_tests past items

-- the reason of the first test that holds
abbrev pub refusal : List (Bool × Reason) → Option Reason
refusal [] = None
refusal (test ∷ tests) = if test.0 then Some test.1 else refusal tests

abbrev pub unless_refused : {A : Type 0} → Option Reason → A → Result A Reason
unless_refused None x = Ok x
unless_refused (Some why) x = Err why

-- ---- a line

-- Deliveries, hearings and departures stand in no run.
abbrev pub is_replayed : LineKind → Bool
is_replayed form = is_kind kind.Deliver form || is_kind kind.Hear form || is_kind kind.Depart form

-- which form a line has, at the least rank that it may have now
abbrev pub form_at : Bool → ℕ → List ℕ → Result LineKind Reason
form_at runs stage text = do
  text ← unless (lacks stage text) (Header (stage + 1)) text
  form ← ok_or (form_of text) Word
  form ← unless (runs && is_replayed form) NotInRun form
  form ← unless (nat_lt (rank form) stage) Order form
  unless (not (fits (fields form) text)) Fields form

-- what a line says that isn't skipped, behind earlier ones
abbrev pub saying_at : Bool → List Saying → List ℕ → Result Saying Reason
saying_at runs past text = do
  form ← form_at runs (stage past) text
  items ← items_at (setting past) (fields form) text
  unless_refused (refusal (tests past form items)) (record { kind = form; items = items })

-- the earlier lines with one more, which may be skipped
abbrev pub past_with : Bool → List Saying → List ℕ → Result (List Saying) Reason
past_with runs past line = do
  line ← text_at line
  if is_skipped (text_said line) then Ok past else (saying_at runs past (text_said line) >>= λ saying. Ok (saying ∷ past))
