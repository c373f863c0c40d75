-- The words that the program is given.
use Rattle.std.specs.Prelude.{◌≡◌, ◌≤◌, ℕ, List, [], ◌∷◌, codes, bytes_eq, nat_le, ◌&&◌, if◌then◌else◌}
use Rattle.std.specs.Prelude.{Option, Some, None, Result, Ok, Err, IfErr}
use Rattle.gr_oql.specs.declared.fault.OqlFault.{OqlFault}
use Rattle.gr_oql.specs.declared.fault.OqlFault.TheVariants as fault
use Rattle.gr_oql.specs.Question.{Question}
use Rattle.gr_oql.specs.Questions.{question_of}
use Rattle.gr_script.specs.Numerals.{number_of}
use Rattle.gr_script.specs.Rules.{IsWithin}
use Rattle.gr_top.specs.declared.cause.Cause.{Cause}
use Rattle.gr_top.specs.declared.cause.Cause.TheVariants as cause
use Rattle.gr_top.specs.declared.words.Detail.{Detail}
use Rattle.gr_top.specs.declared.words.Detail.TheVariants.{Plain, Histories, Tables}
use Rattle.gr_top.specs.declared.words.Mode.{Mode}
use Rattle.gr_top.specs.declared.words.Mode.TheVariants.{Check, Replay, At}
use Rattle.gr_ask.specs.declared.wanted.Wanted.TheVariants.{Rows, Events}
use Rattle.gr_top.specs.declared.words.Request.{Request}
use Rattle.gr_top.specs.declared.words.Request.TheVariants.{Alone, Run, Drill}

-- What is asked for, where no word is left. A word too many is told with its place, counted from 0.
abbrev pub alone : {X : Type 0} → ℕ → X → List (List ℕ) → Result X ℕ
alone place asked [] = Ok asked
alone place asked (word ∷ words) = Err place

-- The words behind a mode that prints a report: none, or one flag, for what is told besides.
abbrev pub behind_report : List (List ℕ) → Result Detail ℕ
behind_report [] = Ok Plain
behind_report (word ∷ words) =
    if bytes_eq word (codes "--history") then alone 2 Histories words
    else (if bytes_eq word (codes "--tables") then alone 2 Tables words else Err 1)

-- the number from 1 to the most that a word spells
abbrev pub up_to : ℕ → Option ℕ → Option ℕ
up_to most (Some number) = if nat_le 1 number && nat_le number most then Some number else None
up_to most None = None

abbrev pub number_in : ℕ → List ℕ → Option ℕ
number_in most word = up_to most (number_of word)

-- What was understood of words is what they ask for, or the place of the first that isn't; or memory was refused, which a
-- text of a query alone takes, the third word.
abbrev pub Understands : {X : Type 0} → Result X ℕ → Result X Cause → Type 0
Understands asked (Ok understood) = asked ≡ Ok understood
Understands asked (Err (cause.Usage place)) = asked ≡ Err place
Understands asked (Err cause.Memory) = IfErr asked (λ place. 2 ≤ place)
Understands asked (Err _) = ⊥

-- ---- of a member

-- what the third word asks, where it is a query's text
abbrev pub question_by : Result Question OqlFault → Result Question ℕ
question_by (Ok question) = Ok question
question_by (Err fault) = Err 2

-- what is told where it isn't read as one
abbrev pub unread : OqlFault → Cause
unread fault.Memory = cause.Memory
unread _ = cause.Usage 2

abbrev pub with_question : ℕ → Result Question ℕ → List (List ℕ) → Result Mode ℕ
with_question member (Ok question) words = alone 3 (At member (Rows question)) words
with_question member (Err place) words = Err place

-- The words behind `ask`: the number of a member, and a query's text.
abbrev pub behind_member : Option ℕ → List (List ℕ) → Result Mode ℕ
behind_member None words = Err 1
behind_member (Some member) [] = Err 2
behind_member (Some member) (text ∷ words) = with_question member (question_by (question_of text)) words

abbrev pub behind_ask : List (List ℕ) → Result Mode ℕ
behind_ask [] = Err 1
behind_ask (word ∷ words) = behind_member (number_in 8 word) words

-- The words behind `events`: the number of a member.
abbrev pub asked_events : Option ℕ → List (List ℕ) → Result Mode ℕ
asked_events None words = Err 1
asked_events (Some member) words = alone 2 (At member Events) words

abbrev pub behind_events : List (List ℕ) → Result Mode ℕ
behind_events [] = Err 1
behind_events (word ∷ words) = asked_events (number_in 8 word) words

-- ---- without threads

abbrev pub asked_replay : Result Detail ℕ → Result Mode ℕ
asked_replay (Ok detail) = Ok (Replay detail)
asked_replay (Err place) = Err place

-- the words behind a flag
abbrev pub behind_flag : Detail → List (List ℕ) → Result Mode ℕ
behind_flag detail [] = Err 1
behind_flag detail (word ∷ words) = if bytes_eq word (codes "replay") then alone 2 (Replay detail) words else Err 1

-- The words are `check`, or `replay` with or without one of the flags `--history` and `--tables` before or behind it, or
-- `ask` with a member and a query, or `events` with a member. Else the place is that of the first word with which they
-- cease to begin one of these lists, or their number where they only end too early.
abbrev pub mode_of : List (List ℕ) → Result Mode ℕ
mode_of [] = Err 0
mode_of (word ∷ words) =
    if bytes_eq word (codes "check") then alone 1 Check words
    else (if bytes_eq word (codes "replay") then asked_replay (behind_report words)
    else (if bytes_eq word (codes "ask") then behind_ask words
    else (if bytes_eq word (codes "events") then behind_events words
    else (if bytes_eq word (codes "--history") then behind_flag Histories words
    else (if bytes_eq word (codes "--tables") then behind_flag Tables words
    else Err 0)))))

abbrev pub asked_alone : Result Mode ℕ → Result Request ℕ
asked_alone (Ok mode) = Ok (Alone mode)
asked_alone (Err place) = Err place

-- ---- with threads

-- The words behind `drill`: the number that its script is drawn from, and how many steps that has.
abbrev pub with_steps : ℕ → Option ℕ → List (List ℕ) → Result Request ℕ
with_steps start None words = Err 2
with_steps start (Some steps) words = alone 3 (Drill start steps) words

abbrev pub behind_start : Option ℕ → List (List ℕ) → Result Request ℕ
behind_start None words = Err 1
behind_start (Some start) [] = Err 2
behind_start (Some start) (word ∷ words) = with_steps start (number_in 50000 word) words

abbrev pub behind_drill : List (List ℕ) → Result Request ℕ
behind_drill [] = Err 1
behind_drill (word ∷ words) = behind_start (number_in 2147483646 word) words

abbrev pub asked_run : Result Detail ℕ → Result Request ℕ
asked_run (Ok detail) = Ok (Run detail)
asked_run (Err place) = Err place

-- the words behind a flag
abbrev pub told_behind : Detail → List (List ℕ) → Result Request ℕ
told_behind detail [] = Err 1
told_behind detail (word ∷ words) =
    if bytes_eq word (codes "run") then alone 2 (Run detail) words else asked_alone (behind_flag detail (word ∷ words))

-- The words are those of a mode without threads, or `run` with or without one of the flags before or behind it, or `drill`
-- with two numbers. Else the place is as there.
abbrev pub request_of : List (List ℕ) → Result Request ℕ
request_of [] = Err 0
request_of (word ∷ words) =
    if bytes_eq word (codes "run") then asked_run (behind_report words)
    else (if bytes_eq word (codes "drill") then behind_drill words
    else (if bytes_eq word (codes "--history") then told_behind Histories words
    else (if bytes_eq word (codes "--tables") then told_behind Tables words
    else asked_alone (mode_of (word ∷ words)))))

-- The numbers of a drill are within their limits.
abbrev pub IsFit : Request → Type 0
IsFit (Alone mode) = Unit {0}
IsFit (Run detail) = Unit {0}
IsFit (Drill start steps) = IsWithin 1 2147483646 start × IsWithin 1 50000 steps
