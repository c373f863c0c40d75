-- A text of which the first lines were taken in: what they say, and what is ahead.
use Rattle.std.specs.Prelude.{◌≡◌, ℕ, ◌+◌, ◌≤◌, ◌<◌, List, [], ◌∷◌, length, take, drop, reverse, Bool, Option, IfSome, IfNone}
use Rattle.std.specs.Prelude.{Result, Ok, Err}
use Rattle.std.specs.List.{cons_option}
use Rattle.gr_script.specs.declared.line.Line.{Line}
use Rattle.gr_script.specs.declared.reason.Reason.{Reason}
use Rattle.gr_script.specs.declared.saying.Saying.{Saying}
use Rattle.gr_script.specs.Refusals.{past_with}
use Rattle.gr_script.specs.Rules.{Heading, IsScript}
use Rattle.gr_script.specs.Said.{heading_said, lines_said, script_of}
use Rattle.gr_script.specs.Sayings.{sayings_from}
use Rattle.gr_script.specs.Texts.{lines_of}
use Rattle.gr_script.specs.Limits.{most_lines}

pub record Taken : Type 0 where
  pub runs : Bool
  pub text : List ℕ
  -- how many lines were taken in
  pub count : ℕ

-- A line that is refused says nothing.
abbrev pub unless_longer : List Saying → Result (List Saying) Reason → List Saying
unless_longer past (Ok longer) = longer
unless_longer past (Err why) = past

-- what the lines say behind earlier ones, the last one first
abbrev pub said_by : Bool → List Saying → List (List ℕ) → List Saying
said_by runs past [] = past
said_by runs past (line ∷ lines) = said_by runs (unless_longer past (past_with runs past line)) lines

abbrev pub said : Taken → List Saying
said t = said_by t.runs [] (take t.count (lines_of t.text))

-- the lines that weren't taken in yet
abbrev pub ahead : Taken → List (List ℕ)
ahead t = drop t.count (lines_of t.text)

-- with one line more
abbrev pub advanced : Taken → Taken
advanced t = record t { count = t.count + 1 }

-- The next line says so much behind the earlier ones, and these bytes follow it.
pub record IsNext (t : Taken) (longer : List Saying) (after : List ℕ) : Type 0 where
  pub line : List ℕ
  pub ahead_is : ahead t ≡ line ∷ lines_of after
  pub reads : past_with t.runs (said t) line ≡ Ok longer

-- No line was refused.
pub record IsTaken (t : Taken) : Type 0 where
  pub few : length (lines_of t.text) ≤ most_lines
  pub within : t.count ≤ length (lines_of t.text)
  pub same : sayings_from t.runs (t.count + 1) (said t) (ahead t) ≡ sayings_from t.runs 1 [] (lines_of t.text)

-- what the lines say of the script: its heading, and its lines, the last one first
abbrev pub heading_taken : Taken → Heading
heading_taken t = heading_said (said t)

abbrev pub lines_taken : Taken → List Line
lines_taken t = lines_said (said t)

-- What follows what was taken in is this line of the script, or nothing where there is none.
pub record IsFed (old new : Taken) (line : Option Line) : Type 0 where
  pub runs : new.runs ≡ old.runs
  pub text : new.text ≡ old.text
  pub lines : lines_taken new ≡ cons_option line (lines_taken old)
  pub fewer : IfSome line (λ _. length (ahead new) < length (ahead old))
  -- The lines so far are a script, whose heading is fixed once there is a line.
  pub ruled : IsScript (heading_taken new) (reverse (lines_taken new))
  pub stays : (one : Line) (lines : List Line) → lines_taken old ≡ one ∷ lines → heading_taken new ≡ heading_taken old
  pub whole : IfNone line (script_of old.runs old.text ≡ Ok (heading_taken new, reverse (lines_taken new)))

-- A line was taken in, which is this step.
pub record IsStep (old new : Taken) (text : List ℕ) (line : Line) : Type 0 where
  pub taken : new ≡ advanced old
  pub reads : past_with old.runs (said old) text ≡ Ok (said new)
  pub lines : lines_taken new ≡ line ∷ lines_taken old
