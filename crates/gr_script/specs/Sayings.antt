-- What the lines of a text say, or the first that is refused.
use Rattle.std.specs.Prelude.{◌≡◌, ℕ, ◌+◌, List, [], ◌∷◌, Bool, nat_lt, Result, Ok, Err, ⊤, if◌then◌else◌}
use Rattle.gr_script.specs.declared.ending.ScriptEnd.{ScriptEnd}
use Rattle.gr_script.specs.declared.ending.ScriptEnd.TheVariants as end
use Rattle.gr_script.specs.declared.ending.ScriptFault.{ScriptFault}
use Rattle.gr_script.specs.declared.halt.Halt.{Halt}
use Rattle.gr_script.specs.declared.halt.Halt.TheVariants.{Refused, Memory}
use Rattle.gr_script.specs.declared.reason.Reason.{Reason}
use Rattle.gr_script.specs.declared.reason.Reason.TheVariants.{Header}
use Rattle.gr_script.specs.declared.saying.Saying.{Saying}
use Rattle.gr_script.specs.Cuts.{line_count}
use Rattle.gr_script.specs.Past.{stage}
use Rattle.gr_script.specs.Refusals.{past_with}
use Rattle.gr_script.specs.Texts.{lines_of}
use Rattle.gr_script.specs.Limits.{most_lines}

-- the lines that the heading cannot lack
abbrev pub required_lines : ℕ
required_lines = 4

abbrev pub fault : ℕ → Reason → ScriptFault
fault line reason = record { line = line; reason = reason }

-- The text ends in front of the line of this number.
abbrev pub ended : ℕ → List Saying → Result (List Saying) ScriptFault
ended number past = if nat_lt (stage past) required_lines then Err (fault number (Header (stage past + 1))) else Ok past

-- what is read at a line, and then the rest
abbrev pub go_on : {A B : Type 0} → ℕ → Result A Reason → (A → Result B ScriptFault) → Result B ScriptFault
go_on number (Ok x) rest = rest x
go_on number (Err reason) rest = Err (fault number reason)

-- What the lines say behind earlier ones, the last one first, or the first fault. The first of them has this number.
abbrev pub sayings_from : Bool → ℕ → List Saying → List (List ℕ) → Result (List Saying) ScriptFault
sayings_from runs number past [] = ended number past
sayings_from runs number past (line ∷ lines) =
    go_on number (past_with runs past line) (λ longer. sayings_from runs (number + 1) longer lines)

abbrev pub end_of : {A : Type 0} → Result A ScriptFault → Result A ScriptEnd
end_of (Ok x) = Ok x
end_of (Err fault) = Err (end.Fault fault)

-- What a text says. How many lines it has is looked at before any fault.
abbrev pub sayings_of : Bool → List ℕ → Result (List Saying) ScriptEnd
sayings_of runs text =
    if nat_lt most_lines (line_count text) then Err (end.TooManyLines (line_count text))
    else end_of (sayings_from runs 1 [] (lines_of text))

-- how a halt at a line ends the reading
abbrev pub end_at : ℕ → Halt → ScriptEnd
end_at line (Refused reason) = end.Fault (fault line reason)
end_at line Memory = end.Memory

-- Reading gives no more than this end, unless memory was refused.
abbrev pub Ends : {Y : Type 0} → ScriptEnd → Result Y ScriptEnd → Type 0
Ends end.Memory read = ⊤
Ends (end.Fault fault) read = read ≡ Err (end.Fault fault)
Ends (end.TooManyLines lines) read = read ≡ Err (end.TooManyLines lines)

-- What a function returned, seen by view, is what reading gives, unless memory was refused.
abbrev pub Gives : {X Y : Type 0} → (X → Y) → Result X ScriptEnd → Result Y ScriptEnd → Type 0
Gives view (Ok x) read = read ≡ Ok (view x)
Gives view (Err end) read = Ends end read
