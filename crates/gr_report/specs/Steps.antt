-- How many steps of each kind a script has.
use Rattle.std.specs.Prelude.{ℕ, List, ◌++◌, Bool, true, false, Option, Some, None, codes, decimal, count_by}
use Rattle.gr_history.specs.declared.ask.Ask.{Ask}
use Rattle.gr_history.specs.declared.ask.Ask.TheVariants as ask
use Rattle.gr_script.specs.declared.line.Act.TheVariants as act
use Rattle.gr_script.specs.declared.line.Line.{Line}
use Rattle.gr_script.specs.declared.line.Line.TheVariants as line
use Rattle.gr_report.specs.declared.steps.StepCounts.{StepCounts}
use Rattle.gr_report.specs.Regions.{counted}

-- what a line asks for, where it is a step that calls
abbrev pub called : Line → Option Ask
called (line.Step client seq (act.Call ask)) = Some ask
called _ = None

abbrev pub is_get : Option Ask → Bool
is_get (Some (ask.Get key)) = true
is_get _ = false

abbrev pub is_put : Option Ask → Bool
is_put (Some (ask.Put key value)) = true
is_put _ = false

abbrev pub is_put_if_absent : Option Ask → Bool
is_put_if_absent (Some (ask.PutIfAbsent key value)) = true
is_put_if_absent _ = false

abbrev pub is_replace : Option Ask → Bool
is_replace (Some (ask.Replace key value)) = true
is_replace _ = false

abbrev pub is_destroy : Option Ask → Bool
is_destroy (Some (ask.Destroy key)) = true
is_destroy _ = false

abbrev pub step_counts : List Line → StepCounts
step_counts lines = record {
  gets = count_by (λ line. is_get (called line)) lines;
  puts = count_by (λ line. is_put (called line)) lines;
  puts_if_absent = count_by (λ line. is_put_if_absent (called line)) lines;
  replaces = count_by (λ line. is_replace (called line)) lines;
  destroys = count_by (λ line. is_destroy (called line)) lines;
}

-- the word of a kind, and how many there are
unfoldable pub count_text : List ℕ → ℕ → List ℕ
count_text word count = codes " " ++ word ++ codes " " ++ decimal count

unfoldable pub steps_line : StepCounts → List ℕ
steps_line counts =
    counted (codes "steps get ") counts.gets ++ count_text (codes "put") counts.puts
    ++ count_text (codes "putIfAbsent") counts.puts_if_absent ++ count_text (codes "replace") counts.replaces
    ++ count_text (codes "destroy") counts.destroys ++ codes "\n"
