-- What is kept of the earlier lines of a script, so that none of them is looked at again.
use Rattle.std.specs.Prelude.{◌≡◌, ℕ, ◌≤◌, List, length}
use Rattle.gr_script.specs.declared.attendance.Presence.{Presence}
use Rattle.gr_script.specs.declared.forms.LineKind.TheVariants as kind
use Rattle.gr_script.specs.declared.items.Setting.{Setting}
use Rattle.gr_script.specs.declared.past.Counted.{Counted}
use Rattle.gr_script.specs.declared.past.Sizes.{Sizes}
use Rattle.gr_script.specs.declared.saying.Saying.{Saying}
use Rattle.gr_script.specs.declared.tally.Tallies.{Tallies}
use Rattle.gr_script.specs.Absence.{IsAttendance, returned}
use Rattle.gr_script.specs.LinesSaid.{lines_said}
use Rattle.gr_script.specs.Limits.{most_lines}
use Rattle.gr_script.specs.Past.{setting, founders, sizes, homes, stage, count_of, queries, hears}
use Rattle.gr_script.specs.Tallies.{AreTallied}

-- how many lines of some kinds there are
abbrev pub counted : List Saying → Counted
counted past = record {
  reports = count_of kind.Report past;
  hears = hears past;
  sweeps = count_of kind.Sweep past;
  opens = count_of kind.Open past;
  queries = queries past;
  departs = count_of kind.Depart past;
}

-- What is kept is what the earlier lines say.
pub record IsIndex (stage_now : ℕ) (held : Setting) (founders_now : ℕ) (sizes_now : Sizes) (homes_now : List ℕ)
    (tallies : Tallies) (lines : Counted) (attendance : List Presence) (returned_now : ℕ) (past : List Saying) : Type 0 where
  pub staged : stage_now ≡ stage past
  pub set : held ≡ setting past
  pub founded : founders_now ≡ founders past
  pub sized : sizes_now ≡ sizes past
  pub homed : homes_now ≡ homes past
  pub tallied : AreTallied tallies past
  pub counts : lines ≡ counted past
  pub attended : IsAttendance attendance (lines_said past)
  pub came_back : returned_now ≡ returned (lines_said past)
  pub few : length past ≤ most_lines
