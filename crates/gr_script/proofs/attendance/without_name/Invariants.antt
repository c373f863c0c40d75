use Rattle.std.proofs.Common.{◌≡◌, take}
use Rattle.gr_script.specs.Absence.{without_name}
use Rattle.gr_script.proofs.attendance.without_name.Given as goal

abbrev pub invariant-loop-other : goal.invariant-loop-other
invariant-loop-other l = l.left ≡ without_name l.name (take l.other-index l.names)
