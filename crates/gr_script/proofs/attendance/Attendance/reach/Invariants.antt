use Rattle.std.proofs.Common.{◌+◌, ◌-◌, length}
use Rattle.gr_script.specs.Absence.{AreSame}
use Rattle.gr_script.proofs.attendance.Attendance.reach.Given as goal

abbrev pub invariant-loop-alloc : goal.invariant-loop-alloc
invariant-loop-alloc l = AreSame l.initial.self-inside.kept.items l.self-inside.kept.items

abbrev pub decreases-loop-alloc : goal.decreases-loop-alloc
decreases-loop-alloc l = l.client + 1 - length l.self-inside.kept.items
