use Rattle.std.proofs.Common.{◌≡◌, ◌++◌, drop, cond}
use Rattle.gr_history.specs.Regions.{with_key}
use Rattle.gr_script.proofs.attendance.with_name.Given as goal

abbrev pub invariant-loop-other : goal.invariant-loop-other
invariant-loop-other l =
    l.all ++ cond l.stands (drop l.other-index l.names) (with_key l.name (drop l.other-index l.names)) ≡ with_key l.name l.names
