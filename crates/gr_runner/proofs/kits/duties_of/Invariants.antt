use Rattle.std.proofs.Common.{◌≡◌, map, take}
use Rattle.std.specs.List.{filter_map}
use Rattle.gr_run_law.specs.Duties.{duty_of}
use Rattle.gr_host.specs.Works.{duty_is}
use Rattle.gr_runner.proofs.kits.duties_of.Given as goal

abbrev pub invariant-loop-line : goal.invariant-loop-line
invariant-loop-line l = map duty_is l.duties ≡ filter_map (duty_of l.member) (take l.line-index l.line-items)
