use Rattle.std.proofs.Common.{◌≤◌}
use Rattle.std.specs.Prelude.{vec_capacity}
use Rattle.gr_script.specs.Scripts.{heading_of}
use Rattle.gr_runner.specs.Makings.{AreMade, AreAllShown, shows}
use Rattle.gr_runner.proofs.making.make.Given as goal

abbrev pub invariant-loop-k : goal.invariant-loop-k
invariant-loop-k g l = record {
  held : l.script.members ≤ vec_capacity l.members;
  room : l.script.members ≤ vec_capacity l.passes;
  made : AreMade (heading_of l.script) l.k l.members.items l.passes.items;
  shown : AreAllShown (heading_of l.script) (shows l.script.lines) l.k l.passes.items;
}
