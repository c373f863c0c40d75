use Rattle.std.specs.Prelude.{vec_len}
use Rattle.gr_host.specs.Houses.{ArePassesOf}
use Rattle.gr_runner.proofs.Desks.{MetUpto}
use Rattle.gr_runner.proofs.meeting.meet_each.Given as goal

abbrev pub invariant-loop-pass : goal.invariant-loop-pass
invariant-loop-pass l = record {
  desks : ArePassesOf l.fn.members l.desks;
  met : MetUpto l.fn.desks l.fn.visits.items l.desks l.left.items;
}

abbrev pub decreases-loop-pass : goal.decreases-loop-pass
decreases-loop-pass l = vec_len l.left
