use Rattle.gr_world.specs.Stages.{heading_at}
use Rattle.gr_depart.proofs.Amid.{IsAmid}
use Rattle.gr_depart.proofs.departing.Departing.play_all.Given as goal

abbrev pub invariant-loop-line : goal.invariant-loop-line
invariant-loop-line l = IsAmid (heading_at l.stage) l.line-iterator.rest.items l.fn.lines l.fn.self l.self
