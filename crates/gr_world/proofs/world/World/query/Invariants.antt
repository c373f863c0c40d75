use Rattle.gr_world.specs.Stages.{heading_at}
use Rattle.gr_world.specs.Worlds.{AreAsked}
use Rattle.gr_world.proofs.world.World.query.Given as goal

abbrev pub invariant-loop-shard : goal.invariant-loop-shard
invariant-loop-shard l =
    AreAsked (heading_at l.fn.stage) l.fn.step.client l.fn.step.seq l.fn.ask l.shard l.replies l.fn.self l.self
