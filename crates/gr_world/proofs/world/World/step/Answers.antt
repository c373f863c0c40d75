use Rattle.std.proofs.Common.{[], sym, subst}
use Rattle.gr_script.specs.declared.line.Line.TheVariants.{Step}
use Rattle.gr_world.specs.Courses.{after}
use Rattle.gr_world.specs.Stages.{heading_at}
use Rattle.gr_world.specs.Worlds.{Plays}
use Rattle.gr_world.proofs.world.World.step.Goals as goal

pub returns-in_ok-peek-in-Peek : goal.returns-in_ok-peek-in-Peek
returns-in_ok-peek-in-Peek c =
    let heading = heading_at c.args.stage in
    let step = c.args.step in
    subst (λ act. Plays heading (after heading [] (Step step.client step.seq act)) c.args.self.now c.peek.new.self) (sym c.in-Peek.is)
    (c.in_ok-peek-in-Peek.ensures c.args.step.seq)
