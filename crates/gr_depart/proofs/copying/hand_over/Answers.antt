use Rattle.std.proofs.Common.{ℕ, List, suc, arith}
use Rattle.gr_script.specs.Rules.{Heading}
use Rattle.gr_script.specs.Steps.{is_gone}
use Rattle.gr_world.specs.Courses.{copies_all, unless}
use Rattle.gr_world.specs.Events.{Event}
use Rattle.gr_world.specs.Stages.{heading_at}
use Rattle.gr_world.proofs.Rounds.{all_played, each_plays}
use Rattle.gr_depart.proofs.copying.hand_over.Goals as goal

abbrev taking : Heading → List ℕ → ℕ → ℕ → ℕ → List Event → List Event
taking heading gone shard of n = unless (is_gone gone n) (copies_all heading gone of shard n)

pub loop-below-preserved : goal.loop-below-preserved
loop-below-preserved c =
    each_plays (heading_at c.args.stage) (taking (heading_at c.args.stage) c.args.gone.now c.args.shard c.args.of) c.loop-below.below c.args.world.now c.loop-below.world _ c.loop-below.invariant
    c.in_ok-take_if_staying.ensures

pub returns : goal.returns
returns c =
    let heading = heading_at c.args.stage in
    all_played heading (λ n. taking heading c.args.gone.now c.args.shard c.args.of (suc n)) c.loop-below.below heading.members c.args.world.now
    c.loop-below.world (omega (arith, c.loop-below-test.false, c.loop-below.auto.below-end)) c.loop-below.invariant
