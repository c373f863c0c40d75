use Rattle.std.proofs.Common.{ℕ, List, suc, ◌==◌, arith}
use Rattle.std.specs.Prelude.{◌||◌}
use Rattle.gr_script.specs.Rules.{Heading}
use Rattle.gr_script.specs.Steps.{is_gone}
use Rattle.gr_world.specs.declared.site.Site.{Site}
use Rattle.gr_world.specs.Courses.{copies, unless}
use Rattle.gr_world.specs.Events.{Event}
use Rattle.gr_world.specs.Stages.{heading_at}
use Rattle.gr_world.proofs.Rounds.{all_played, each_plays}
use Rattle.gr_depart.proofs.copying.copy_all.Goals as goal

abbrev copying : Heading → List ℕ → Site → ℕ → ℕ → List Event → List Event
copying heading gone site of n = unless (n == site.member || is_gone gone n) (copies heading of site.shard site.member n)

pub loop-below-preserved : goal.loop-below-preserved
loop-below-preserved c =
    each_plays (heading_at c.args.stage) (copying (heading_at c.args.stage) c.args.gone.now c.args.site c.args.of) c.loop-below.below c.args.world.now c.loop-below.world _ c.loop-below.invariant
    c.in_ok-copy_if_staying.ensures

pub returns : goal.returns
returns c =
    let heading = heading_at c.args.stage in
    all_played heading (λ n. copying heading c.args.gone.now c.args.site c.args.of (suc n)) c.loop-below.below heading.members c.args.world.now
    c.loop-below.world (omega (arith, c.loop-below-test.false, c.loop-below.auto.below-end)) c.loop-below.invariant
