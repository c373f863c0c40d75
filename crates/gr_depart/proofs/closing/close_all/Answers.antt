use Rattle.std.proofs.Common.{ℕ, List, suc, not, arith}
use Rattle.gr_script.specs.Rules.{Heading}
use Rattle.gr_script.specs.Steps.{is_gone}
use Rattle.gr_world.specs.declared.site.Site.{Site}
use Rattle.gr_world.specs.Courses.{closes, unless}
use Rattle.gr_world.specs.Events.{Event}
use Rattle.gr_world.specs.Stages.{heading_at}
use Rattle.gr_world.proofs.Rounds.{all_played, each_plays}
use Rattle.gr_depart.proofs.closing.close_all.Goals as goal

abbrev closing : Heading → List ℕ → Site → ℕ → List Event → List Event
closing heading gone site of = unless (not (is_gone gone of)) (closes heading site.member site.shard of)

pub loop-below-preserved : goal.loop-below-preserved
loop-below-preserved c =
    each_plays (heading_at c.args.stage) (closing (heading_at c.args.stage) c.args.gone.now c.args.site) c.loop-below.below c.args.world.now c.loop-below.world _ c.loop-below.invariant
    c.in_ok-close_if_gone.ensures

pub returns : goal.returns
returns c =
    let heading = heading_at c.args.stage in
    all_played heading (λ n. closing heading c.args.gone.now c.args.site (suc n)) c.loop-below.below heading.members c.args.world.now
    c.loop-below.world (omega (arith, c.loop-below-test.false, c.loop-below.auto.below-end)) c.loop-below.invariant
