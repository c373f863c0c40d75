use Rattle.std.proofs.Common.{ℕ, List, suc, ◌==◌, arith}
use Rattle.std.specs.Prelude.{◌||◌}
use Rattle.gr_script.specs.Rules.{Heading}
use Rattle.gr_script.specs.Steps.{is_gone}
use Rattle.gr_world.specs.Courses.{gives_unless, what_from}
use Rattle.gr_world.specs.declared.site.Site.{Site}
use Rattle.gr_world.specs.Events.{Event}
use Rattle.gr_world.specs.Stages.{heading_at}
use Rattle.gr_world.proofs.Rounds.{all_played, each_plays}
use Rattle.gr_world.proofs.world.World.join_at.Goals as goal

-- the gift of one member
abbrev gift : Heading → List ℕ → Site → ℕ → ℕ → List Event → List Event
gift heading gone site provider n =
    gives_unless (is_gone gone n || n == site.member) heading site.member site.shard n (what_from (n == provider))

pub loop-below-preserved : goal.loop-below-preserved
loop-below-preserved c =
    let heading = heading_at c.args.stage in
    each_plays heading (gift heading c.args.gone.now c.args.site c.args.provider) c.loop-below.below c.args.self.now c.loop-below.self _
    c.loop-below.invariant c.in_ok-join_from.ensures

pub returns : goal.returns
returns c =
    let heading = heading_at c.args.stage in
    all_played heading (λ n. gift heading c.args.gone.now c.args.site c.args.provider (suc n)) c.loop-below.below heading.members
    c.args.self.now c.loop-below.self (omega (arith, c.loop-below-test.false, c.loop-below.auto.below-end)) c.loop-below.invariant
