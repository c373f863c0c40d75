use Rattle.std.proofs.Common.{suc, ◌==◌}
use Rattle.std.specs.Prelude.{◌||◌}
use Rattle.gr_script.specs.Steps.{is_gone}
use Rattle.gr_world.specs.Courses.{for_each, gives_unless, what_from}
use Rattle.gr_world.specs.Stages.{heading_at}
use Rattle.gr_world.specs.Worlds.{Plays}
use Rattle.gr_world.proofs.world.World.join_at.Given as goal

abbrev pub invariant-loop-below : goal.invariant-loop-below
invariant-loop-below l =
    let heading = heading_at l.fn.stage in
    let site = l.fn.site in
    Plays heading
    (for_each l.below (λ n. gives_unless (is_gone l.fn.gone (suc n) || suc n == site.member) heading site.member site.shard (suc n)
    (what_from (suc n == l.fn.provider))))
    l.fn.self l.self
