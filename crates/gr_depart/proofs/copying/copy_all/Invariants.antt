use Rattle.std.proofs.Common.{suc, ◌==◌}
use Rattle.std.specs.Prelude.{◌||◌}
use Rattle.gr_script.specs.Steps.{is_gone}
use Rattle.gr_world.specs.Courses.{copies, for_each, unless}
use Rattle.gr_world.specs.Stages.{heading_at}
use Rattle.gr_world.specs.Worlds.{Plays}
use Rattle.gr_depart.proofs.copying.copy_all.Given as goal

abbrev pub invariant-loop-below : goal.invariant-loop-below
invariant-loop-below l =
    let heading = heading_at l.fn.stage in
    let site = l.fn.site in
    Plays heading
    (for_each l.below (λ n. unless (suc n == site.member || is_gone l.fn.gone (suc n))
    (copies heading l.fn.of site.shard site.member (suc n))))
    l.fn.world l.world
