use Rattle.std.proofs.Common.{suc}
use Rattle.gr_script.specs.Steps.{is_gone}
use Rattle.gr_world.specs.Courses.{copies_all, for_each, unless}
use Rattle.gr_world.specs.Stages.{heading_at}
use Rattle.gr_world.specs.Worlds.{Plays}
use Rattle.gr_depart.proofs.copying.hand_over.Given as goal

abbrev pub invariant-loop-below : goal.invariant-loop-below
invariant-loop-below l =
    let heading = heading_at l.fn.stage in
    Plays heading
    (for_each l.below (λ n. unless (is_gone l.fn.gone (suc n)) (copies_all heading l.fn.gone l.fn.of l.fn.shard (suc n))))
    l.fn.world l.world
