use Rattle.std.proofs.Common.{◌≡◌}
use Rattle.gr_post.specs.declared.stage.Stage.TheVariants.{Open}
use Rattle.gr_post.specs.Couriers.{passes_of}
use Rattle.gr_thread_tests.proofs.post.delivered.Given as goal

abbrev pub invariant-loop-at : goal.invariant-loop-at
invariant-loop-at g l =
    (l.courier.stage ≡ Open) × (passes_of l.courier ≡ passes_of l.initial.courier)
