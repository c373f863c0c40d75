use Rattle.std.proofs.Common.{◌≡◌}
use Rattle.gr_post.specs.declared.stage.Stage.TheVariants.{Open}
use Rattle.gr_post.specs.Couriers.{passes_of}
use Rattle.parts_by_hand.proofs.mails.carry.Given as goal

abbrev pub invariant-loop-posting : goal.invariant-loop-posting
invariant-loop-posting g l =
    (l.courier.stage ≡ Open) × (passes_of l.courier ≡ passes_of l.initial.courier)
