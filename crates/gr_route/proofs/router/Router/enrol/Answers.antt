use Rattle.std.proofs.Common.{refl, sym, subst, ◌+◌}
use Rattle.gr_route.specs.Routes.{Ascend}
use Rattle.gr_route.proofs.Numbering.{ascend_push}
use Rattle.gr_route.proofs.router.Router.enrol.Goals as goal

pub invariant_of-self-2 : goal.invariant_of-self-2
invariant_of-self-2 c =
    subst (Ascend 0 (c.self.inside.next + 1)) (sym c.in_ok-push.ensures.items)
    (ascend_push 0 c.self.inside.next c.self.inside.enrolled.items _ refl c.self.invariant)
