use Rattle.std.proofs.Common.{sym, subst, ◌∙◌, ap}
use Rattle.std.proofs.lemmas.Result.{IfOk-weaker}
use Rattle.std.specs.List.Sorted.{IsStrictlySortedBy}
use Rattle.std.specs.Ordering.{nat_cmp}
use Rattle.gr_route.specs.Routes.{reached}
use Rattle.gr_route.proofs.Numbering.{reached_sorted}
use Rattle.gr_route.proofs.router.Router.reach.Goals as goal

pub returns-clause-in_order : goal.returns-clause-in_order
returns-clause-in_order c =
    IfOk-weaker c.reached.result _ _
    (λ ids is. subst (IsStrictlySortedBy nat_cmp) (sym (is ∙ ap (reached c.args.turned.now) c.deref.ensures.value))
    (reached_sorted c.args.turned.now 0 c.self.inside.next c.self.inside.enrolled.items c.self.invariant))
    c.reached.ensures
