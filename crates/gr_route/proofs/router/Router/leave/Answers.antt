use Rattle.std.proofs.Common.{rules, ap, sym, subst, ◌==◌, not}
use Rattle.std.proofs.lemmas.Fn.{filter_same}
use Rattle.gr_route.specs.Routes.{Ascend}
use Rattle.gr_route.proofs.Numbering.{ascend_filter}
use Rattle.gr_route.proofs.router.Router.leave.Goals as goal

pub invariant_of-self : goal.invariant_of-self
invariant_of-self c =
    subst (Ascend 0 c.self.inside.next) (sym (filter_same _ _ _ (λ x b f' k. search rules) _ _ c.retain.ensures.filtered))
    (ascend_filter (λ one. not (one.number == c.args.id)) 0 c.self.inside.next c.self.inside.enrolled.items c.self.invariant)

pub returns : goal.returns
returns c =
    rw (← c.self.view_is)
    (ap (λ all. record { next = c.self.inside.next; enrolled = all })
    (filter_same _ _ _ (λ x b f' k. search rules) _ _ c.retain.ensures.filtered))
