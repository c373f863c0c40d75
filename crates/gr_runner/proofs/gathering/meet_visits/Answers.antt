use Rattle.std.proofs.Common.{◌≡◌, ◌∙◌, [], ap, sym, arith, length}
use Rattle.gr_runner.proofs.Gathered.{visits_each, visits_some}
use Rattle.gr_runner.proofs.gathering.meet_visits.Goals as goal

pub returns-else-is_empty-clause-met : goal.returns-else-is_empty-clause-met
returns-else-is_empty-clause-met c =
    let ok = c.args.visits.ok in
    let some : c.args.visits.items ≡ [] → ⊥ = λ e. (let none = ap length e in grind (arith)) in
    let are = visits_some c.args.members.now c.args.visits.items c.requires.visits some in
    visits_each c.args.desks.now c.args.visits.items c.meet_each.new.desks (are.many ∙ sym c.requires.desks.many) some c.meet_each.ensures.met
