use Rattle.std.proofs.Common.{◌≡◌, ◌∙◌, ap, sym, subst, is_some, true}
use Rattle.gr_cq.specs.Entries.{Queries, find}
use Rattle.gr_cq.specs.Foresight.{IsMadeFor}
use Rattle.gr_cq.specs.View.{entries_of}
use Rattle.gr_cq.proofs.Finding.{some_kept}
use Rattle.gr_cq.proofs.registry.Registry.foresee_take.Goals as goal

pub returns-clause-made : goal.returns-clause-made
returns-clause-made c =
    let is_there : is_some (find c.args.client c.args.name.now c.ready.new.self.entries) ≡ true =
    ap (λ entries. is_some (find c.args.client c.args.name.now entries))
    (c.ready.ensures.entries ∙ ap (λ (q : Queries). q.entries) (sym c.self.view_is) ∙ ap entries_of (sym c.deref.ensures.value))
    ∙ sym c.is_open.ensures ∙ cc in
    subst (IsMadeFor c.ready.new.self) (sym (c.in_ok-ready.ensures.same ∙ c.in_ok-foreseen.ensures))
    (record { made = some_kept (find c.args.client c.args.name.now c.ready.new.self.entries) is_there; room = c.in_ok-ready.ensures.room.0; within = tt })
