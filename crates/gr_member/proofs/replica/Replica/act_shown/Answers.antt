use Rattle.std.proofs.Common.{ℕ, ◌+◌, length, ap, sym, ◌∙◌}
use Rattle.gr_peek.specs.Views.{Publishing}
use Rattle.gr_member.specs.Replicas.{Replicated}
use Rattle.gr_member.proofs.Publishing.{next_place}
use Rattle.gr_member.proofs.replica.Replica.act_shown.Goals as goal

pub show-requires-clause-ready : goal.show-requires-clause-ready
show-requires-clause-ready g c =
    next_place _ c.self.inside.shard.value.deeds (c.len-at.result + 1)
    (ap (λ (p : Publishing). p.publications) c.deref_mut-2.ensures.value ∙ c.self.invariant)
    (ap (λ (n : ℕ). n + 1) (c.len-at.ensures.is ∙ ap (λ (r : Replicated). length r.deeds) (sym c.self.view_is)))
