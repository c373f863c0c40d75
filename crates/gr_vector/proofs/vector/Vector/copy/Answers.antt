use Rattle.std.proofs.Common.{ap, ◌∙◌}
use Rattle.gr_vector.specs.Views.{is_held}
use Rattle.gr_vector.proofs.Views.{same_ids}
use Rattle.gr_vector.proofs.vector.Vector.copy.Goals as goal

pub returns : goal.returns
returns c = rw (← c.self.view_is) (ap (λ ids. record { ids = ids; spare = 0 })
    (same_ids c.in_ok-copy_each.field-0.items c.self.inside.members.items
    (λ k v. c.in_ok-copy_each.ensures.held k v ∙ ap (λ xs. is_held k v xs) c.deref.ensures.value)))
