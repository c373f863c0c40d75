use Rattle.std.proofs.Common.{◌≡◌, ℕ, ap, ◌∙◌, ◌||◌, List}
use Rattle.gr_vector.specs.Blocks.{Numbers}
use Rattle.gr_vector.specs.Views.{is_held}
use Rattle.gr_vector.proofs.Views.{united_ids}
use Rattle.gr_vector.proofs.vector.Vector.unite.Goals as goal

either : (k v : ℕ) (xs ys ps qs : List Numbers) → xs ≡ ps → ys ≡ qs → (is_held k v xs || is_held k v ys)
    ≡ (is_held k v ps || is_held k v qs)
either k v xs ys ps qs h e = ap (λ zs. is_held k v zs || is_held k v ys) h ∙ ap (λ zs. is_held k v ps || is_held k v zs) e

pub returns-clause-ids : goal.returns-clause-ids
returns-clause-ids c =
    rw (← c.self.view_is, ← c.other.view_is)
    (united_ids c.in_ok-self-inside.field-0.items c.self.inside.members.items c.other.inside.members.items
    (λ k v. c.in_ok-self-inside.ensures.held k v
    ∙ either k v c.deref.result.now c.deref-2.result.now c.self.inside.members.items c.other.inside.members.items c.deref.ensures.value
    c.deref-2.ensures.value))
