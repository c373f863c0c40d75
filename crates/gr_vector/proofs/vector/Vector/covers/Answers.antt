use Rattle.std.proofs.Common.{◌-◌, sym, ap, ◌∙◌}
use Rattle.gr_vector.specs.Blocks.{holds_upto}
use Rattle.gr_vector.proofs.Tops.{at, covers_ids}
use Rattle.gr_vector.proofs.vector.Vector.covers.Goals as goal

pub returns : goal.returns
returns c =
    let is = c.numbers_of.ensures ∙ ap (at (c.args.member - 1)) c.deref.ensures.value in
    rw (← c.self.view_is) (c.covers.ensures ∙ ap (λ m. holds_upto c.args.upto m) is
    ∙ sym (covers_ids c.args.member c.args.upto c.self.inside.members.items c.requires.a_member))
