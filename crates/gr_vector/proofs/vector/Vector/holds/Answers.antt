use Rattle.std.proofs.Common.{◌-◌, sym, ap, ◌∙◌}
use Rattle.gr_vector.specs.Blocks.{holds}
use Rattle.gr_vector.proofs.Tops.{at, has_member}
use Rattle.gr_vector.proofs.vector.Vector.holds.Goals as goal

pub returns : goal.returns
returns c =
    let is = c.numbers_of.ensures ∙ ap (at (c.args.member - 1)) c.deref.ensures.value in
    rw (← c.self.view_is) (c.holds.ensures ∙ ap (λ m. holds c.args.rv m) is
    ∙ sym (has_member c.args.member c.args.rv c.self.inside.members.items c.requires.a_member))
