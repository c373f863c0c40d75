use Rattle.std.proofs.Common.{◌-◌, ◌≡◌, sym, ap, subst, ◌∙◌, true, ◌≤◌}
use Rattle.gr_vector.specs.Blocks.{holds, ends_upto}
use Rattle.gr_vector.proofs.Tops.{at, top_ids, exceptions_ids}
use Rattle.gr_vector.proofs.vector.Vector.exceptions.Goals as goal

pub returns : goal.returns
returns c =
    let is = c.numbers_of.ensures ∙ ap (at (c.args.member - 1)) c.deref.ensures.value in
    let t = top_ids c.args.member c.self.inside.members.items c.requires.a_member
    (subst (λ m. 1 ≤ m.top → holds m.top m ≡ true) is c.exceptions.ensures.held) in
    rw (← c.self.view_is) (c.exceptions.ensures.exceptions ∙ ap (λ m. ends_upto m.top (λ v. holds v m)) is
    ∙ sym (exceptions_ids c.args.member c.self.inside.members.items c.requires.a_member t))
