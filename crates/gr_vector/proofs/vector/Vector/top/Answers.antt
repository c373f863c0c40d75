use Rattle.std.proofs.Common.{◌≡◌, ◌-◌, sym, ap, subst, ◌∙◌, true, ◌≤◌}
use Rattle.gr_vector.specs.Blocks.{holds}
use Rattle.gr_vector.proofs.Tops.{at, top_ids}
use Rattle.gr_vector.proofs.vector.Vector.top.Goals as goal

pub returns-clause-top : goal.returns-clause-top
returns-clause-top c =
    let is = c.numbers_of.ensures ∙ ap (at (c.args.member - 1)) c.deref.ensures.value in
    let t : c.top.result ≡ (at (c.args.member - 1) c.self.inside.members.items).top =
    c.top.ensures.top ∙ ap (λ m. m.top) is in
    rw (← c.self.view_is) (t ∙ sym (top_ids c.args.member c.self.inside.members.items c.requires.a_member
    (λ k. subst (λ m. holds m.top m ≡ true) is
    (subst (λ n. holds n c.numbers_of.result.now ≡ true) c.top.ensures.top (c.top.ensures.held (subst (λ n. 1 ≤ n) (sym t) k))))))
