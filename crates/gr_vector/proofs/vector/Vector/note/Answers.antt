use Rattle.std.proofs.Common.{◌≡◌, ℕ, ◌-◌, sym, ap, subst, ◌∙◌, arith, set, ◌&&◌, not, ◌||◌, ◌==◌}
use Rattle.std.proofs.lemmas.Result.{err_from_is_err_and}
use Rattle.gr_vector.specs.Blocks.{holds}
use Rattle.gr_vector.specs.Views.{is_held}
use Rattle.gr_vector.proofs.Tops.{member_is, has_member}
use Rattle.gr_vector.proofs.Views.{same_ids, noted_ids}
use Rattle.gr_vector.proofs.Members.{noted_at, same_at}
use Rattle.gr_vector.proofs.vector.Vector.note.Goals as goal

pub returns-clause-fresh : goal.returns-clause-fresh
returns-clause-fresh c =
    let is = member_is c.from.result c.args.member c.index_mut-numbers.result.now c.self.inside.members.items c.from.ensures
    c.index_mut-numbers.ensures.value
    c.requires.a_member c.requires.of_eight c.self.invariant.eight in
    rw (← c.self.view_is) (c.in_ok-fresh.ensures.fresh ∙ ap (λ m. not (holds c.args.rv m)) is
    ∙ ap not (sym (has_member c.args.member c.args.rv c.self.inside.members.items c.requires.a_member)))

pub returns-clause-ids : goal.returns-clause-ids
returns-clause-ids c =
    rw (← c.self.view_is)
    (noted_ids c.args.member c.args.rv _ c.self.inside.members.items c.requires.a_member
    (subst (λ n. (k v : ℕ) → is_held k v (set c.self.inside.members.items (c.from.result - 1) c.note.new.self)
    ≡ ((k == (n - 1) && v == c.args.rv) || is_held k v c.self.inside.members.items)) c.from.ensures
    (noted_at (c.from.result - 1) c.args.rv c.self.inside.members.items c.note.new.self c.index_mut-numbers.result.now
    (omega (arith, c.from.ensures, c.self.invariant.eight)) c.index_mut-numbers.ensures.value c.in_ok-fresh.ensures.ok)))

pub returns-in_err-fresh-clause-err : goal.returns-in_err-fresh-clause-err
returns-in_err-fresh-clause-err c =
    let p = err_from_is_err_and c.from_residual.result c.from_residual.ensures.1 in
    rw p.1 (ap (λ ids. record { ids = ids; spare = c.self.inside.spare })
    (same_ids (set c.self.inside.members.items (c.from.result - 1) c.note.new.self) c.self.inside.members.items
    (same_at (c.from.result - 1) c.self.inside.members.items c.note.new.self c.index_mut-numbers.result.now
    (omega (arith, c.from.ensures, c.self.invariant.eight)) c.index_mut-numbers.ensures.value c.in_err-fresh.ensures.err))
    ∙ c.self.view_is)
