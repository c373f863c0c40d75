use Rattle.std.proofs.Common.{◌∙◌, ap, sym, ◌==◌, [], ◌∷◌, ◌++◌, if◌then◌else◌}
use Rattle.gr_slots.specs.Removals.{keys_at, is_listed, is_moment}
use Rattle.gr_slots.proofs.Listed.{added}
use Rattle.gr_slots.proofs.removals.note.Goals as goal

pub returns-in_ok-append-clause-listed : goal.returns-in_ok-append-clause-listed
returns-in_ok-append-clause-listed c = λ moment is.
    let was = keys_at c.args.removals.now moment in
    ap (is_listed c.args.key.now) (c.in_ok-append.ensures.ok moment
    ∙ ap (λ key. was ++ (if c.in-Some.at == moment then key ∷ [] else [])) c.in_ok-copy.ensures)
    ∙ added c.args.key.now was (c.in-Some.at == moment) (ap (is_moment moment) (sym c.in-Some.is) ∙ is)
