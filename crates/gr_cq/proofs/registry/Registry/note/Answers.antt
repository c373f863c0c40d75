use Rattle.std.proofs.Common.{◌∙◌, ap}
use Rattle.gr_cq.specs.Foresight.{changed}
use Rattle.gr_cq.proofs.Telling.{told_noted}
use Rattle.gr_cq.proofs.registry.Registry.note.Goals as goal

pub returns-clause-ok : goal.returns-clause-ok
returns-clause-ok c =
    c.apply.ensures
    ∙ ap (λ entries. record { entries = changed c.in_ok-foreseen.foreseen entries; spare = 0 }) c.foresee_note.ensures.entries
    ∙ ap (λ foreseen. record { entries = changed foreseen c.args.self.now.entries; spare = 0 }) c.in_ok-foreseen.ensures.tells
    ∙ ap (λ entries. record { entries = entries; spare = 0 }) (told_noted c.args.turned.now c.args.self.now.entries)
