use Rattle.std.proofs.Common.{◌∙◌, ap}
use Rattle.gr_cq.specs.Foresight.{changed}
use Rattle.gr_cq.proofs.Telling.{told_noted}
use Rattle.gr_cq.proofs.registry.Registry.foresee.Goals as goal

pub returns-in_ok-foresee_note-in-Note-clause-leaves : goal.returns-in_ok-foresee_note-in-Note-clause-leaves
returns-in_ok-foresee_note-in-Note-clause-leaves c =
    rw c.in-Note.is
    (ap (λ foreseen. changed foreseen c.args.self.now.entries) c.in_ok-foresee_note-in-Note.ensures.tells
    ∙ told_noted c.in-Note.turned.now c.args.self.now.entries)
