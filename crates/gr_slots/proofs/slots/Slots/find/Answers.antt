use Rattle.std.proofs.Common.{◌∙◌, ap}
use Rattle.gr_slots.specs.Slots.{HeldSlots, slot_at}
use Rattle.gr_slots.proofs.slots.Slots.find.Goals as goal

pub returns : goal.returns
returns c = c.find_either.ensures ∙ ap (λ (held : HeldSlots). slot_at c.args.key.now held.entries) c.self.view_is
