use Rattle.std.proofs.Common.{◌∙◌, ap}
use Rattle.gr_vector.specs.Blocks.{is_noted, ends_upto}
use Rattle.gr_vector.proofs.Kept.{top_held, ends_is}
use Rattle.gr_vector.proofs.numbers.Numbers.exceptions.Goals as goal

pub returns-clause-exceptions : goal.returns-clause-exceptions
returns-clause-exceptions c = rw (← c.self.view_is)
    (c.gaps_upto.ensures ∙ ap (λ xs. ends_upto c.self.inside.top (λ v. is_noted v xs)) c.deref.ensures.value
    ∙ ends_is c.self.inside.blocks.items c.self.inside.top c.self.inside.all 0 c.self.invariant)

pub returns-clause-held : goal.returns-clause-held
returns-clause-held c = rw (← c.self.view_is) (top_held c.self.inside.blocks.items c.self.inside.top c.self.inside.all 0 c.self.invariant)
