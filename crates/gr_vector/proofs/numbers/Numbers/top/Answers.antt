use Rattle.gr_vector.proofs.Kept.{top_held}
use Rattle.gr_vector.proofs.numbers.Numbers.top.Goals as goal

pub returns-clause-held : goal.returns-clause-held
returns-clause-held c = rw (← c.self.view_is) (top_held c.self.inside.blocks.items c.self.inside.top c.self.inside.all 0 c.self.invariant)
