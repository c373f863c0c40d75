use Rattle.gr_vector.proofs.Kept.{covers_is}
use Rattle.gr_vector.proofs.numbers.Numbers.covers.Goals as goal

pub returns : goal.returns
returns c = rw (← c.self.view_is) (covers_is c.args.upto c.self.inside.blocks.items c.self.inside.top c.self.inside.all _ c.self.invariant)
