use Rattle.gr_oql.proofs.Names.{behind_named}
use Rattle.gr_oql.proofs.cursor.TokenCursor.advance.Goals as goal

pub invariant_of-self : goal.invariant_of-self
invariant_of-self c = behind_named c.self.inside.left.now c.self.invariant
