use Rattle.std.proofs.Common.{◌∙◌, sym}
use Rattle.gr_value.proofs.PlainBytes.{front_taken}
use Rattle.gr_value.proofs.plain.Cursor.take.Goals as goal

pub returns-in-Some : goal.returns-in-Some
returns-in-Some c = sym c.self.view_is ∙ front_taken _ _ _ c.in-Some.ensures.cases.0 c.in-Some.ensures.cases.1
