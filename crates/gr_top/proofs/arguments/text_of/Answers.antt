use Rattle.std.proofs.Common.{refl}
use Rattle.gr_top.proofs.arguments.text_of.Goals as goal

pub returns-in-Ok : goal.returns-in-Ok
returns-in-Ok c = record { text = λ _. c.in-Ok.ensures.cases.0; other = λ other. absurd (other c.in-Ok.ensures.cases.1) }

pub returns-in-Err : goal.returns-in-Err
returns-in-Err c = record { text = λ text. absurd (c.in-Err.ensures.cases.0 text); other = λ _. refl }
