use Rattle.std.proofs.Common.{sym}
use Rattle.std.proofs.lemmas.Bool.{eqb-false}
use Rattle.gr_script.proofs.Texts.{lines_cut, lines_alone}
use Rattle.gr_script.proofs.text.next_line.Goals as goal

pub returns-in-Some-clause-lines : goal.returns-in-Some-clause-lines
returns-in-Some-clause-lines c = lines_cut c.args.bytes.now (c.in-Some.line.now, c.in-Some.rest.now) (sym c.in-Some.ensures.parts)

pub returns-in-None-clause-lines : goal.returns-in-None-clause-lines
returns-in-None-clause-lines c = lines_alone c.args.bytes.now (eqb-false _ _ (sym c.if-is_empty.ensures)) (sym c.in-None.ensures.parts)
