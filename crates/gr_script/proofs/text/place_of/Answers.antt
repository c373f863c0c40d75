use Rattle.gr_script.proofs.Texts.{first_place}
use Rattle.gr_script.proofs.text.place_of.Goals as goal

pub returns-clause-place : goal.returns-clause-place
returns-clause-place c = first_place c.args.mark c.args.bytes.now c.memchr.result c.memchr.ensures
