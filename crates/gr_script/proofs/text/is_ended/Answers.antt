use Rattle.std.proofs.Common.{sym}
use Rattle.gr_script.proofs.Texts.{ended_by}
use Rattle.gr_script.proofs.text.is_ended.Goals as goal

pub returns-in-Some : goal.returns-in-Some
returns-in-Some c = ended_by c.args.bytes.now c.in-Some.byte.now (sym c.in-Some.ensures.value)
