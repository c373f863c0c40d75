use Rattle.gr_host.proofs.Marking.{ends_taken}
use Rattle.gr_host.proofs.mail.take.Goals as goal

pub returns-clause-ends : goal.returns-clause-ends
returns-clause-ends g c =
    ends_taken c.args.pass.now c.take.new.pass c.in_ok-mail.mail c.sender.result c.args.ends.now c.mark.new.ends c.sender.ensures
    c.in_ok-mail.ensures.taken
    c.requires.ends c.mark.ensures
