use Rattle.gr_runner.proofs.Told.{all_told_more}
use Rattle.gr_runner.proofs.receipts.meet_mail.Goals as goal

pub loop-own-preserved : goal.loop-own-preserved
loop-own-preserved c =
    all_told_more c.args.inboxes.now c.args.takes.now c.loop-own.takes c.meet_sender.new.takes c.args.sends.items c.loop-own.left.items
    c.pop.new.self.items c.in-Some.own c.requires.takes c.requires.sends c.loop-own.invariant c.in-Some.ensures.items
    c.meet_sender.ensures.tables c.meet_sender.ensures.taken c.meet_sender.ensures.all
