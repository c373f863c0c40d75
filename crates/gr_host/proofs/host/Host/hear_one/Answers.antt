use Rattle.gr_host.proofs.Hosting.{as_many, heard_at, works_mail, works_quiet}
use Rattle.gr_host.proofs.host.Host.hear_one.Goals as goal

pub returns-in_default-clause-worked : goal.returns-in_default-clause-worked
returns-in_default-clause-worked g c = works_quiet c.args.self.now c.take.new.pass c.take.new.ends c.in_default.ensures.none.0

pub returns-in_err-follow-clause-at : goal.returns-in_err-follow-clause-at
returns-in_err-follow-clause-at g c =
    heard_at c.args.members.now c.args.inboxes.now c.args.self.now c.follow.new.pass c.take.new.pass c.take.new.ends c.in-Some.mail
    c.requires.at c.follow.ensures.stays c.in-Some.ensures.some c.in-Some.ensures.ends

pub returns-clause-at : goal.returns-clause-at
returns-clause-at g c =
    heard_at c.args.members.now c.args.inboxes.now c.args.self.now c.follow.new.pass c.take.new.pass c.take.new.ends c.in-Some.mail
    c.requires.at c.follow.ensures.stays c.in-Some.ensures.some c.in-Some.ensures.ends

pub returns-clause-worked : goal.returns-clause-worked
returns-clause-worked g c =
    works_mail c.args.self.now c.follow.new.pass c.take.new.pass c.take.new.ends c.in-Some.mail
    (as_many c.args.members.now c.args.inboxes.now c.args.self.now c.requires.at) c.in_ok-follow.ensures.done c.in-Some.ensures.some
