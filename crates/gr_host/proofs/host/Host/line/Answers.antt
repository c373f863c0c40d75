use Rattle.std.proofs.Common.{sym}
use Rattle.gr_session.proofs.Mailing.{carries_trans, pushed_carries}
use Rattle.gr_host.proofs.Hosting.{acted_at, carries_is, goes_on, goes_trans, line_works, sent_at}
use Rattle.gr_host.proofs.host.Host.line.Goals as goal

pub returns-in_err-act-clause-at : goal.returns-in_err-act-clause-at
returns-in_err-act-clause-at g c =
    acted_at c.args.members.now c.args.inboxes.now c.listen.new.self c.act.new.self c.listen.ensures.at c.act.ensures.goes
    c.act.ensures.carries c.act.ensures.mail

pub returns-in_err-act-clause-goes : goal.returns-in_err-act-clause-goes
returns-in_err-act-clause-goes g c =
    goes_trans c.args.self.now c.listen.new.self c.act.new.self c.listen.ensures.goes c.act.ensures.goes

pub returns-clause-at : goal.returns-clause-at
returns-clause-at g c =
    sent_at c.args.members.now c.args.inboxes.now c.act.new.self c.push.new.self
    (acted_at c.args.members.now c.args.inboxes.now c.listen.new.self c.act.new.self c.listen.ensures.at c.act.ensures.goes
    c.act.ensures.carries c.act.ensures.mail)
    (pushed_carries c.act.new.self.courier c.push.new.self c.push.ensures.pushed)

pub returns-clause-goes : goal.returns-clause-goes
returns-clause-goes g c =
    goes_on c.args.self.now c.act.new.self c.push.new.self
    (goes_trans c.args.self.now c.listen.new.self c.act.new.self c.listen.ensures.goes c.act.ensures.goes)

pub returns-clause-carries : goal.returns-clause-carries
returns-clause-carries g c =
    carries_trans c.args.self.now.courier c.act.new.self.courier c.push.new.self
    (carries_trans c.args.self.now.courier c.listen.new.self.courier c.act.new.self.courier
    (carries_is c.args.self.now.courier c.listen.new.self.courier c.listen.ensures.courier) c.act.ensures.carries)
    (pushed_carries c.act.new.self.courier c.push.new.self c.push.ensures.pushed)

pub returns-clause-worked : goal.returns-clause-worked
returns-clause-worked g c = (
  c.in-Some.duty.now,
  sym c.in-Some.ensures,
  line_works c.args.self.now c.listen.new.self c.act.new.self c.push.new.self c.in-Some.duty.now c.listen.ensures.goes c.act.ensures.goes
      c.in_ok-listen.ensures.worked c.in_ok-act.ensures.worked c.push.ensures.pushed,
)
