use Rattle.gr_session.proofs.Mailing.{delivered_all}
use Rattle.gr_session.proofs.session.Session.finish.Goals as goal

pub returns-clause-sent : goal.returns-clause-sent
returns-clause-sent g c =
    delivered_all c.args.self.courier c.last.new.self c.flush-2.new.self c.passes.result c.in-Ok.ensures.ended c.in-Ok.ensures.passes
    c.flush-2.ensures.pushed c.flush-2.ensures.all c.passes.ensures.passes c.passes.ensures.plan
