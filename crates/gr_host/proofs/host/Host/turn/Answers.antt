use Rattle.gr_host.proofs.Hosting.{carries_pushed}
use Rattle.gr_host.proofs.host.Host.turn.Goals as goal

pub returns-then-sent-clause-carries : goal.returns-then-sent-clause-carries
returns-then-sent-clause-carries g c =
    carries_pushed c.args.self.now.courier c.listen.new.self.courier c.push-sent.new.self c.listen.ensures.courier c.push-sent.ensures.pushed

pub returns-else-sent-clause-carries : goal.returns-else-sent-clause-carries
returns-else-sent-clause-carries g c =
    carries_pushed c.args.self.now.courier c.listen.new.self.courier c.push-sent.new.self c.listen.ensures.courier c.push-sent.ensures.pushed
