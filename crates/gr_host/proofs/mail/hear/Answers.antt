use Rattle.std.proofs.Common.{◌<◌, arith}
use Rattle.gr_host.proofs.Steps.{follows_report}
use Rattle.gr_host.proofs.mail.hear.Goals as goal

pub returns-clause-done : goal.returns-clause-done
returns-clause-done g c =
    let over = c.if-shard-plan.false in
    let less : c.args.shard < c.args.plan.shards = omega arith in
    follows_report c.args.plan.shards c.args.shard c.args.report.now c.args.pass.now c.hear.new.pass less c.in_ok-hear.ensures.done
