use Rattle.gr_world.specs.Stages.{heading_at}
use Rattle.gr_depart.proofs.Acts.{close_plays}
use Rattle.gr_depart.proofs.closing.close.Goals as goal

pub returns : goal.returns
returns c =
    close_plays (heading_at c.args.stage) c.args.world.now _ c.args.site.member c.args.site.shard c.args.of c.view.result.now
    c.in_ok-report.report c.view.ensures c.in_ok-report.ensures c.in_ok-does.ensures
