use Rattle.gr_script.specs.Scripts.{heading_of}
use Rattle.gr_runner.proofs.Joiners.{founder_stays}
use Rattle.gr_runner.proofs.kits.joins.Goals as goal

pub returns-then-member-script : goal.returns-then-member-script
returns-then-member-script c =
    founder_stays (heading_of c.args.script.now) c.args.script.now.lines c.args.member c.args.script.now.ruled c.if-member-script.true
