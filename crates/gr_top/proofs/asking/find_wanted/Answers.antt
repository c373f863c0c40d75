use Rattle.gr_script.specs.Scripts.{heading_of}
use Rattle.gr_top.proofs.Wanted.{found}
use Rattle.gr_top.proofs.asking.find_wanted.Goals as goal

pub returns : goal.returns
returns c =
    found c.args.member c.args.wanted.now (heading_of c.args.script.now) c.find_region.result c.if-script-member.false c.find_region.ensures
