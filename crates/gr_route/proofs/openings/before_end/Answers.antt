use Rattle.std.proofs.Common.{sym}
use Rattle.gr_route.specs.Openings.{ends}
use Rattle.gr_route.proofs.Adding.{found_first, found_none}
use Rattle.gr_route.proofs.openings.before_end.Goals as goal

pub returns-in-Some-clause-count : goal.returns-in-Some-clause-count
returns-in-Some-clause-count c =
    found_first (ends c.args.client c.args.name.now) c.args.deeds.now c.in-Some.place (sym c.in-Some.ensures.place)

pub returns-in-None-clause-count : goal.returns-in-None-clause-count
returns-in-None-clause-count c = found_none (ends c.args.client c.args.name.now) c.args.deeds.now (sym c.in-None.ensures.place)
