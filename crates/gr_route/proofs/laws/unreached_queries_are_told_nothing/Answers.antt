use Rattle.gr_cq.proofs.Untold.{meets_is, untold}
use Rattle.gr_route.proofs.Reaching.{routed}
use Rattle.gr_route.proofs.laws.unreached_queries_are_told_nothing.Goals as goal

pub returns-clause-met : goal.returns-clause-met
returns-clause-met c = meets_is

pub returns-clause-untold : goal.returns-clause-untold
returns-clause-untold c = untold

pub returns-clause-events : goal.returns-clause-events
returns-clause-events c = routed
