use Rattle.std.proofs.Common.{refl}
use Rattle.gr_history.specs.Queries.{query_gives}
use Rattle.gr_shard.proofs.Following.{new_in_step, served_reply, served_in_step, noted_in_step, untold_in_step}
use Rattle.gr_shard.proofs.in_step.queries_stay_in_step.Goals as goal

pub returns-clause-fresh : goal.returns-clause-fresh
returns-clause-fresh c = new_in_step

pub returns-clause-replies : goal.returns-clause-replies
returns-clause-replies c = served_reply

pub returns-clause-asked : goal.returns-clause-asked
returns-clause-asked c client seq ask past entries step =
    served_in_step client seq ask (query_gives client ask past) past entries step refl

pub returns-clause-noted : goal.returns-clause-noted
returns-clause-noted c = noted_in_step

pub returns-clause-untold : goal.returns-clause-untold
returns-clause-untold c = untold_in_step
