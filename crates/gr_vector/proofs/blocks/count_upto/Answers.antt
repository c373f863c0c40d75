use Rattle.std.proofs.Common.{rules}
use Rattle.gr_vector.proofs.Counts.{is_point, point_above, point_below}
use Rattle.gr_vector.proofs.blocks.count_upto.Goals as goal

pub returns-clause-above : goal.returns-clause-above
returns-clause-above c =
    point_above c.args.number c.partition_point.result c.args.blocks.now
    (is_point c.args.number c.partition_point.result c.args.blocks.now c.requires c.partition_point.ensures.partitioned
    (λ a r f k. search rules))

pub returns-clause-below : goal.returns-clause-below
returns-clause-below c = λ some d.
    point_below c.args.number c.partition_point.result c.args.blocks.now d
    (is_point c.args.number c.partition_point.result c.args.blocks.now c.requires c.partition_point.ensures.partitioned
    (λ a r f k. search rules)) some c.partition_point.ensures.bound
