use Rattle.gr_world.proofs.Left.{left_abiding, left_served, left_follows}
use Rattle.gr_world.proofs.laws.records_keep_the_laws.Goals as goal

pub returns : goal.returns
returns c = record { abiding = left_abiding; served = left_served; in_order = left_follows }
