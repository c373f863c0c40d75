use Rattle.std.specs.Prelude.{reverse}
use Rattle.gr_world.proofs.Events.{one_deed}
use Rattle.gr_world.proofs.Parted.{lines_shut}
use Rattle.gr_world.proofs.Served.{script_causal, script_abiding, script_served, script_follows}
use Rattle.gr_world.proofs.laws.laws_of_courses.Goals as goal

pub returns : goal.returns
returns c = record {
  causal = script_causal;
  abiding = script_abiding;
  shut = λ heading lines is. lines_shut heading (reverse lines) is.heading is.lines_stand is.names_staying;
  served = script_served;
  in_order = script_follows;
  one = one_deed;
}
