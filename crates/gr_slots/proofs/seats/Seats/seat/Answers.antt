use Rattle.std.proofs.Common.{rules}
use Rattle.gr_slots.specs.Links.{seat_of}
use Rattle.gr_slots.proofs.seats.Seats.seat.Goals as goal

pub returns : goal.returns
unfolding seat_of
returns c = search rules
