-- The status of each cause.
use Rattle.std.specs.Prelude.{ℕ}
use Rattle.gr_top.specs.declared.cause.Cause.{Cause}
use Rattle.gr_top.specs.declared.cause.Cause.TheVariants.{Finished, Usage, ReadFault, TooLarge}
use Rattle.gr_top.specs.declared.cause.Cause.TheVariants.{Script, WriteFault, Memory, NoMember, OtherRegion}

abbrev pub status_of : Cause → ℕ
status_of Finished = 0
status_of (Usage place) = 2
status_of ReadFault = 3
status_of (TooLarge bytes lines) = 4
status_of (Script fault) = 5
status_of WriteFault = 6
status_of Memory = 7
status_of (NoMember member) = 9
status_of OtherRegion = 10
