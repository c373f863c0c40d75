-- What the program of pictures ends with.
use Rattle.std.specs.Prelude.{ℕ}
use Rattle.gr_picture.specs.declared.cause.Cause.{Cause}
use Rattle.gr_picture.specs.declared.cause.Cause.TheVariants.{Finished, ReadFault, TooLarge, Line, WriteFault, Memory}

-- the status of each cause, the same as georep's for such a cause
abbrev pub status_of : Cause → ℕ
status_of Finished = 0
status_of ReadFault = 3
status_of TooLarge = 4
status_of (Line line) = 5
status_of WriteFault = 6
status_of Memory = 7
