-- The line that says why the program of pictures ended.
use Rattle.std.specs.Prelude.{ℕ, List, [], ◌++◌, codes, decimal}
use Rattle.gr_picture.specs.declared.cause.Cause.{Cause}
use Rattle.gr_picture.specs.declared.cause.Cause.TheVariants.{Finished, ReadFault, TooLarge, Line, WriteFault, Memory}

abbrev pub text_of_cause : Cause → List ℕ
text_of_cause Finished = []
text_of_cause ReadFault = codes "georep_picture: the input can't be read\n"
text_of_cause TooLarge = codes "georep_picture: the report is too large\n"
text_of_cause (Line line) =
    codes "georep_picture: line " ++ decimal line ++ codes ": not what a report with histories has there\n"
text_of_cause WriteFault = codes "georep_picture: the output can't be written\n"
text_of_cause Memory = codes "georep_picture: no memory\n"
