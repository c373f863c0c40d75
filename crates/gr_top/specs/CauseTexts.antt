-- The line that says why the program ended.
use Rattle.std.specs.Prelude.{ℕ, ◌+◌, List, [], ◌++◌, codes, decimal}
use Rattle.gr_script.specs.Reasons.{number_of, name_of}
use Rattle.gr_top.specs.declared.cause.Cause.{Cause}
use Rattle.gr_top.specs.declared.cause.Cause.TheVariants.{Finished, Usage, ReadFault, TooLarge}
use Rattle.gr_top.specs.declared.cause.Cause.TheVariants.{Script, WriteFault, Memory, NoMember, OtherRegion}

abbrev pub text_of_cause : Cause → List ℕ
text_of_cause Finished = []
text_of_cause (Usage place) = codes "georep: word " ++ decimal (place + 1) ++ codes " isn't understood\n"
text_of_cause ReadFault = codes "georep: the input can't be read\n"
text_of_cause (TooLarge bytes lines) = codes "georep: the script is too large\n"
text_of_cause (Script fault) =
    codes "georep: line " ++ decimal fault.line ++ codes ": " ++ decimal (number_of fault.reason) ++ codes " " ++ name_of fault.reason
    ++ codes "\n"
text_of_cause WriteFault = codes "georep: the output can't be written\n"
text_of_cause Memory = codes "georep: no memory\n"
text_of_cause (NoMember member) = codes "georep: the script has no member " ++ decimal member ++ codes "\n"
text_of_cause OtherRegion = codes "georep: the query asks another region\n"
