-- What is said of a fault, as a clause of a sentence.
use Rattle.std.specs.Prelude.{ℕ, List, ◌++◌, codes, decimal}
use Rattle.gr_value.specs.declared.fault.KeyFault.{KeyFault}
use Rattle.gr_value.specs.declared.fault.KeyFault.TheVariants as key
use Rattle.gr_value.specs.declared.fault.ValueFault.{ValueFault}
use Rattle.gr_value.specs.declared.fault.ValueFault.TheVariants as value

abbrev pub text_of_key_fault : KeyFault → List ℕ
text_of_key_fault key.Empty = codes "a key has at least one byte"
text_of_key_fault key.TooLong = codes "a key has at most 255 bytes"
text_of_key_fault (key.BadByte place) = codes "no byte of a key, at " ++ decimal place
text_of_key_fault key.Memory = codes "no memory"

abbrev pub text_of_value_fault : ValueFault → List ℕ
text_of_value_fault value.TooLong = codes "a value has at most 1024 bytes"
text_of_value_fault value.NotJson = codes "a value is JSON"
text_of_value_fault value.NotObject = codes "a value is an object"
text_of_value_fault (value.Nested place) = codes "field " ++ decimal place ++ codes " holds an array or an object"
text_of_value_fault (value.NotWhole place) = codes "field " ++ decimal place ++ codes " holds no whole number"
text_of_value_fault value.Memory = codes "no memory"
