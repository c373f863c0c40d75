-- The numbers and the printed names of the reasons.
use Rattle.std.specs.Prelude.{ℕ, List, codes}
use Rattle.gr_script.specs.declared.reason.Reason.{Reason}
use Rattle.gr_script.specs.declared.reason.Reason.TheVariants.{Utf8, Header, Word, Fields, Number, Range, Name, Key, Value, Query, Region}
use Rattle.gr_script.specs.declared.reason.Reason.TheVariants.{Client, Order, Later, Join, Itself, Count, NotInRun, Gone, Provider, Away}

abbrev pub number_of : Reason → ℕ
number_of Utf8 = 1
number_of (Header _) = 2
number_of Word = 3
number_of Fields = 4
number_of Number = 5
number_of Range = 6
number_of Name = 7
number_of (Key _) = 8
number_of (Value _) = 9
number_of (Query _) = 10
number_of Region = 11
number_of Client = 12
number_of Order = 13
number_of Later = 14
number_of Join = 15
number_of Itself = 16
number_of Count = 17
number_of NotInRun = 18
number_of Gone = 19
number_of Provider = 20
number_of Away = 21

abbrev pub name_of : Reason → List ℕ
name_of Utf8 = codes "Utf8"
name_of (Header _) = codes "Header"
name_of Word = codes "Word"
name_of Fields = codes "Fields"
name_of Number = codes "Number"
name_of Range = codes "Range"
name_of Name = codes "Name"
name_of (Key _) = codes "Key"
name_of (Value _) = codes "Value"
name_of (Query _) = codes "Query"
name_of Region = codes "Region"
name_of Client = codes "Client"
name_of Order = codes "Order"
name_of Later = codes "Later"
name_of Join = codes "Join"
name_of Itself = codes "Self"
name_of Count = codes "Count"
name_of NotInRun = codes "NotInRun"
name_of Gone = codes "Gone"
name_of Provider = codes "Provider"
name_of Away = codes "Away"
