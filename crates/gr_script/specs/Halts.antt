-- What ends the reading of a script, and which reason a fault is.
use Rattle.std.specs.Prelude.{◌≡◌, Result, Ok, Err, ⊤, Bool, if◌then◌else◌}
use Rattle.gr_value.specs.declared.fault.KeyFault.{KeyFault}
use Rattle.gr_value.specs.declared.fault.KeyFault.TheVariants as key
use Rattle.gr_value.specs.declared.fault.ValueFault.{ValueFault}
use Rattle.gr_value.specs.declared.fault.ValueFault.TheVariants as value
use Rattle.gr_oql.specs.declared.fault.OqlFault.{OqlFault}
use Rattle.gr_oql.specs.declared.fault.OqlFault.TheVariants as query
use Rattle.gr_script.specs.declared.halt.Halt.{Halt}
use Rattle.gr_script.specs.declared.halt.Halt.TheVariants.{Refused, Memory}
use Rattle.gr_script.specs.declared.reason.Reason.{Reason}
use Rattle.gr_script.specs.declared.reason.Reason.TheVariants as reason

-- Which reason a fault is: its place among the faults, from 1. No text has the fault Memory.
abbrev pub key_reason : KeyFault → Reason
key_reason key.Empty = reason.Key 1
key_reason key.TooLong = reason.Key 2
key_reason (key.BadByte _) = reason.Key 3
key_reason key.Memory = reason.Key 4

abbrev pub value_reason : ValueFault → Reason
value_reason value.TooLong = reason.Value 1
value_reason value.NotJson = reason.Value 2
value_reason value.NotObject = reason.Value 3
value_reason (value.Nested _) = reason.Value 4
value_reason (value.NotWhole _) = reason.Value 5
value_reason value.Memory = reason.Value 6

abbrev pub query_reason : OqlFault → Reason
query_reason (query.Lex _) = reason.Query 1
query_reason (query.Expected _) = reason.Query 2
query_reason (query.NotACq _ _) = reason.Query 3
query_reason (query.TooDeep _) = reason.Query 4
query_reason query.Memory = reason.Query 5

-- A fault for want of memory halts the reading as that.
abbrev pub key_halt : KeyFault → Halt
key_halt key.Memory = Memory
key_halt fault = Refused (key_reason fault)

abbrev pub value_halt : ValueFault → Halt
value_halt value.Memory = Memory
value_halt fault = Refused (value_reason fault)

abbrev pub query_halt : OqlFault → Halt
query_halt query.Memory = Memory
query_halt fault = Refused (query_reason fault)

-- What halted the reading is its reason, or memory was refused.
abbrev pub Halts : {Y : Type 0} → Halt → Result Y Reason → Type 0
Halts Memory read = ⊤
Halts (Refused why) read = read ≡ Err why

-- What a function returned, seen by view, is what reading gives, unless memory was refused.
abbrev pub Yields : {X Y : Type 0} → (X → Y) → Result X Halt → Result Y Reason → Type 0
Yields view (Ok x) read = read ≡ Ok (view x)
Yields view (Err halt) read = Halts halt read

-- ---- readings, one after another

infixl 10 ◌>>=◌
abbrev pub ◌>>=◌ : {A B : Type 0} → Result A Reason → (A → Result B Reason) → Result B Reason
(Ok x) >>= next = next x
(Err why) >>= next = Err why

-- refused where a test holds
abbrev pub unless : {A : Type 0} → Bool → Reason → A → Result A Reason
unless test why x = if test then Err why else Ok x
