-- The operations on a key, as data: the word of each, and what is asked with it.
use Rattle.std.specs.Prelude.{ℕ, List, [], ◌∷◌, Option, Some, None, option_map, codes, bytes_eq}
use Rattle.std.specs.List.{find}
use Rattle.std.specs.Option.{option_and_then}
use Rattle.gr_value.specs.declared.value.Field.{Field}
use Rattle.gr_history.specs.declared.ask.Ask.{Ask}
use Rattle.gr_history.specs.declared.ask.Ask.TheVariants as ask
use Rattle.gr_script.specs.declared.operation.Keyed.{Keyed}
use Rattle.gr_script.specs.declared.operation.Keyed.TheVariants.{Get, Destroy, Invalidate}
use Rattle.gr_script.specs.declared.operation.Valued.{Valued}
use Rattle.gr_script.specs.declared.operation.Valued.TheVariants.{Put, PutIfAbsent, Replace, Remove}
use Rattle.gr_script.specs.declared.operation.Paired.{Paired}
use Rattle.gr_script.specs.declared.operation.Paired.TheVariants.{ReplaceIf}
use Rattle.gr_script.specs.declared.operation.Operation.{Operation}
use Rattle.gr_script.specs.declared.operation.Operation.TheVariants.{OfKey, OfValue, OfPair}

abbrev pub operation_word : Operation → List ℕ
operation_word (OfKey Get) = codes "get"
operation_word (OfKey Destroy) = codes "destroy"
operation_word (OfKey Invalidate) = codes "invalidate"
operation_word (OfValue Put) = codes "put"
operation_word (OfValue PutIfAbsent) = codes "putIfAbsent"
operation_word (OfValue Replace) = codes "replace"
operation_word (OfValue Remove) = codes "remove"
operation_word (OfPair ReplaceIf) = codes "replaceIf"

abbrev pub operations : List Operation
operations =
    OfKey Get ∷ OfKey Destroy ∷ OfKey Invalidate ∷ OfValue Put ∷ OfValue PutIfAbsent ∷ OfValue Replace ∷ OfValue Remove
    ∷ OfPair ReplaceIf ∷ []

-- the operation with this word
abbrev pub operation_called : List ℕ → Option Operation
operation_called text = find (λ operation. bytes_eq text (operation_word operation)) operations

-- ---- what is asked

abbrev pub ask_of_key : Keyed → List ℕ → Ask
ask_of_key Get key = ask.Get key
ask_of_key Destroy key = ask.Destroy key
ask_of_key Invalidate key = ask.Invalidate key

abbrev pub ask_of_value : Valued → List ℕ → List Field → Ask
ask_of_value Put key value = ask.Put key value
ask_of_value PutIfAbsent key value = ask.PutIfAbsent key value
ask_of_value Replace key value = ask.Replace key value
ask_of_value Remove key value = ask.Remove key value

abbrev pub ask_of_pair : Paired → List ℕ → List Field → List Field → Ask
ask_of_pair ReplaceIf key old new = ask.ReplaceIf key old new

-- with as many values as are there, of which one may be missing
abbrev pub ask_with : Operation → List ℕ → Option (List Field) → Option (List Field) → Option Ask
ask_with (OfKey operation) key first second = Some (ask_of_key operation key)
ask_with (OfValue operation) key first second = option_map (ask_of_value operation key) first
ask_with (OfPair operation) key first second =
    option_and_then (λ old. option_map (ask_of_pair operation key old) second) first

-- ---- how it is worded

-- The operation of a call with its key and its values.
pub data Wording : Type 0 where
  WithKey : Keyed → List ℕ → Wording
  WithValue : Valued → List ℕ → List Field → Wording
  WithPair : Paired → List ℕ → List Field → List Field → Wording

abbrev pub wording : Ask → Wording
wording (ask.Get key) = WithKey Get key
wording (ask.Put key value) = WithValue Put key value
wording (ask.PutIfAbsent key value) = WithValue PutIfAbsent key value
wording (ask.Replace key value) = WithValue Replace key value
wording (ask.ReplaceIf key old new) = WithPair ReplaceIf key old new
wording (ask.Destroy key) = WithKey Destroy key
wording (ask.Remove key value) = WithValue Remove key value
wording (ask.Invalidate key) = WithKey Invalidate key

abbrev pub operation_in : Wording → Operation
operation_in (WithKey operation key) = OfKey operation
operation_in (WithValue operation key value) = OfValue operation
operation_in (WithPair operation key old new) = OfPair operation

abbrev pub first_in : Wording → Option (List Field)
first_in (WithKey operation key) = None
first_in (WithValue operation key value) = Some value
first_in (WithPair operation key old new) = Some old

abbrev pub second_in : Wording → Option (List Field)
second_in (WithPair operation key old new) = Some new
second_in _ = None
