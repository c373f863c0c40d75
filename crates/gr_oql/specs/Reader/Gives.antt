-- What a reader of the code answered beside what is read.
use Rattle.std.specs.Borrow.{Bor}
use Rattle.std.specs.Prelude.{◌≡◌, ◌<◌, ◌≤◌, ℕ, Bool, if◌then◌else◌, List, length, Option, option_map, Result, Ok, Err}
use Rattle.std.specs.Bool.{OnTrue}
use Rattle.gr_oql.specs.Terminals.{Terminal, begins, rest}
use Rattle.gr_oql.specs.Reader.Reading.{Reading}
use Rattle.gr_oql.specs.declared.halt.Halt.{Halt}
use Rattle.gr_oql.specs.declared.halt.Halt.TheVariants as stops

-- The answer, as `view` sees it, with the tokens that are left, is what is read, unless memory ran out.
abbrev pub Stops : {A : Type 0} → Halt → List Terminal → Reading A → Type 0
Stops stops.Memory left read = Unit {0}
Stops (stops.Wrong wrong) left read = read ≡ Err (wrong, left)

abbrev pub Gives : {X A : Type 0} → (X → A) → Result X Halt → List Terminal → Reading A → Type 0
Gives view (Ok x) left read = read ≡ Ok (view x, left)
Gives view (Err stop) left read = Stops stop left read

-- What is answered is what is read, and no token is given back.
pub record Reads {X A : Type 0} (view : X → A) (result : Result X Halt) (old new : List Terminal) (read : Reading A) : Type 0 where
  pub exact : Gives view result new read
  pub within : length new ≤ length old

-- The next token is passed, where it is one of these.
pub record Passes (passes : Terminal → Bool) (found : Bool) (old new : List Terminal) : Type 0 where
  pub test : found ≡ begins passes old
  pub after : new ≡ (if found then rest old else old)
  pub within : length new ≤ length old
  pub shorter : OnTrue found (length new < length old)

-- the alias that a reader was told, where there is one
abbrev pub alias_of : Option (Bor (List ℕ)) → Option (List ℕ)
alias_of alias = option_map (λ a. a.now) alias
