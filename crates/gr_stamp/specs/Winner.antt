-- Which of the changes of a key wins.
use Rattle.std.specs.Prelude.{◌≡◌, ℕ, List, [], ◌∷◌, Bool, true, false, ◌&&◌, not, IsTrue, Contains, bytes_eq, if◌then◌else◌, Option, Some}
use Rattle.std.specs.Prelude.{None, option_and_then, option_map}
use Rattle.std.specs.List.{AllByRecursion}
use Rattle.gr_value.specs.declared.value.Field.{Field}
use Rattle.gr_stamp.specs.declared.change.Change.{Change}
use Rattle.gr_stamp.specs.declared.change.Kind.{Kind}
use Rattle.gr_stamp.specs.declared.change.Kind.TheVariants.{Put, Invalid, Remove}
use Rattle.gr_stamp.specs.Version.{beats, decides}

-- whether a change replaces what won before it
abbrev pub wins : Change → Option Change → Bool
wins change before = decides (option_map (λ held. held.stamp) before) change.stamp

-- The change of the key that no other change of it beats, of changes that are listed the newest first.
-- Of several with one stamp it is the oldest.
abbrev pub winner : List ℕ → List Change → Option Change
winner key [] = None
winner key (change ∷ past) =
    if bytes_eq change.key key && wins change (winner key past) then Some change else winner key past

-- the value that a kind of change puts
abbrev pub put_value : Kind → Option (List Field)
put_value (Put value) = Some value
put_value Invalid = None
put_value Remove = None

abbrev pub is_removal : Kind → Bool
is_removal (Put value) = false
is_removal Invalid = false
is_removal Remove = true

-- what the changes leave at a key: the value, where its winner is a put
abbrev pub holds : List ℕ → List Change → Option (List Field)
holds key changes = option_and_then (λ change. put_value change.kind) (winner key changes)

-- whether a key is there where this won, as a put or without a value
abbrev pub is_there : Option Change → Bool
is_there None = false
is_there (Some change) = not (is_removal change.kind)

-- whether the changes leave a key there
abbrev pub leaves : List ℕ → List Change → Bool
leaves key changes = is_there (winner key changes)

-- the key has no change among these
abbrev pub HasNoChange : List ℕ → List Change → Type 0
HasNoChange key changes = AllByRecursion (λ change. bytes_eq change.key key ≡ false) changes

-- a change of the key is one of these, and none of the key's among them beats it
pub record IsUnbeaten (key : List ℕ) (changes : List Change) (best : Change) : Type 0 where
  pub of_key : IsTrue (bytes_eq best.key key)
  pub among : Contains changes best
  pub unbeaten : AllByRecursion (λ change. bytes_eq change.key key ≡ true → beats change.stamp best.stamp ≡ false) changes
