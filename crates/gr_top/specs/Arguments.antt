-- The arguments that the program is started with, and its words.
use Rattle.std.specs.Prelude.{◌≡◌, ◌<◌, ℕ, List, [], ◌∷◌, take, drop, length, slice_get, IsUtf8}
use Rattle.std.specs.Prelude.{Option, Some, None, Result, Ok, Err, IfSome, IsSomeAnd}
use Rattle.std.specs.declared.env.FillError.{FillError}
use Rattle.std.specs.declared.env.FillError.TheVariants.{NotPresent, TooLong}

-- What an answer says of the argument that was asked for: it stands at the buffer's start, or there is none, or it is
-- longer than the buffer.
abbrev pub Gives : Option (List ℕ) → List ℕ → Result ℕ FillError → Type 0
Gives argument buffer (Ok count) = argument ≡ Some (take count buffer)
Gives argument buffer (Err NotPresent) = argument ≡ None
Gives argument buffer (Err TooLong) = IsSomeAnd argument (λ bytes. length buffer < length bytes)

-- The word is the argument where that is text, and else an empty word, which no mode has.
pub record IsWordOf (argument word : List ℕ) : Type 0 where
  pub text : IsUtf8 argument → word ≡ argument
  pub other : ¬ (IsUtf8 argument) → word ≡ []

-- the words of these arguments, each in its place
abbrev pub AreEach : List (List ℕ) → List (List ℕ) → Type 0
AreEach [] [] = Unit {0}
AreEach [] (word ∷ words) = ⊥
AreEach (argument ∷ arguments) [] = ⊥
AreEach (argument ∷ arguments) (word ∷ words) = IsWordOf argument word × AreEach arguments words

-- The words are those of all arguments but the first, which is the program's own name.
abbrev pub AreWords : List (List ℕ) → List (List ℕ) → Type 0
AreWords arguments words = AreEach (drop 1 arguments) words

-- where the arguments are told, the word is that of the one at the place, or `None` behind the last
abbrev pub IsWordAt : Option (List (List ℕ)) → ℕ → Option (List ℕ) → Type 0
IsWordAt told place (Some word) = IfSome told (λ arguments.
    (argument : List ℕ) × (slice_get arguments place ≡ Some argument) × IsWordOf argument word)
IsWordAt told place None = IfSome told (λ arguments. slice_get arguments place ≡ None)
