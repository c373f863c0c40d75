-- What an entering, or a note, leaves of an eye.
use Rattle.std.specs.Prelude.{◌≡◌, ◌≤◌, Bool, true, List, [], length, nat_le, if◌then◌else◌, Result, Ok, Err}
use mathlib.Core.List.{IsPrefix}
use Rattle.logbook.specs.Pages.{Book}
use Rattle.gr_peek.specs.declared.eye.PeekEnd.{PeekEnd}
use Rattle.gr_peek.specs.declared.eye.PeekEnd.TheVariants as end
use Rattle.gr_peek.specs.Views.{Watching}
use Rattle.gr_value.specs.Counts.{next_of}

-- It is shown its copy, and knows a list of publications that begins with all that it knew, and with all notes that it had learnt.
pub record HasEntered (old new : Watching) : Type 0 where
  pub was_shown : old.shown ≡ true
  pub copy_is : new.copy ≡ old.copy
  pub shown_is : new.shown ≡ old.shown
  pub knew : IsPrefix old.known new.known
  pub learnt : IsPrefix old.told new.known
  pub told_is : new.told ≡ new.known
  pub denied_is : new.denied ≡ old.denied

-- only the count of refusals rose, which never falls
pub record IsDenied (old new : Watching) : Type 0 where
  pub rest : new ≡ record old { denied = next_of old.denied }
  pub never_falls : old.denied ≤ new.denied

-- the eye after a peek with this answer: one that isn't shown the copy was denied
abbrev pub IsEntered : {T : Type 0} → Result T PeekEnd → Watching → Watching → Type 0
IsEntered (Ok value) old new = HasEntered old new
IsEntered (Err end.Memory) old new = HasEntered old new
IsEntered (Err end.Denied) old new = IsDenied old new

-- the eye after some enterings
pub record Follows (old new : Watching) : Type 0 where
  pub copy_is : new.copy ≡ old.copy
  pub shown_is : new.shown ≡ old.shown
  pub knew : IsPrefix old.known new.known
  pub learnt : IsPrefix old.told new.told
  pub never_falls : old.denied ≤ new.denied

-- what an eye was told, once it learns a note: the longer of both
abbrev pub longer : {A : Type 0} → List A → List A → List A
longer told noted = if nat_le (length noted) (length told) then told else noted

-- an eye as it is made
abbrev pub new_eye : Bool → Book → Watching
new_eye shown copy = record { copy = copy; shown = shown; known = []; told = []; denied = 0 }
