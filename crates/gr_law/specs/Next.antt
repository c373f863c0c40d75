-- What is asked of a deed that comes next.
use Rattle.std.specs.Prelude.{◌≤◌, ℕ, List}
use Rattle.gr_history.specs.declared.deed.Deed.{Deed}
use Rattle.gr_history.specs.declared.deed.Deed.TheVariants.{Call, Asked, Taken, Gave, Imaged, Reported, Heard, Swept}
use Rattle.gr_history.specs.Lawful.{IsLawfulDeed}
use Rattle.gr_law.specs.Grids.{Grid, identity}
use Rattle.gr_law.specs.Integrity.{IsGenuineDeed, HasNoImage, IsHeardDeed}

-- an image comes once
abbrev pub IsFirstImage : Deed → List Deed → Type 0
IsFirstImage (Call client to seq ask reply made) past = Unit {0}
IsFirstImage (Asked client seq ask reply) past = Unit {0}
IsFirstImage (Taken change verdict) past = Unit {0}
IsFirstImage (Gave to what) past = Unit {0}
IsFirstImage (Imaged image) past = HasNoImage past
IsFirstImage (Reported report) past = Unit {0}
IsFirstImage (Heard report) past = Unit {0}
IsFirstImage (Swept moment keys) past = Unit {0}

-- what is asked of a deed that comes next at the member
pub record IsNext (grid : Grid) (m : ℕ) (deed : Deed) : Type 0 where
  pub from : 1 ≤ m
  pub to : m ≤ grid.members
  pub lawful : IsLawfulDeed (identity grid m) (grid.opening m) deed (grid.history m)
  pub genuine : IsGenuineDeed grid m deed
  pub once : IsFirstImage deed (grid.history m)
  pub heard : IsHeardDeed grid deed
