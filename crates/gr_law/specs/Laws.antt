-- What was taken in, and the laws of records.
use Rattle.std.specs.Prelude.{◌≡◌, ◌≤◌, ◌<◌, ◌∷◌, ◌++◌, [], ℕ, List, true, false, Some}
use Rattle.std.specs.Option.{option_to_list}
use Rattle.gr_stamp.specs.declared.change.Change.{Change}
use Rattle.gr_stamp.specs.Version.{beats}
use Rattle.gr_stamp.specs.Winner.{winner, holds, leaves, is_removal}
use Rattle.gr_vector.specs.Ids.{has_id}
use Rattle.gr_history.specs.declared.deed.Deed.{Deed}
use Rattle.gr_history.specs.declared.deed.Deed.TheVariants.{Call, Asked, Taken, Gave, Imaged, Reported, Heard, Swept}
use Rattle.gr_history.specs.Ids.{id_of, ids}
use Rattle.gr_history.specs.Made.{made_at}
use Rattle.gr_history.specs.Standing.{came, standing, there, present, changes}
use Rattle.gr_history.specs.Floor.{expired}
use Rattle.gr_history.specs.Calls.{reach}
use Rattle.gr_law.specs.Grids.{Among, Older, Grid}
use Rattle.gr_law.specs.Integrity.{IsMade, giver_of}

-- what is made or taken in at a deed
abbrev pub taken_at : Deed → List Change
taken_at (Call client to seq ask reply made) = option_to_list made
taken_at (Taken change verdict) = change ∷ []
taken_at _ = []

-- what was made or taken in at a history itself
abbrev pub taken : List Deed → List Change
taken [] = []
taken (deed ∷ past) = taken_at deed ++ taken past

-- the same, where an image brings what its giver had made or taken in by then
abbrev pub took_at : Grid → Deed → List Change
took_at grid (Call client to seq ask reply made) = option_to_list made
took_at grid (Taken change verdict) = change ∷ []
took_at grid (Imaged image) = taken (giver_of grid image)
took_at grid _ = []

abbrev pub took : Grid → List Deed → List Change
took grid [] = []
took grid (deed ∷ past) = took_at grid deed ++ took grid past

-- Law 0 of one history: what it knows of a key is reached by what stands or by the floor.
abbrev pub IsReached : Grid → ℕ → List Deed → Type 0
IsReached grid opening past =
    (change : Change) → IsMade grid change → has_id (id_of change) (ids past) ≡ true
    → change.stamp.ver ≤ reach opening change.key past

-- Law 1 of one deed: what it makes has a greater version than each change of its key that its maker had taken in.
abbrev pub IsGreater : Grid → Deed → List Deed → Type 0
IsGreater grid deed past = (change : Change) → Among change (made_at deed)
    → (before : Change) → Among before (took grid past) → before.key ≡ change.key → before.stamp.ver < change.stamp.ver

-- Law 2 of one history: what comes in later beats each tombstone of its key that expired before.
abbrev pub IsLate : List Deed → Type 0
IsLate [] = Unit {0}
IsLate (deed ∷ past) =
    ((change tombstone : Change) → Among change (came deed past) → Among tombstone (expired past) → change.key ≡ tombstone.key
    → beats change.stamp tombstone.stamp ≡ true)
    × IsLate past

-- Law 0: so it is at each place of each history.
abbrev pub law_0 : Grid → Type 0
law_0 grid = (member : ℕ) (past : List Deed) → Older past (grid.history member) → IsReached grid (grid.opening member) past

-- Law 1: so it is of each deed of each history.
abbrev pub law_1 : Grid → Type 0
law_1 grid = (member : ℕ) (deed : Deed) (past : List Deed) → Older (deed ∷ past) (grid.history member) → IsGreater grid deed past

-- Law 2: so it is of each history.
abbrev pub law_2 : Grid → Type 0
law_2 grid = (member : ℕ) → IsLate (grid.history member)

-- What is present is the value of the winner of all that was taken in, the key is there where that winner is a put
-- or an invalidation, and then this winner stands.
pub record IsHeld (grid : Grid) (key : List ℕ) (past : List Deed) : Type 0 where
  pub present_is : present key past ≡ holds key (took grid past)
  pub there_is : there key past ≡ leaves key (took grid past)
  pub stands : (change : Change) → winner key (took grid past) ≡ Some change → is_removal change.kind ≡ false
      → standing key past ≡ Some change

-- Law 3: so it is at each place of each history.
abbrev pub law_3 : Grid → Type 0
law_3 grid = (member : ℕ) (past : List Deed) → Older past (grid.history member) → (key : List ℕ) → IsHeld grid key past

-- whether all of the key's changes among the first are among the second
abbrev pub AreAlso : List ℕ → List Change → List Change → Type 0
AreAlso key few many = (change : Change) → Among change few → change.key ≡ key → Among change many

-- Law 3 of two members: after histories that took in the same changes of a key, one value is present, and the key is
-- there after both or after none.
abbrev pub same_value : Grid → Type 0
same_value grid = (i j : ℕ) (one two : List Deed) → Older one (grid.history i) → Older two (grid.history j) → (key : List ℕ)
    → AreAlso key (took grid one) (took grid two) → AreAlso key (took grid two) (took grid one)
    → (present key one ≡ present key two) × (there key one ≡ there key two)

-- The same of what stands: where a put or an invalidation stands at one, the same change stands at the other, stamp included.
abbrev pub same_entry : Grid → Type 0
same_entry grid = (i j : ℕ) (one two : List Deed) → Older one (grid.history i) → Older two (grid.history j) → (key : List ℕ)
    → AreAlso key (took grid one) (took grid two) → AreAlso key (took grid two) (took grid one)
    → (held : Change) → standing key one ≡ Some held → is_removal held.kind ≡ false → standing key two ≡ Some held

-- Law 4 of one history: a put or an invalidation that stands beats each removal of its key that was taken in.
abbrev pub OutlastsRemovals : Grid → List Deed → Type 0
OutlastsRemovals grid past = (tombstone held : Change) → Among tombstone (took grid past) → is_removal tombstone.kind ≡ true
    → standing tombstone.key past ≡ Some held → is_removal held.kind ≡ false → beats held.stamp tombstone.stamp ≡ true

-- Law 4: so it is at each place of each history.
abbrev pub law_4 : Grid → Type 0
law_4 grid = (member : ℕ) (past : List Deed) → Older past (grid.history member) → OutlastsRemovals grid past

-- Law 5: law 3 of one history, from three facts: what came in late to it beats what had expired there, so it was
-- at the givers of its images, and what an image didn't know beats what had expired at its giver.
abbrev pub IsGiverLate : Grid → Deed → Type 0
IsGiverLate grid (Call client to seq ask reply made) = Unit {0}
IsGiverLate grid (Asked client seq ask reply) = Unit {0}
IsGiverLate grid (Taken change verdict) = Unit {0}
IsGiverLate grid (Gave to what) = Unit {0}
IsGiverLate grid (Imaged image) = IsLate (giver_of grid image)
IsGiverLate grid (Reported report) = Unit {0}
IsGiverLate grid (Heard report) = Unit {0}
IsGiverLate grid (Swept moment keys) = Unit {0}

abbrev pub AreGiversLate : Grid → List Deed → Type 0
AreGiversLate grid [] = Unit {0}
AreGiversLate grid (deed ∷ past) = IsGiverLate grid deed × AreGiversLate grid past

-- the changes that an image's vector doesn't hold beat what had expired at the giver
abbrev pub IsApart : Grid → List Change → Deed → Type 0
IsApart grid all (Call client to seq ask reply made) = Unit {0}
IsApart grid all (Asked client seq ask reply) = Unit {0}
IsApart grid all (Taken change verdict) = Unit {0}
IsApart grid all (Gave to what) = Unit {0}
IsApart grid all (Imaged image) =
    (change tombstone : Change) → Among change all → has_id (id_of change) image.vector.ids ≡ false
    → Among tombstone (expired (giver_of grid image))
    → change.key ≡ tombstone.key → beats change.stamp tombstone.stamp ≡ true
IsApart grid all (Reported report) = Unit {0}
IsApart grid all (Heard report) = Unit {0}
IsApart grid all (Swept moment keys) = Unit {0}

abbrev pub AreApart : Grid → List Change → List Deed → Type 0
AreApart grid all [] = Unit {0}
AreApart grid all (deed ∷ past) = IsApart grid all deed × AreApart grid all past

abbrev pub law_5 : Grid → Type 0
law_5 grid = (member : ℕ) (past : List Deed) → Older past (grid.history member)
    → IsLate past → AreGiversLate grid past → AreApart grid (changes past) past → (key : List ℕ) → IsHeld grid key past
