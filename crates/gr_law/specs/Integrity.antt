-- Integrity: what was taken in was made, what was merged was given, and what was heard was reported.
use Rattle.std.specs.Prelude.{◌≡◌, ◌⊎◌, ◌≤◌, ◌<◌, ◌∷◌, [], ℕ, List, map, true}
use Rattle.gr_stamp.specs.declared.change.Change.{Change}
use Rattle.gr_history.specs.declared.image.Image.{Image}
use Rattle.gr_history.specs.declared.deed.Deed.{Deed}
use Rattle.gr_history.specs.declared.deed.Deed.TheVariants.{Taken, Gave, Imaged, Reported, Heard}
use Rattle.gr_vector.specs.Ids.{Id, has_id}
use Rattle.gr_history.specs.Ids.{ids}
use Rattle.gr_history.specs.Made.{made}
use Rattle.gr_history.specs.Gifts.{IsImageOf}
use Rattle.gr_history.specs.Lawful.{IsLawful}
use Rattle.gr_history.specs.Room.{bare}
use Rattle.gr_law.specs.Grids.{Among, Older, at_place, Grid, identity}
use Rattle.gr_history.specs.declared.image.What.TheVariants as what

-- a change that was made in the history of its member
abbrev pub IsMade : Grid → Change → Type 0
IsMade grid change = Among change (made (grid.history change.stamp.member))

-- the giver's history at the place where it gave the image
abbrev pub giver_of : Grid → Image → List Deed
giver_of grid image = at_place image.at (grid.history image.from)

-- given to the member by a founder, at a place where it gave the member an image
pub record IsGift (grid : Grid) (me : ℕ) (image : Image) : Type 0 where
  pub from_founder : image.from ≤ grid.founders
  pub gave : Older (Gave me what.Image ∷ giver_of grid image) (grid.history image.from)
  pub is_image : IsImageOf image.from (grid.opening image.from) (giver_of grid image) image

-- Integrity on changes and images, of one deed of the member
abbrev pub IsGenuineDeed : Grid → ℕ → Deed → Type 0
IsGenuineDeed grid me (Taken change verdict) = IsMade grid change
IsGenuineDeed grid me (Imaged image) = (grid.founders < me) × IsGift grid me image
IsGenuineDeed grid me _ = Unit {0}

abbrev pub IsGenuine : Grid → ℕ → List Deed → Type 0
IsGenuine grid me [] = Unit {0}
IsGenuine grid me (deed ∷ past) = IsGenuineDeed grid me deed × IsGenuine grid me past

-- a history has at most one image
abbrev pub HasNoImage : List Deed → Type 0
HasNoImage [] = Unit {0}
HasNoImage (Imaged image ∷ past) = ⊥
HasNoImage (_ ∷ past) = HasNoImage past

abbrev pub IsImagedOnce : List Deed → Type 0
IsImagedOnce [] = Unit {0}
IsImagedOnce (Imaged image ∷ past) = HasNoImage past
IsImagedOnce (_ ∷ past) = IsImagedOnce past

-- A heard report was made: a deed of its member reported the same. How much room a vector has to spare is no part of that.
abbrev pub IsHeardDeed : Grid → Deed → Type 0
IsHeardDeed grid (Heard report) = Among (bare (Reported report)) (map bare (grid.history report.member))
IsHeardDeed grid _ = Unit {0}

abbrev pub AreHeard : Grid → List Deed → Type 0
AreHeard grid [] = Unit {0}
AreHeard grid (deed ∷ past) = IsHeardDeed grid deed × AreHeard grid past

-- lawful histories, with integrity on changes and images
pub record IsSound (grid : Grid) : Type 0 where
  pub few : grid.members ≤ 8
  pub lawful : (member : ℕ) → IsLawful (identity grid member) (grid.opening member) (grid.history member)
  pub genuine : (member : ℕ) → IsGenuine grid member (grid.history member)
  pub once : (member : ℕ) → IsImagedOnce (grid.history member)
  pub outside : (member : ℕ) → (1 ≤ member) × (member ≤ grid.members) ⊎ (grid.history member ≡ [])

-- and integrity on reports
pub record IsWhole (grid : Grid) : Type 0 where
  pub sound : IsSound grid
  pub heard : (member : ℕ) → AreHeard grid (grid.history member)

-- A member is closed to another one at a place of its history, as one that has left for good: of its changes this one knows
-- at the end what it knew there, and so does each joiner that is given an image here later. And it gave no image.
pub record IsClosed (grid : Grid) (me gone : ℕ) (place : List Deed) : Type 0 where
  pub here : (id : Id) → id.member ≡ gone → has_id id (ids (grid.history me)) ≡ true → has_id id (ids place) ≡ true
  pub joiners : (joiner : ℕ) (image : Image) (past : List Deed) → Older (Imaged image ∷ past) (grid.history joiner)
      → image.from ≡ me → Older place (giver_of grid image)
      → (id : Id) → id.member ≡ gone → has_id id (ids (grid.history joiner)) ≡ true → has_id id (ids place) ≡ true
  pub gave_none : (joiner : ℕ) (image : Image) (past : List Deed) → Older (Imaged image ∷ past) (grid.history joiner)
      → image.from ≡ gone → ⊥

-- A report that was heard was made, or it is a closing report: one that is heard in the name of a member that is closed there,
-- so that removals needn't wait for it to report.
abbrev pub IsHeardOrClosed : Grid → ℕ → Deed → List Deed → Type 0
IsHeardOrClosed grid me (Heard report) past = IsHeardDeed grid (Heard report) ⊎ IsClosed grid me report.member past
IsHeardOrClosed grid me _ past = Unit {0}

abbrev pub AreHeardOrClosed : Grid → ℕ → List Deed → Type 0
AreHeardOrClosed grid me [] = Unit {0}
AreHeardOrClosed grid me (deed ∷ past) = IsHeardOrClosed grid me deed past × AreHeardOrClosed grid me past

-- Records that members may have left: integrity on reports, but for those of members that are closed.
pub record IsParted (grid : Grid) : Type 0 where
  pub sound : IsSound grid
  pub heard : (member : ℕ) → AreHeardOrClosed grid member (grid.history member)
