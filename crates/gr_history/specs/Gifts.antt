-- What a member reports of its history, and what it gives a joiner.
use Rattle.std.specs.Prelude.{◌≡◌, ℕ, List, length, reverse}
use Rattle.gr_stamp.specs.declared.change.Change.{Change}
use Rattle.gr_vector.specs.declared.report.Report.{Report}
use Rattle.gr_vector.specs.Ids.{Ids, top}
use Rattle.gr_history.specs.declared.identity.Identity.{Identity}
use Rattle.gr_history.specs.declared.deed.Deed.{Deed}
use Rattle.gr_history.specs.declared.image.Gift.{Gift}
use Rattle.gr_history.specs.declared.image.Gift.TheVariants as gift
use Rattle.gr_history.specs.declared.image.Image.{Image}
use Rattle.gr_history.specs.declared.image.What.{What}
use Rattle.gr_history.specs.declared.image.What.TheVariants as what
use Rattle.gr_history.specs.Ids.{ids, known}
use Rattle.gr_history.specs.Made.{made}
use Rattle.gr_history.specs.Floor.{floor}
use Rattle.gr_history.specs.Recipients.{recipients}
use Rattle.gr_history.specs.Regions.{all_standing}

-- a vector of all that a history knows, with no room to spare, as copies have it
abbrev pub vector_of : List Deed → Ids
vector_of past = record { ids = known past; spare = 0 }

-- What a member reports of its history: its length, the member's last region version, the members that its
-- changes go to, and all ids that are known.
abbrev pub report_of : Identity → List Deed → Report
report_of id past = record {
  member = id.member;
  at = length past;
  own = top id.member (ids past);
  to = recipients id past;
  vector = vector_of past;
}

-- the same, but for room to spare
pub record IsReportOf (id : Identity) (past : List Deed) (report : Report) : Type 0 where
  pub member_is : report.member ≡ (report_of id past).member
  pub at_is : report.at ≡ (report_of id past).at
  pub own_is : report.own ≡ (report_of id past).own
  pub to_is : report.to ≡ (report_of id past).to
  pub vector_is : report.vector.ids ≡ (report_of id past).vector.ids

-- The image that a member gives: what stands, all ids that are known, and the floor.
abbrev pub image_of : ℕ → ℕ → List Deed → Image
image_of giver opening past = record {
  from = giver;
  at = length past;
  rows = all_standing past;
  vector = vector_of past;
  floor = floor opening past;
}

-- the same, but for room to spare
pub record IsImageOf (giver opening : ℕ) (past : List Deed) (image : Image) : Type 0 where
  pub giver_is : image.from ≡ (image_of giver opening past).from
  pub at_is : image.at ≡ (image_of giver opening past).at
  pub rows_are : image.rows ≡ (image_of giver opening past).rows
  pub vector_is : image.vector.ids ≡ (image_of giver opening past).vector.ids
  pub floor_is : image.floor ≡ (image_of giver opening past).floor

-- a member's own changes, in the order in which it made them
abbrev pub own_changes : List Deed → List Change
own_changes past = reverse (made past)

-- a gift is the image or the own changes
abbrev pub IsGiftOf : ℕ → ℕ → List Deed → What → Gift → Type 0
IsGiftOf giver opening past what.Image (gift.Image image) = IsImageOf giver opening past image
IsGiftOf giver opening past what.Image (gift.Own changes) = ⊥
IsGiftOf giver opening past what.Own (gift.Image image) = ⊥
IsGiftOf giver opening past what.Own (gift.Own changes) = changes ≡ own_changes past
