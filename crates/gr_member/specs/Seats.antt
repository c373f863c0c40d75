-- A seat at one shard with its eye, before and after a turn.
use Rattle.std.specs.Prelude.{◌≡◌, ℕ, ◌≤◌, Bool, true, false, List, [], ◌∷◌, ◌++◌, length, reverse, Option, Some, None, Result, IfOk}
use mathlib.Core.List.{IsPrefix}
use Rattle.atomic_table.specs.Seated.{TableId}
use Rattle.gr_history.specs.declared.deed.Deed.{Deed}
use Rattle.gr_history.specs.declared.deed.Deed.TheVariants.{Gave}
use Rattle.gr_history.specs.declared.identity.Identity.{Identity}
use Rattle.gr_history.specs.declared.image.Gift.{Gift}
use Rattle.gr_history.specs.declared.image.What.{What}
use Rattle.gr_history.specs.Gifts.{IsGiftOf}
use Rattle.gr_history.specs.Recipients.{NamesMembers}
use Rattle.gr_history.specs.Room.{HasNoRoom}
use Rattle.gr_peek.specs.declared.eye.PeekEnd.{PeekEnd}
use Rattle.gr_peek.specs.declared.eye.Seen.{Seen}
use Rattle.gr_peek.specs.Entering.{Follows, IsEntered, new_eye}
use Rattle.gr_peek.specs.Publications.{present_after}
use Rattle.gr_peek.specs.Views.{Watching}
use Rattle.gr_peek_law.specs.Turns.{turned_each}
use Rattle.gr_shard.specs.Merges.{IsGiftFor}
use Rattle.gr_shard.specs.Prepared.{Gives as GivesBy}
use Rattle.gr_shard.specs.declared.next.Came.{Came}
use Rattle.gr_shard.specs.declared.next.Next.{Next}
use Rattle.gr_value.specs.Lists.{StartsWith}
use Rattle.gr_turn.specs.declared.view.View.{View}
use Rattle.gr_turn.specs.Views.{Seated, MadeAll, MadeOnce, unopened}
use Rattle.gr_member.specs.declared.replica.Origin.{Origin}

-- a seat and an eye, as callers see them: the seat's lock, what the seat knows, and what the eye knows
pub record Place : Type 0 where
  pub lock : TableId
  pub view : View Deed Origin
  pub eye : Watching

abbrev pub placed : Seated Deed Origin → Watching → Place
placed seat eye = record { lock = seat.lock; view = seat.view; eye = eye }

abbrev pub no_seat : Seated Deed Origin
no_seat = record {
  lock = record { words = 0; slots = 0; views_name = 0; atom = 0; block = 0; offset = 0; slot_names = [] };
  view = unopened 0;
}

abbrev pub nowhere : Place
nowhere = placed no_seat (new_eye false (record { number = 0; log_name = 0; cells_name = 0 }))

-- the seat, where there is one
abbrev pub seat_in : Option (Seated Deed Origin) → Seated Deed Origin
seat_in (Some seat) = seat
seat_in None = no_seat

abbrev pub is_there : {X : Type 0} → Option X → Bool
is_there (Some x) = true
is_there None = false

-- What no turn and no peek changes; the eye forgets nothing.
pub record Stays (s t : Place) : Type 0 where
  pub its : t.lock ≡ s.lock
  pub based : t.view.base ≡ s.view.base
  pub counted : t.view.seats ≡ s.view.seats
  pub began : t.view.opening ≡ s.view.opening
  pub numbers : t.view.parts ≡ s.view.parts
  pub watches : Follows s.eye t.eye

-- More was seen, and nothing was added.
pub record Looks (s t : Place) : Type 0 where
  pub stays : Stays s t
  pub seen : StartsWith t.view.seen s.view.seen
  pub made : t.view.made ≡ s.view.made
  pub won : s.view.won ≤ t.view.won

-- One deed was added behind these, which begin with all that the seat had seen.
pub record AddsBehind (before : List Deed) (s : Place) (deed : Deed) (t : Place) : Type 0 where
  pub stays : Stays s t
  pub known : StartsWith before s.view.seen
  pub seen : t.view.seen ≡ before ++ deed ∷ []
  pub made : t.view.made ≡ s.view.made ++ length before ∷ []

-- One deed was added.
abbrev pub Adds : Place → Deed → Place → Type 0
Adds s deed t = (before : List Deed) × AddsBehind before s deed t

-- One deed was added: the one that the shard of this origin adds where this is done and so answered.
pub record Acts (s : Place) (to_do : Next) (came : Came) (t : Place) : Type 0 where
  pub origin : Origin
  pub based : s.view.base ≡ Some origin
  pub before : List Deed
  pub deed : Deed
  pub adds : AddsBehind before s deed t
  pub gives : GivesBy origin.id origin.opening (reverse before) to_do came deed
  pub named : NamesMembers origin.id deed

-- The deed of a gift was added; the gift is that of the deeds before it.
pub record Gives (id : Identity) (opening : ℕ) (s : Place) (to : ℕ) (what : What) (gift : Gift) (t : Place) : Type 0 where
  pub before : List Deed
  pub adds : AddsBehind before s (Gave to what) t
  pub given : IsGiftOf id.member opening (reverse before) what gift
  pub fits : IsGiftFor id gift
  pub room : HasNoRoom gift

-- The eye entered or was denied, and nothing else was changed. What it then knows begins with what the deeds turned that the seat has
-- seen, and the value is what is present after that; its place is how many deeds that is.
pub record Peeks (key : List ℕ) (result : Result Seen PeekEnd) (s t : Place) : Type 0 where
  pub its : t.lock ≡ s.lock
  pub same : t.view ≡ s.view
  pub entered : IsEntered result s.eye t.eye
  pub behind : IfOk result (λ _. IsPrefix (turned_each (reverse t.view.seen)) t.eye.known)
  pub value : IfOk result (λ seen. seen.value ≡ present_after t.eye.known key)
  pub at : IfOk result (λ seen. seen.at ≡ length t.eye.known)

-- The eye knows what the deeds turned that the seat has then seen, and no more.
pub record LooksUp (s t : Place) : Type 0 where
  pub looks : Looks s t
  pub known : t.eye.known ≡ turned_each (reverse t.view.seen)

-- What two seats knew is known, and no place is both's; a seat with all numbers has made all that was seen.
pub record Meets (s r t : Place) : Type 0 where
  pub its : t.lock ≡ s.lock
  pub based : t.view.base ≡ s.view.base
  pub counted : t.view.seats ≡ s.view.seats
  pub began : t.view.opening ≡ s.view.opening
  pub numbers : t.view.parts ≡ s.view.parts ++ r.view.parts
  pub made : t.view.made ≡ s.view.made ++ r.view.made
  pub first : StartsWith t.view.seen s.view.seen
  pub second : StartsWith t.view.seen r.view.seen
  pub once : MadeOnce t.view
  pub all : MadeAll t.view (length t.view.seen)
  pub watches : Follows s.eye t.eye
