-- The ways of a courier to its inboxes.
use Rattle.std.specs.Prelude.{
  ◌≡◌,
  ℕ,
  Bool,
  true,
  false,
  ◌+◌,
  ◌≤◌,
  ◌<◌,
  List,
  [],
  ◌∷◌,
  ◌++◌,
  Option,
  Some,
  None,
  length,
  map,
  slice_index_or,
  if◌then◌else◌,
}
use Rattle.std.specs.declared.collections.VecDeque.{VecDeque}
use Rattle.std.specs.VecDeque.{deque_len, deque_capacity}
use Rattle.gr_post.specs.declared.mail.Mail.{Mail}
use Rattle.gr_post.specs.declared.mail.Mail.TheVariants.{End}
use Rattle.gr_post.specs.declared.fate.Held.{Held}
use Rattle.gr_post.specs.declared.fate.Fate.{Fate}
use Rattle.gr_post.specs.declared.fate.Fate.TheVariants.{Once, Twice, Hold, Last}
use Rattle.gr_post.specs.Passes.{Ring, Sending}
use Rattle.gr_post.specs.Plan.{is_named, number_before, fate, released_by, held_by}
use Rattle.gr_value.specs.Counts.{Rose}
use Rattle.gr_value.specs.Drawing.{drawn}

-- the way to one inbox: its pass, what waits, what is held back, and what was made ready
pub record Way : Type 0 where
  pub pass : Sending
  pub waiting : List Mail
  pub held : List Held
  pub ready : Option Fate

-- at its beginning
abbrev pub new_way : Sending → Way
new_way pass = record { pass = pass; waiting = []; held = []; ready = None }

abbrev pub pass_of : Way → Sending
pass_of way = way.pass

-- mails that are held back to the end
abbrev pub to_the_end : List Mail → List Held
to_the_end mails = map (λ mail. record { mail = mail; left = 0 }) mails

-- The room that a deque has, and how much of it is taken.
pub record Filled : Type 0 where
  pub len : ℕ
  pub room : ℕ

abbrev pub filled : {X A : Type 0} → VecDeque X A → Filled
filled deque = record { len = deque_len deque; room = deque_capacity deque }

-- there is room for a mail that is released twice, or held back
pub record HasRoomForMail (waiting late held : Filled) : Type 0 where
  pub released : waiting.len + held.len + 2 ≤ waiting.room
  pub held_back : held.len + 1 ≤ held.room
  pub set_aside : late.len + held.len + 1 ≤ late.room

-- there is room for what was made ready, and for an End where nothing waits
abbrev pub HasRoomFor : Filled → Filled → Filled → Option Fate → Type 0
HasRoomFor waiting late held None = 1 ≤ waiting.room
HasRoomFor waiting late held (Some (Once mail)) = HasRoomForMail waiting late held
HasRoomFor waiting late held (Some (Twice mail copy)) = HasRoomForMail waiting late held
HasRoomFor waiting late held (Some (Hold one)) = HasRoomForMail waiting late held
HasRoomFor waiting late held (Some Last) = waiting.len + late.len + held.len + 1 ≤ waiting.room

abbrev pub HasRoom : {A : Type 0} → VecDeque Mail A → VecDeque Mail A → VecDeque Held A → Option Fate → Type 0
HasRoom waiting late held ready = HasRoomFor (filled waiting) (filled late) (filled held) ready

-- the part of a fate that is released at once, and the part that is held back
abbrev pub at_once : Fate → List Mail
at_once (Once mail) = mail ∷ []
at_once (Twice mail copy) = mail ∷ copy ∷ []
at_once (Hold one) = []
at_once Last = []

abbrev pub later : Fate → List Held
later (Once mail) = []
later (Twice mail copy) = []
later (Hold one) = one ∷ []
later Last = []

-- after what was made ready has happened
abbrev pub settled_by : Option Fate → Way → Way
settled_by None way = way
settled_by (Some fate) way = record way { waiting = way.waiting ++ released_by fate way.held; held = held_by fate way.held; ready = None }

abbrev pub settled : Way → Way
settled way = settled_by way.ready way

abbrev pub is_none : List Mail → Bool
is_none [] = true
is_none (x ∷ xs) = false

-- the first of what waited was sent
pub record Moves (old new : Way) : Type 0 where
  pub gone : List Mail
  pub waiting : old.waiting ≡ gone ++ new.waiting
  pub pass : new.pass ≡ record old.pass { sent = old.pass.sent ++ gone; refused = new.pass.refused }
  pub rises : old.pass.refused ≤ new.pass.refused
  pub held : new.held ≡ old.held

-- after something was made ready
abbrev pub ready_with : Option Fate → Way → Way
ready_with ready way = record way { ready = ready }

-- after a mail was made ready, where it goes there; x is the number before it
abbrev pub ready_by : Mail → Bool → ℕ → Way → Way
ready_by mail named x way = ready_with (if named then Some (fate mail (drawn x)) else None) way

-- the same at place k; x is the number before all recipients
abbrev pub ready_for : Mail → ℕ → ℕ → ℕ → Way → Way
ready_for mail to x k way = ready_by mail (is_named to k) (number_before x to k) way

-- nothing is left but an End
abbrev pub stopped : Way → Way
stopped way = record { pass = way.pass; waiting = End ∷ []; held = []; ready = None }

-- each inbox is the one that the pass at its place is of
abbrev pub AreTheirs : List Ring → List Way → Type 0
AreTheirs rings ways = (length rings ≡ length ways)
    × ((k : ℕ) (r : Ring) (d : Way) → k < length ways → (slice_index_or ways k d).pass.table ≡ (slice_index_or rings k r).table)

-- nothing waits anywhere
abbrev pub NoneWaits : List Way → Type 0
NoneWaits ways = (k : ℕ) (d : Way) → k < length ways → (slice_index_or ways k d).waiting ≡ []

-- at each place where something waits the count of refusals rose
abbrev pub AreTried : List Way → List Way → Type 0
AreTried old new = (k : ℕ) (d : Way) → k < length new → is_none (slice_index_or new k d).waiting ≡ false →
    Rose (slice_index_or old k d).pass.refused (slice_index_or new k d).pass.refused

-- at some place something waits, and there the count of refusals rose
abbrev pub WasRefused : List Way → List Way → Type 0
WasRefused old new = (k : ℕ) × (k < length new) × ((d : Way) → (is_none (slice_index_or new k d).waiting ≡ false)
    × Rose (slice_index_or old k d).pass.refused (slice_index_or new k d).pass.refused)
