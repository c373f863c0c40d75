-- What holds between any two steps of a lock, and what each step tells.
use Rattle.std.specs.Prelude.{◌≡◌, ◌≢◌, ℕ, ◌+◌, ◌-◌, ◌*◌, ◌%◌, ◌<◌, ◌≤◌, ◌⊎◌, Bool, true, false, List, [], ◌∷◌, length, Option, Some, None}
use mathlib.Core.Option.{some}
use lib.ListN.{get_elem?}
use Rattle.atomic_table.specs.Table.{State, Me}
use Rattle.gr_turn.specs.declared.view.View.{View}
use Rattle.gr_turn.specs.Views.{times, total, count_from, bit, won_by, lost_by, left_by, claimed, root_view, IsAccounted}
use Rattle.gr_value.specs.Lists.{StartsWith}

module _ {E B : Type 0} where
  -- what holds of the view v of the seat by
  pub record Fits (list : List E) (base : B) (seats opening dealt : ℕ) (out : Bool) (holder root by : ℕ) (v : View E B) : Type 0 where
    pub based : v.base ≡ Some base
    pub counted : v.seats ≡ seats
    pub began : v.opening ≡ opening
    pub saw : StartsWith list v.seen
    pub near : StartsWith v.seen v.met
    pub long : opening ≤ length v.seen
    pub held : (l : List E) → v.turn ≡ Some l → (out ≡ true) × (by ≡ holder) × (l ≡ list)
    pub deals : (n : ℕ) → v.next ≡ Some n → (by ≡ root) × (n ≡ dealt)
    pub own : (p : ℕ) → 0 < times p v.made → p < length v.seen

  -- a view without a number has made nothing, and has no turn; a seat that was joined to another has no number
  abbrev pub IsSound : View E B → Type 0
  IsSound v = (v.parts ≡ [] → (v.made ≡ []) × (v.turn ≡ None)) × (v.opened ≡ false → (v.next ≡ None) × (v.parts ≡ []))

module _ {T E B : Type 0} (entries : T → List E) (base_of : T → B) where
  -- the slot has a value, which has this list and this base
  abbrev pub IsHome : State (Option T) (View E B) → List E → B → Type 0
  IsHome s list base = (x : T) × (get_elem? s.homes 0 ≡ some (some (Some x))) × (entries x ≡ list) × (base_of x ≡ base)

  -- the lock has had its value, which has the list and the base; each place added is in one view's `made`
  pub record Opened (s : State (Option T) (View E B)) : Type 0 where
    pub list : List E
    pub base : B
    pub seats : ℕ
    pub opening : ℕ
    pub dealt : ℕ
    pub out : Bool
    pub holder : ℕ
    pub root : ℕ
    pub word : s.words ≡ (length list * 2 + bit out) ∷ []
    pub slot : length s.homes ≡ 1
    pub home : out ≡ false → IsHome s list base
    pub taken : out ≡ true → (v : View E B) × (get_elem? s.views holder ≡ some v) × (v.turn ≡ Some list)
    pub started : opening ≤ length list
    pub few : dealt ≤ seats
    pub sound : (by : ℕ) (v : View E B) → get_elem? s.views by ≡ some v → IsSound v
    pub each : (by : ℕ) (v : View E B) → get_elem? s.views by ≡ some v → v.opened ≡ true
        → Fits list base seats opening dealt out holder root by v
    pub places : (p : ℕ) → total (λ (v : View E B). times p v.made) s.views ≡ times p (count_from opening (length list - opening))
    pub numbers : (p : ℕ) → total (λ (v : View E B). times p v.parts) s.views ≡ times p (count_from 0 dealt)

  -- the first seat has not opened the lock yet
  pub record Shut (s : State (Option T) (View E B)) : Type 0 where
    pub view : View E B
    pub alone : s.views ≡ view ∷ []
    pub closed : view.opened ≡ false
    pub word : s.words ≡ 1 ∷ []
    pub slot : length s.homes ≡ 1
    pub home : view.won ≡ 0 → get_elem? s.homes 0 ≡ some (some None)

  -- what holds between any two steps
  abbrev pub Holds : State (Option T) (View E B) → Type 0
  Holds s = Shut s ⊎ Opened s

  -- the seat has the slot with the value, whose list begins with what the seat had seen
  abbrev pub Won : Me (Option T) (View E B) → T → Me (Option T) (View E B) → Type 0
  Won m x n =
      (n.0 ≡ won_by m.0 (entries x)) × (n.1 ≡ (0, Some x) ∷ []) × (m.0.base ≡ Some (base_of x)) × StartsWith (entries x) m.0.seen

  -- won where the word found is even, and else lost
  abbrev pub Grabbed : Me (Option T) (View E B) → ℕ → Me (Option T) (View E B) → Type 0
  Grabbed m r n =
      (r % 2 ≡ 0 → (x : T) × Won m x n)
      × (r % 2 ≢ 0 → (n.0 ≡ lost_by m.0 r) × (n.1 ≡ []))

  -- the value that the slot has goes home
  abbrev pub Released : Me (Option T) (View E B) → ℕ → Me (Option T) (View E B) → Type 0
  Released m r n = (x : T) → m.1 ≡ (0, Some x) ∷ [] → (n.0 ≡ left_by m.0 (entries x)) × (n.1 ≡ [])

  -- the first seat takes the empty slot
  abbrev pub Claimed : Me (Option T) (View E B) → ℕ → Me (Option T) (View E B) → Type 0
  Claimed m r n = (n.0 ≡ claimed m.0) × (n.1 ≡ (0, None) ∷ [])

  -- the slot goes home with the first value
  abbrev pub Opens : Me (Option T) (View E B) → ℕ → Me (Option T) (View E B) → Type 0
  Opens m r n = (x : T) → m.1 ≡ (0, Some x) ∷ [] → (n.0 ≡ root_view (base_of x) m.0.seats (entries x) 0) × (n.1 ≡ [])

  -- a load that changes nothing
  abbrev pub Looked : Me (Option T) (View E B) → ℕ → Me (Option T) (View E B) → Type 0
  Looked m r n = (n.0 ≡ m.0) × (n.1 ≡ m.1) × IsAccounted m.0
