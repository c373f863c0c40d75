-- Plain words on lists and views.
use Rattle.atomic_table.specs.Table.{Me}
use Rattle.atomic_table.specs.Seated.{TableId}
use Rattle.std.specs.Prelude.{◌≡◌, ◌≢◌, ℕ, suc, zero, ◌+◌, ◌-◌, ◌<◌, ◌≤◌, ◌==◌, Bool, true, false, List, [], ◌∷◌, ◌++◌, length, Option}
use Rattle.std.specs.Prelude.{Some, None, cond}
use Rattle.std.proofs.Math.Dec.{leb}
use Rattle.gr_turn.specs.declared.view.View.{View}
use Rattle.gr_value.specs.Lists.{StartsWith}

-- how often p stands in the list
abbrev pub times : ℕ → List ℕ → ℕ
times p [] = 0
times p (x ∷ xs) = cond (p == x) 1 0 + times p xs

-- f of each, added up
abbrev pub total : {V : Type 0} → (V → ℕ) → List V → ℕ
total f [] = 0
total f (v ∷ vs) = f v + total f vs

-- n numbers from a on
abbrev pub count_from : ℕ → ℕ → List ℕ
count_from a zero = []
count_from a (suc n) = a ∷ count_from (suc a) n

abbrev pub bit : Bool → ℕ
bit true = 1
bit false = 0

abbrev pub list_in : {E : Type 0} → Option (List E) → List E
list_in (Some l) = l
list_in None = []

abbrev pub is_out : {X : Type 0} → Option X → Bool
is_out (Some l) = true
is_out None = false

abbrev pub dealt_of : Option ℕ → ℕ
dealt_of (Some k) = k
dealt_of None = 0

abbrev pub longer : {E : Type 0} → List E → List E → List E
longer xs ys = cond (leb (length xs) (length ys)) ys xs

abbrev pub shorter : {E : Type 0} → List E → List E → List E
shorter xs ys = cond (leb (length xs) (length ys)) xs ys

module _ {E B : Type 0} where
  -- the view before the lock is open, and of a seat that was joined to another
  abbrev pub unopened : ℕ → View E B
  unopened seats = record {
    opened = false;
    base = None;
    seats = seats;
    opening = 0;
    seen = [];
    met = [];
    made = [];
    parts = [];
    won = 0;
    lost = 0;
    word = 0;
    turn = None;
    next = None;
  }

  -- the first view, while the lock is not open; it has the slot where won is 1
  abbrev pub fresh : ℕ → View E B
  fresh seats = record (unopened seats) { next = Some 0 }

  -- the first view, once it has the empty slot
  abbrev pub claimed : View E B → View E B
  claimed v = record v { won = 1 }

  -- the view of the root, which has dealt the numbers below k
  abbrev pub root_view : B → ℕ → List E → ℕ → View E B
  root_view base seats list k = record
      (unopened seats) { opened = true; base = Some base; opening = length list; seen = list; next = Some k }

  -- the view of the seat k, as `new` gives it
  abbrev pub seat_view : B → ℕ → List E → ℕ → View E B
  seat_view base seats list k = record (root_view base seats list k) { parts = k ∷ []; next = None }

  -- the root after it gave its next number, and the seat that got it
  abbrev pub deal_left : View E B → View E B
  deal_left v = record v { next = Some (suc (dealt_of v.next)) }

  abbrev pub deal_right : View E B → View E B
  deal_right v = record v { parts = dealt_of v.next ∷ []; next = None }

  -- the first of two seats after a join
  abbrev pub both : View E B → View E B → View E B
  both v w = record v {
    seen = longer v.seen w.seen;
    met = shorter v.seen w.seen;
    made = v.made ++ w.made;
    parts = v.parts ++ w.parts;
    won = v.won + w.won;
    lost = v.lost + w.lost;
  }

  -- it has all numbers of its lock
  abbrev pub HasAll : View E B → Type 0
  HasAll v = (n : ℕ) → n < v.seats → 0 < times n v.parts

  -- a view with all numbers has made each place below n that was added since the opening
  abbrev pub MadeAll : View E B → ℕ → Type 0
  MadeAll v n = HasAll v → (p : ℕ) → v.opening ≤ p → p < n → 0 < times p v.made

  -- no place was made twice
  abbrev pub MadeOnce : View E B → Type 0
  MadeOnce v = (p : ℕ) → times p v.made ≤ 1

  -- what holds of each view after a join; what was seen begins with what was met
  abbrev pub IsAccounted : View E B → Type 0
  IsAccounted v = MadeOnce v × MadeAll v (length v.seen) × StartsWith v.seen v.met

  -- after a grab that found the word even, with the list of the value
  abbrev pub won_by : View E B → List E → View E B
  won_by v list = record v { turn = Some list; won = v.won + 1 }

  -- after a grab that found this odd word
  abbrev pub lost_by : View E B → ℕ → View E B
  lost_by v word = record v { lost = v.lost + 1; word = word }

  -- the list that the turn found
  abbrev pub found : View E B → List E
  found v = list_in v.turn

  -- after grabs that brought the lost ones to n, the last of which found the word
  abbrev pub with_lost : View E B → ℕ → ℕ → View E B
  with_lost v n word = record v { lost = n; word = word }

  -- after a turn that left the list
  abbrev pub left_by : View E B → List E → View E B
  left_by v list =
      record v { turn = None; seen = list; made = v.made ++ count_from (length (found v)) (length list - length (found v)) }

module _ {S E B : Type 0} where
  -- a seat that has a number, no turn and no slot
  abbrev pub IsIdle : Me S (View E B) → Type 0
  IsIdle m = (m.1 ≡ []) × (m.0.opened ≡ true) × (m.0.turn ≡ None) × (m.0.next ≡ None) × (m.0.parts ≢ [])

  -- a first seat that can deal one more number
  abbrev pub IsRoot : Me S (View E B) → Type 0
  IsRoot m =
      (m.1 ≡ [])
      × (m.0.opened ≡ true)
      × (m.0.turn ≡ None)
      × (m.0.parts ≡ [])
      × (is_out m.0.next ≡ true)
      × (dealt_of m.0.next < m.0.seats)

-- a seat, as its callers see it
pub record Seated (E B : Type 0) : Type 0 where
  pub lock : TableId
  pub view : View E B

-- a turn, as its callers see it
pub record Turned (T E B : Type 0) : Type 0 where
  pub lock : TableId
  pub view : View E B
  pub value : T

module _ {S E B : Type 0} where
  -- a seat that has the turn, and the slot, which is empty
  abbrev pub IsHolding : Me (Option S) (View E B) → Type 0
  IsHolding m =
      (m.1 ≡ (0, None) ∷ [])
      × (m.0.opened ≡ true)
      × (is_out m.0.turn ≡ true)
      × (m.0.next ≡ None)
      × (m.0.parts ≢ [])
