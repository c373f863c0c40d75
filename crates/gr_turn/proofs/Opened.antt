-- What is known of the views of an open lock, and of one view that changes.
use Rattle.std.proofs.Common.{◌+◌, ◌-◌, ◌*◌, ◌<◌, ◌≤◌, length, ◌≡◌, ◌≢◌, ℕ, zero, suc, Bool, true, false, true≢false}
use Rattle.std.proofs.Common.{List, [], ◌∷◌, ◌++◌, set, Option}
use Rattle.std.proofs.Common.{Some, None, refl, sym, ap, ◌∙◌, subst, ⊎_elim}
use mathlib.Core.Option.{some, some-injective, some-ne-none}
use lib.ListN.{get_elem?}
use Rattle.atomic_table.specs.Table.{State}
use Rattle.atomic_table.proofs.Lists.{at_set, set_else}
use Rattle.gr_turn.specs.declared.view.View.{View}
use Rattle.gr_turn.specs.Views.{times, total, count_from, bit}
use Rattle.gr_turn.specs.Rule.{Fits, IsSound, IsHome, Opened, Shut, Holds}
use Rattle.gr_value.specs.Lists.{StartsWith}

pub none_some : {X : Type 0} (x : X) → None ≡ Some x → ⊥
none_some x e = cc

pub some_same : {X : Type 0} (a b : X) → Some a ≡ Some b → a ≡ b
some_same a b e = cc

pub cons_none : {X : Type 0} (x : X) (xs : List X) → x ∷ xs ≡ [] → ⊥
cons_none x xs e = cc

pub append_none : {X : Type 0} (xs ys : List X) → xs ++ ys ≡ [] → xs ≡ []
append_none [] ys e = refl
append_none (x ∷ xs) ys e = absurd (cons_none x (xs ++ ys) e)

module _ {E B : Type 0} where
  -- what is known of a view after one seat's view became w
  pub each_set : {list' : List E} {base : B} {seats opening dealt' : ℕ} {out' : Bool} {holder' root : ℕ} (views : List (View E B))
      (id : ℕ) (w : View E B)
      → ((by : ℕ) (v : View E B) → by ≢ id → get_elem? views by ≡ some v → v.opened ≡ true
      → Fits list' base seats opening dealt' out' holder' root by v)
      → (w.opened ≡ true → Fits list' base seats opening dealt' out' holder' root id w)
      → (by : ℕ) (v : View E B) → get_elem? (set views id w) by ≡ some v → v.opened ≡ true
      → Fits list' base seats opening dealt' out' holder' root by v
  each_set {list'} {base} {seats} {opening} {dealt'} {out'} {holder'} {root} views id w others mine by v e =
      ⊎_elim
      (λ (x : (by ≡ id) × (w ≡ v)). subst (λ (y : ℕ × View E B). y.1.opened ≡ true
      → Fits list' base seats opening dealt' out' holder' root y.0 y.1) (λ i. (sym x.0 i, x.1 i)) mine)
      (λ (x : (by ≢ id) × (get_elem? views by ≡ some v)). others by v x.0 x.1)
      (at_set views id by w v e)

  pub sound_set : (views : List (View E B)) (id : ℕ) (w : View E B)
      → ((by : ℕ) (v : View E B) → get_elem? views by ≡ some v → IsSound v) → IsSound w
      → (by : ℕ) (v : View E B) → get_elem? (set views id w) by ≡ some v → IsSound v
  sound_set views id w others mine by v e =
      ⊎_elim (λ (x : (by ≡ id) × (w ≡ v)). subst (λ (y : View E B). IsSound y) x.1 mine) (λ (x : (by ≢ id)
      × (get_elem? views by ≡ some v)). others by v x.1) (at_set views id by w v e)

  pub mine_sound : (v w : View E B) → v.opened ≡ true → v.parts ≢ [] → w.opened ≡ v.opened → w.parts ≡ v.parts → IsSound w
  mine_sound v w op numbered e f = ((λ none. absurd (numbered (sym f ∙ none))), (λ shut. absurd (true≢false (sym (e ∙ op) ∙ shut))))

  pub set_at : (views : List (View E B)) (id : ℕ) (v w : View E B) → get_elem? views id ≡ some v → get_elem? (set views id w) id ≡ some w
  set_at [] id v w e = absurd (some-ne-none v (sym e))
  set_at (x ∷ xs) zero v w e = refl
  set_at (x ∷ xs) (suc i) v w e = set_at xs i v w e

  -- the two views differ in turn, next, numbers and grabs alone
  abbrev pub IsNear : View E B → View E B → Type 0
  IsNear v w =
      (w.base ≡ v.base)
      × (w.seats ≡ v.seats)
      × (w.opening ≡ v.opening)
      × (w.seen ≡ v.seen)
      × (w.met ≡ v.met)
      × (w.made ≡ v.made)

  pub refit_near : {list list' : List E} {base : B} {seats opening dealt dealt' : ℕ} {out out' : Bool} {holder holder' root by by' : ℕ}
      {v w : View E B}
      → Fits list base seats opening dealt out holder root by v → IsNear v w → StartsWith list' v.seen
      → ((l : List E) → w.turn ≡ Some l → (out' ≡ true) × (by' ≡ holder') × (l ≡ list'))
      → ((n : ℕ) → w.next ≡ Some n → (by' ≡ root) × (n ≡ dealt'))
      → Fits list' base seats opening dealt' out' holder' root by' w
  refit_near {list' = list'} {opening = opening} f same saw held deals = record {
    based = same.0 ∙ f.based;
    counted = same.1 ∙ f.counted;
    began = same.2 ∙ f.began;
    saw = subst (λ (l : List E). StartsWith list' l) (sym same.3) saw;
    near = subst (λ (x : List E × List E). StartsWith x.0 x.1) (λ i. (sym same.3 i, sym same.4 i)) f.near;
    long = subst (λ (l : List E). opening ≤ length l) (sym same.3) f.long;
    held = held;
    deals = deals;
    own = subst (λ (x : List E × List ℕ). (p : ℕ) → 0 < times p x.1 → p < length x.0) (λ i. (sym same.3 i, sym same.5 i)) f.own;
  }

  pub refit : {list list' : List E} {base : B} {seats opening dealt dealt' : ℕ} {out out' : Bool} {holder holder' root by : ℕ}
      {v : View E B}
      → Fits list base seats opening dealt out holder root by v → StartsWith list' v.seen
      → ((l : List E) → v.turn ≡ Some l → (out' ≡ true) × (by ≡ holder') × (l ≡ list'))
      → ((n : ℕ) → v.next ≡ Some n → (by ≡ root) × (n ≡ dealt'))
      → Fits list' base seats opening dealt' out' holder' root by v
  refit f saw held deals = refit_near f (refl, refl, refl, refl, refl, refl) saw held deals

module _ {T E B : Type 0} (entries : T → List E) (base_of : T → B) where
  shut_view : (s : State (Option T) (View E B)) (shut : Shut entries base_of s) (id : ℕ) (v : View E B)
      → get_elem? s.views id ≡ some v → v.opened ≡ false
  shut_view s shut id v at = only id (subst (λ (l : List (View E B)). get_elem? l id ≡ some v) shut.alone at)
    where
      only : (i : ℕ) → get_elem? (shut.view ∷ []) i ≡ some v → v.opened ≡ false
      only zero e = ap (λ (u : View E B). u.opened) (sym (some-injective shut.view v e)) ∙ shut.closed
      only (suc i) e = absurd (some-ne-none v (sym e))

  -- an opened view shows that the lock is open
  pub opened_by : (s : State (Option T) (View E B)) (id : ℕ) (v : View E B) → Holds entries base_of s
      → get_elem? s.views id ≡ some v → v.opened ≡ true → Opened entries base_of s
  opened_by s id v law at op = ⊎_elim (λ (shut : Shut entries base_of s). absurd (true≢false (sym op ∙ shut_view s shut id v at)))
      (λ o. o) law

  -- a step of a seat without a turn leaves the holder's turn
  pub keeps_taken : (s : State (Option T) (View E B)) (o : Opened entries base_of s) (id : ℕ) (v w : View E B)
      → get_elem? s.views id ≡ some v → v.turn ≡ None → o.out ≡ true
      → (u : View E B) × (get_elem? (set s.views id w) o.holder ≡ some u) × (u.turn ≡ Some o.list)
  keeps_taken s o id v w at none out =
      let t = o.taken out in
      let apart : o.holder ≢ id = λ e. none_some o.list (sym none
      ∙ ap (λ (u : View E B). u.turn) (some-injective v t.0 (sym at ∙ subst (λ (i : ℕ). get_elem? s.views i ≡ some t.0) e t.1))
      ∙ t.2) in
      (t.0, set_else s.views id o.holder w apart ∙ t.1, t.2)

  -- what a step of an open lock to the state s has to show: all that doesn't stay as it was
  pub record GoesOn {before : State (Option T) (View E B)} (o : Opened entries base_of before) (s : State (Option T) (View E B))
      (list : List E) (dealt : ℕ) (out : Bool) (holder : ℕ) : Type 0 where
    pub word : s.words ≡ (length list * 2 + bit out) ∷ []
    pub slot : length s.homes ≡ 1
    pub home : out ≡ false → IsHome entries base_of s list o.base
    pub taken : out ≡ true → (v : View E B) × (get_elem? s.views holder ≡ some v) × (v.turn ≡ Some list)
    pub started : o.opening ≤ length list
    pub few : dealt ≤ o.seats
    pub sound : (by : ℕ) (v : View E B) → get_elem? s.views by ≡ some v → IsSound v
    pub each : (by : ℕ) (v : View E B) → get_elem? s.views by ≡ some v → v.opened ≡ true
        → Fits list o.base o.seats o.opening dealt out holder o.root by v
    pub places : (p : ℕ) → total (λ (v : View E B). times p v.made) s.views ≡ times p (count_from o.opening (length list - o.opening))
    pub numbers : (p : ℕ) → total (λ (v : View E B). times p v.parts) s.views ≡ times p (count_from 0 dealt)

  pub gone_on : {before s : State (Option T) (View E B)} (o : Opened entries base_of before) (list : List E) (dealt : ℕ) (out : Bool)
      (holder : ℕ)
      → GoesOn o s list dealt out holder → Opened entries base_of s
  gone_on o list dealt out holder g = record {
    base = o.base;
    seats = o.seats;
    opening = o.opening;
    root = o.root;
    list = list;
    out = out;
    word = g.word;
    slot = g.slot;
    home = g.home;
    dealt = dealt;
    few = g.few;
    numbers = g.numbers;
    holder = holder;
    taken = g.taken;
    started = g.started;
    sound = g.sound;
    each = g.each;
    places = g.places;
  }
