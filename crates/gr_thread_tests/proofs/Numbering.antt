-- What calls and meetings leave of a pass's numbers.
use Rattle.std.proofs.Common.{◌≡◌, ◌≢◌, ℕ, ◌+◌, ◌-◌, ◌<◌, ◌≤◌, List, [], ◌∷◌, ◌++◌, length, get_or, refl, sym, ap, ◌∙◌, subst, arith}
use Rattle.std.proofs.Common.{eq-eqb, length-append}
use Rattle.std.proofs.lemmas.List.{get_or_push, get_or_append_left}
use Rattle.std.specs.Prelude.{◌==◌, Bool, min, cond, vec_len}
use Rattle.std.specs.declared.vec.Vec.{Vec}
use mathlib.Core.Logic.{dite}
use native.Mathlib.Decide.{ℕ_discrete}
use Rattle.gr_turn.specs.Views.{times}
use Rattle.gr_turn.proofs.Counts.{times-append}
use Rattle.gr_member.specs.Seats.{Place}
use Rattle.gr_member.specs.Passes.{House, StaysAll, MeetsAll, HaveAll}
use Rattle.gr_member.specs.Fresh.{IsFresh, AreFresh}
use Rattle.gr_member.proofs.Passing.{pass_stays, pass_meets, stays_same}
use Rattle.gr_thread_tests.specs.Numbers.{HasNumbers, IsOfSlot}

one_is : (n : ℕ) → cond {A = ℕ} (n == n) 1 0 ≡ 1
one_is n = ap (λ (b : Bool). cond {A = ℕ} b 1 0) (eq-eqb n n refl)

once : (n : ℕ) → 0 < times n (n ∷ [])
once n = let e = one_is n in omega (arith, e)

pub has_fresh : (house : House) (passes n : ℕ) (p : List Place) → IsFresh house passes n p → HasNumbers house passes n (n + 1) p
has_fresh house passes n p f = record {
  its = f.its;
  counted = λ k s b. (f.fresh k s b).counted;
  numbers = λ k m s b l u.
      let e : m ≡ n = omega arith in
      subst (λ (z : List ℕ). 0 < times m z) (sym (f.fresh k s b).numbers) (subst (λ (i : ℕ). 0 < times i (n ∷ [])) (sym e) (once n));
}

pub has_stays : (house : House) (passes low high : ℕ) (p q : List Place) → HasNumbers house passes low high p → StaysAll p q
    → HasNumbers house passes low high q
has_stays house passes low high p q h s = record {
  its = pass_stays house p q h.its s;
  counted = λ k x b.
      let c : k < length p = subst (λ (i : ℕ). k < i) s.many b in
      (s.each k x c).counted ∙ h.counted k x c;
  numbers = λ k n x b l u.
      let c : k < length p = subst (λ (i : ℕ). k < i) s.many b in
      subst (λ (z : List ℕ). 0 < times n z) (sym (s.each k x c).numbers) (h.numbers k n x c l u);
}

-- one of two lists has the number
in_both : (n middle : ℕ) (xs ys : List ℕ) → (n < middle → 0 < times n xs) → (middle ≤ n → 0 < times n ys) → 0 < times n (xs ++ ys)
in_both n middle xs ys f g =
    let both = times-append n xs ys in
    dite (ℕ_discrete (min (n + 1) middle) (n + 1))
    (λ (e : min (n + 1) middle ≡ n + 1). let has = f (omega arith) in omega arith)
    (λ (e : min (n + 1) middle ≢ n + 1). let has = g (omega arith) in omega arith)

pub has_meets : (house : House) (passes low middle high : ℕ) (p r q : List Place) → HasNumbers house passes low middle p
    → HasNumbers house passes middle high r → MeetsAll p r q → HasNumbers house passes low high q
has_meets house passes low middle high p r q h j m = record {
  its = pass_meets house p r q h.its m;
  counted = λ k x b.
      let c : k < length p = subst (λ (i : ℕ). k < i) m.many b in
      (m.each k x x c).counted ∙ h.counted k x c;
  numbers = λ k n x b l u.
      let c : k < length p = subst (λ (i : ℕ). k < i) m.many b in
      let d : k < length r = subst (λ (i : ℕ). k < i) (h.its.many ∙ sym j.its.many) c in
      subst (λ (z : List ℕ). 0 < times n z) (sym (m.each k x x c).numbers)
      (in_both n middle (get_or p k x).view.parts (get_or r k x).view.parts (λ e. h.numbers k n x c l e) (λ e. j.numbers k n x d e u));
}

pub has_all : (house : House) (passes : ℕ) (p : List Place) → HasNumbers house passes 0 passes p → HaveAll p
has_all house passes p h k s b n c = h.numbers k n s b (omega arith) (subst (λ (i : ℕ). n < i) (h.counted k s b) c)

pub all_same : (p : List Place) → StaysAll p p
all_same p = record { many = refl; each = λ k s b. stays_same (get_or p k s) }

-- ---- the passes that are left in a list, each of its own number

abbrev pub AreOwn : House → List (List Place) → Type 0
AreOwn house left = (n : ℕ) (p : List Place) → n < length left → HasNumbers house 8 n (n + 1) (get_or left n p)

pub own_fresh : (house : House) (left : List (List Place)) → length left ≡ 8 → AreFresh house 8 left → AreOwn house left
own_fresh house left e f n p b = has_fresh house 8 n (get_or left n p) (f n p (subst (λ (i : ℕ). n < i) e b))

pub own_last : (house : House) (all less : List (List Place)) (x : List Place) → AreOwn house all → all ≡ less ++ x ∷ []
    → AreOwn house less × HasNumbers house 8 (length less) (length less + 1) x
own_last house all less x h e =
    let m : length all ≡ length less + 1 = ap length e ∙ length-append less (x ∷ []) in (
      λ n p b. subst (HasNumbers house 8 n (n + 1))
          (ap (λ (z : List (List Place)). get_or z n p) e ∙ get_or_append_left less (x ∷ []) p n b) (h n p (omega arith)),
      subst (HasNumbers house 8 (length less) (length less + 1))
          (ap (λ (z : List (List Place)). get_or z (length less) x) e ∙ get_or_push less x x (length less) refl)
          (h (length less) x (omega arith)),
    )

-- ---- slots, each of which has the pass of its place

abbrev pub AreOfSlots : {X : Type 0} → (X → List Place) → House → List X → ℕ → Type 0
AreOfSlots {X} pass_of house slots n = (k : ℕ) (d : X) → k < n → IsOfSlot house k (pass_of (get_or slots k d))

pub slots_more : {X : Type 0} (pass_of : X → List Place) (house : House) (slots more : List X) (x : X) (n : ℕ)
    → AreOfSlots pass_of house slots n → more ≡ slots ++ x ∷ [] → length slots ≡ n → IsOfSlot house n (pass_of x)
    → AreOfSlots pass_of house more (n + 1)
slots_more pass_of house slots more x n h e l i k d b = dite (ℕ_discrete k n)
    (λ (s : k ≡ n). subst (λ (j : ℕ). IsOfSlot house j (pass_of (get_or more k d))) (sym s)
    (subst (λ (z : _). IsOfSlot house n (pass_of z))
    (sym (ap (λ (z : List _). get_or z k d) e ∙ get_or_push slots x d k (l ∙ sym s))) i))
    (λ (s : k ≢ n).
    let c : k < n = omega arith in
    subst (λ (z : _). IsOfSlot house k (pass_of z))
    (sym (ap (λ (z : List _). get_or z k d) e ∙ get_or_append_left slots (x ∷ []) d k (subst (λ (j : ℕ). k < j) (sym l) c)))
    (h k d c))

pub slots_last : {X : Type 0} (pass_of : X → List Place) (house : House) (all less : List X) (x : X) (n : ℕ)
    → AreOfSlots pass_of house all n → all ≡ less ++ x ∷ [] → length all ≡ n
    → AreOfSlots pass_of house less (length less) × IsOfSlot house (length less) (pass_of x)
slots_last pass_of house all less x n h e l =
    let m : length all ≡ length less + 1 = ap length e ∙ length-append less (x ∷ []) in (
      λ k d b. subst (λ (z : _). IsOfSlot house k (pass_of z))
          (ap (λ (z : List _). get_or z k d) e ∙ get_or_append_left less (x ∷ []) d k b) (h k d (omega arith)),
      subst (λ (z : _). IsOfSlot house (length less) (pass_of z))
          (ap (λ (z : List _). get_or z (length less) x) e ∙ get_or_push less x x (length less) refl) (h (length less) x (omega arith)),
    )

-- These slots are left, and the passes of those behind them were met into one.
pub record AreLeft {X A : Type 0} (pass_of : X → List Place) (house : House) (left : Vec X A) (all : List Place) : Type 0 where
  pub few : vec_len left ≤ 7
  pub each : AreOfSlots pass_of house left.items (vec_len left)
  pub met : HasNumbers house 8 0 (8 - vec_len left) all

-- The pass of the last one is met too.
pub left_met : {X A : Type 0} (pass_of : X → List Place) (house : House) (left less : Vec X A) (x : X) (p q : List Place)
    → AreLeft pass_of house left p → left.items ≡ less.items ++ x ∷ [] → MeetsAll p (pass_of x) q → AreLeft pass_of house less q
left_met pass_of house left less x p q are e met =
    let few = are.few in
    let ok = left.ok in
    let rest = less.ok in
    let long : length left.items ≡ length less.items + 1 = ap length e ∙ length-append less.items (x ∷ []) in
    let n = length less.items in
    let last = slots_last pass_of house left.items less.items x _ are.each e (omega arith) in
    let middle : 8 - vec_len left ≡ 7 - n = omega arith in
    let high : 8 - n ≡ 8 - vec_len less = omega arith in
    record {
      few = omega arith;
      each = λ k d b. last.0 k d (omega arith);
      met = subst (λ (b : ℕ). HasNumbers house 8 0 b q) high
          (has_meets house 8 0 (7 - n) (8 - n) p (pass_of x) q (subst (λ (b : ℕ). HasNumbers house 8 0 b p) middle are.met) last.1 met);
    }
