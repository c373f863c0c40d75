-- Passes of senders while inboxes are opened and senders are dealt.
use Rattle.std.proofs.Common.{◌≡◌, ◌≢◌, ℕ, zero, suc, ◌+◌, ◌<◌, ◌≤◌, List, [], ◌∷◌, ◌++◌, length, get_or, set, refl, sym, ap, ◌∙◌, subst, arith}
use Rattle.std.proofs.lemmas.List.{get_or-set_same, get_or-set_other, length-set}
use mathlib.Core.Logic.{dite}
use native.Mathlib.Decide.{ℕ_discrete}
use Rattle.gr_post.specs.Passes.{Ring, Sending, Taking, sender_of, taker_of}
use Rattle.gr_runner.specs.Mailing.{AreSendersOf, HaveSenders, HasSenders, IsOpen}
use Rattle.gr_runner.proofs.Ends.{at_front, at_last, one_longer}

-- ---- inboxes

pub open_none : (senders : ℕ) (rings : List Ring) (sends : List (List Sending)) (takes : List Taking) → rings ≡ [] → sends ≡ [] → takes ≡ []
    → IsOpen 0 senders rings sends takes
open_none senders rings sends takes e f g = record {
  many = ap length e;
  takers = ap length g;
  senders_each = record {
    many = ap length f ∙ sym (ap length e);
    each = λ k r p l. let none = ap length e in absurd (omega (arith, l, none));
  };
  takes_each = λ k r t l. absurd (omega (arith, l));
}

pub open_more : (n senders : ℕ) (rings more : List Ring) (r : Ring) (sends lists : List (List Sending)) (p : List Sending)
    (takes others : List Taking) (t : Taking) → IsOpen n senders rings sends takes → more ≡ rings ++ r ∷ [] → lists ≡ sends ++ p ∷ []
    → others ≡ takes ++ t ∷ [] → HasSenders r senders p → t ≡ taker_of r.table senders → IsOpen (n + 1) senders more lists others
open_more n senders rings more r sends lists p takes others t o e f g has is = record {
  many = one_longer more rings r e ∙ ap (λ (z : ℕ). z + 1) o.many;
  takers = one_longer others takes t g ∙ ap (λ (z : ℕ). z + 1) o.takers;
  senders_each = record {
    many = one_longer lists sends p f ∙ ap (λ (z : ℕ). z + 1) o.senders_each.many ∙ sym (one_longer more rings r e);
    each = λ k x y l. dite (ℕ_discrete k (length rings)) (here k x y) (before k x y (omega (arith, l, longer)));
  };
  takes_each = λ k x y l. dite (ℕ_discrete k (length rings)) (taker_here k x y) (taker_before k x y l);
}
  where
    longer : length more ≡ length rings + 1
    longer = one_longer more rings r e

    here : (k : ℕ) (x : Ring) (y : List Sending) → k ≡ length rings → HasSenders (get_or more k x) senders (get_or lists k y)
    here k x y at =
        subst (λ (z : Ring). HasSenders z senders (get_or lists k y)) (sym (at_last more rings r k x e at))
        (subst (HasSenders r senders) (sym (at_last lists sends p k y f (at ∙ sym o.senders_each.many))) has)

    before : (k : ℕ) (x : Ring) (y : List Sending) → k < length rings + 1 → k ≢ length rings
        → HasSenders (get_or more k x) senders (get_or lists k y)
    before k x y l ne =
        let less : k < length rings = omega (arith, l, ne) in
        let many = o.senders_each.many in
        subst (λ (z : Ring). HasSenders z senders (get_or lists k y)) (sym (at_front more rings r k x e less))
        (subst (HasSenders (get_or rings k x) senders) (sym (at_front lists sends p k y f (omega (arith, less, many))))
        (o.senders_each.each k x y less))

    taker_here : (k : ℕ) (x : Ring) (y : Taking) → k ≡ length rings → get_or others k y ≡ taker_of (get_or more k x).table senders
    taker_here k x y at =
        at_last others takes t k y g (at ∙ o.many ∙ sym o.takers) ∙ is
        ∙ ap (λ (z : Ring). taker_of z.table senders) (sym (at_last more rings r k x e at))

    taker_before : (k : ℕ) (x : Ring) (y : Taking) → k < n + 1 → k ≢ length rings
        → get_or others k y ≡ taker_of (get_or more k x).table senders
    taker_before k x y l ne =
        let many = o.many in
        let takers = o.takers in
        let less : k < n = omega (arith, l, ne, many) in
        at_front others takes t k y g (omega (arith, less, takers)) ∙ o.takes_each k x y less
        ∙ ap (λ (z : Ring). taker_of z.table senders) (sym (at_front more rings r k x e (omega (arith, less, many))))

-- ---- one sender's passes

-- within a list it doesn't matter what stands behind it
get_or_both : {E : Type 0} (xs : List E) (k : ℕ) (x y : E) → k < length xs → get_or xs k x ≡ get_or xs k y
get_or_both [] k x y l = absurd (omega (arith, l))
get_or_both (z ∷ xs) zero x y l = refl
get_or_both (z ∷ xs) (suc k) x y l = get_or_both xs k x y (omega (arith, l))

-- Of the first n lists the last pass was taken.
pub record Popped (old new : List (List Sending)) (own : List Sending) (n : ℕ) : Type 0 where
  pub many : length new ≡ length old
  pub count : length own ≡ n
  pub gone : (k : ℕ) (x : List Sending) (d : Sending) → k < n → get_or old k x ≡ get_or new k x ++ get_or own k d ∷ []
  pub kept : (k : ℕ) (x : List Sending) → n ≤ k → get_or new k x ≡ get_or old k x

pub popped_none : (old : List (List Sending)) (own : List Sending) → own ≡ [] → Popped old old own 0
popped_none old own e = record {
  many = refl;
  count = ap length e;
  gone = λ k x d l. absurd (omega (arith, l));
  kept = λ k x l. refl;
}

pub popped_more : (old new after : List (List Sending)) (own more : List Sending) (n : ℕ) (d : Sending) (before rest : List Sending)
    → n < length old → Popped old new own n → before ≡ get_or new n before → before ≡ rest ++ d ∷ [] → after ≡ set new n rest
    → more ≡ own ++ d ∷ [] → Popped old after more (n + 1)
popped_more old new after own more n d before rest l p at e is grown = record {
  many = ap length is ∙ length-set new n rest ∙ p.many;
  count = one_longer more own d grown ∙ ap (λ (z : ℕ). z + 1) p.count;
  gone = gone;
  kept = kept;
}
  where
    there : n < length new
    there = let many = p.many in omega (arith, l, many)

    gone : (k : ℕ) (x : List Sending) (y : Sending) → k < n + 1 → get_or old k x ≡ get_or after k x ++ get_or more k y ∷ []
    gone k x y less = dite (ℕ_discrete k n) here earlier
      where
        here : k ≡ n → get_or old k x ≡ get_or after k x ++ get_or more k y ∷ []
        here same =
            let first : get_or old k x ≡ before =
            sym (p.kept k x (omega (arith, same))) ∙ ap (λ (i : ℕ). get_or new i x) same ∙ get_or_both new n x before there ∙ sym at in
            let left : get_or after k x ≡ rest =
            ap (λ (z : List (List Sending)). get_or z k x) is ∙ ap (λ (i : ℕ). get_or (set new n rest) i x) same
            ∙ get_or-set_same new n rest x there in
            let taken : get_or more k y ≡ d = at_last more own d k y grown (same ∙ sym p.count) in
            first ∙ e ∙ ap (λ (z : List Sending). z ++ d ∷ []) (sym left) ∙ ap (λ (z : Sending). get_or after k x ++ z ∷ []) (sym taken)

        earlier : k ≢ n → get_or old k x ≡ get_or after k x ++ get_or more k y ∷ []
        earlier ne =
            let l' : k < n = omega (arith, less, ne) in
            let count = p.count in
            let left : get_or after k x ≡ get_or new k x =
            ap (λ (z : List (List Sending)). get_or z k x) is ∙ get_or-set_other new n k rest x ne in
            let taken : get_or more k y ≡ get_or own k y = at_front more own d k y grown (omega (arith, l', count)) in
            p.gone k x y l' ∙ ap (λ (z : List Sending). z ++ get_or own k y ∷ []) (sym left)
            ∙ ap (λ (z : Sending). get_or after k x ++ z ∷ []) (sym taken)

    kept : (k : ℕ) (x : List Sending) → n + 1 ≤ k → get_or after k x ≡ get_or old k x
    kept k x low =
        ap (λ (z : List (List Sending)). get_or z k x) is
        ∙ get_or-set_other new n k rest x (λ same. absurd (omega (arith, low, same)))
        ∙ p.kept k x (omega (arith, low))

-- What was popped are the last passes, and the others are left.
pub popped_all : (rings : List Ring) (left : ℕ) (old new : List (List Sending)) (own : List Sending) (n : ℕ) → Popped old new own n
    → n ≡ length old → HaveSenders rings (left + 1) old → HaveSenders rings left new × AreSendersOf rings left own
popped_all rings left old new own n p all h = (
  record { many = p.many ∙ h.many; each = rest },
  record { many = p.count ∙ all ∙ h.many; each = taken },
)
  where
    nobody : Ring → Sending
    nobody r = sender_of r.table 0

    within : (k : ℕ) → k < length rings → k < n
    within k l = let many = h.many in omega (arith, l, many, all)

    parts : (k : ℕ) (x : List Sending) (d : Sending) → k < length rings → get_or old k x ≡ get_or new k x ++ get_or own k d ∷ []
    parts k x d l = p.gone k x d (within k l)

    short : (k : ℕ) (r : Ring) (x : List Sending) → k < length rings → length (get_or new k x) ≡ left
    short k r x l =
        let long = one_longer (get_or old k x) (get_or new k x) (get_or own k (nobody r)) (parts k x (nobody r) l) in
        let many = (h.each k r x l).many in omega (arith, long, many)

    rest : (k : ℕ) (r : Ring) (x : List Sending) → k < length rings → HasSenders (get_or rings k r) left (get_or new k x)
    rest k r x l = record {
      many = short k r x l;
      each = λ i d less.
          let many = short k r x l in
          sym (at_front (get_or old k x) (get_or new k x) (get_or own k d) i d (parts k x d l) (omega (arith, less, many)))
          ∙ (h.each k r x l).each i d (omega (arith, less));
    }

    taken : (k : ℕ) (r : Ring) (d : Sending) → k < length rings → get_or own k d ≡ sender_of (get_or rings k r).table left
    taken k r d l =
        sym (at_last (get_or old k []) (get_or new k []) (get_or own k d) left d (parts k [] d l) (sym (short k r [] l)))
        ∙ (h.each k r [] l).each left d (omega arith)
