-- Passes while the seats of one shard are given to them, the last first.
use Rattle.std.proofs.Common.{◌≡◌, ◌≢◌, ℕ, ◌+◌, ◌<◌, ◌≤◌, List, [], ◌∷◌, ◌++◌, length, get_or, set}
use Rattle.std.proofs.Common.{refl, sym, ap, ◌∙◌, subst, arith, length-append}
use Rattle.std.proofs.lemmas.List.{get_or-set_same, get_or-set_other, get_or_read, length-set, get_or_push, get_or_append_left}
use Rattle.std.specs.Prelude.{vec_capacity}
use Rattle.std.specs.Global.{Vec}
use mathlib.Core.Logic.{dite}
use native.Mathlib.Decide.{ℕ_discrete}
use Rattle.gr_history.specs.declared.deed.Deed.{Deed}
use Rattle.gr_turn.specs.Views.{Seated}
use Rattle.gr_member.specs.declared.replica.Origin.{Origin}
use Rattle.gr_member.specs.Replicas.{Watched, IsWatchOf}
use Rattle.gr_member.specs.Seats.{Place, placed}
use Rattle.gr_member.specs.Dealing.{ArePairs, HasMore}

-- the passes from the number of the seats that are left have theirs
pub record Handed (p q : List (Vec Place)) (seats rest : List (Seated Deed Origin)) (watches left : List Watched) : Type 0 where
  pub count : length q ≡ length p
  pub pairs : length left ≡ length rest
  pub seats_same : (k : ℕ) (s : Seated Deed Origin) → k < length rest → get_or rest k s ≡ get_or seats k s
  pub watches_same : (k : ℕ) (w : Watched) → k < length rest → get_or left k w ≡ get_or watches k w
  pub same : (k : ℕ) (x : Vec Place) → k < length rest → get_or q k x ≡ get_or p k x
  pub more : (k : ℕ) (x : Vec Place) (s : Seated Deed Origin) (w : Watched) → length rest ≤ k → k < length p
      → (get_or q k x).items ≡ (get_or p k x).items ++ placed (get_or seats k s) (get_or watches k w).eye ∷ []
  pub room : (k : ℕ) (x : Vec Place) → length rest ≤ k → k < length p → vec_capacity (get_or q k x) ≡ vec_capacity (get_or p k x)

module _ (p q : List (Vec Place)) (seats rest fewer : List (Seated Deed Origin)) (watches left less : List Watched)
    (s : Seated Deed Origin) (w : Watched) (h : Handed p q seats rest watches left) (e : rest ≡ fewer ++ s ∷ [])
    (f : left ≡ less ++ w ∷ []) where
  rest_long : length rest ≡ length fewer + 1
  rest_long = ap length e ∙ length-append fewer (s ∷ [])

  left_long : length left ≡ length less + 1
  left_long = ap length f ∙ length-append less (w ∷ [])

  as_many : length less ≡ length fewer
  as_many = let a = rest_long in let b = left_long in let c = h.pairs in omega arith

  -- the last seat and the last eye are those of that number
  seat_is : (d : Seated Deed Origin) → s ≡ get_or seats (length fewer) d
  seat_is d = sym (ap (λ (l : List (Seated Deed Origin)). get_or l (length fewer) d) e ∙ get_or_push fewer s d (length fewer) refl)
      ∙ h.seats_same (length fewer) d (let a = rest_long in omega arith)

  watch_is : (d : Watched) → w ≡ get_or watches (length fewer) d
  watch_is d = sym (ap (λ (l : List Watched). get_or l (length fewer) d) f ∙ get_or_push less w d (length fewer) as_many)
      ∙ h.watches_same (length fewer) d (let a = rest_long in omega arith)

  pub handed_pair : length fewer < length seats → ArePairs seats watches → IsWatchOf s.view w
  handed_pair b a = subst (λ (x : Seated Deed Origin). IsWatchOf x.view w) (sym (seat_is s))
      (subst (λ (x : Watched). IsWatchOf (get_or seats (length fewer) s).view x) (sym (watch_is w)) (a (length fewer) s w b))

  pub handed_more : (n : ℕ) (o v : Vec Place) → n ≡ length fewer → n < length p → o ≡ get_or q n o
      → v.items ≡ o.items ++ placed s w.eye ∷ [] → vec_capacity v ≡ vec_capacity o → Handed p (set q n v) seats fewer watches less
  handed_more n o v l b r i c =
      let long = rest_long in
      let there : n < length q = subst (λ (j : ℕ). n < j) (sym h.count) b in
      let first : (x : Vec Place) → o ≡ get_or p n x = λ x. get_or_read q n o there r x ∙ h.same n x (omega arith) in
      record {
        count = length-set q n v ∙ h.count;
        pairs = as_many;
        seats_same = λ k d a.
            sym (ap (λ (z : List (Seated Deed Origin)). get_or z k d) e ∙ get_or_append_left fewer (s ∷ []) d k a)
            ∙ h.seats_same k d (omega arith);
        watches_same = λ k d a.
            sym (ap (λ (z : List Watched). get_or z k d) f
            ∙ get_or_append_left less (w ∷ []) d k (subst (λ (j : ℕ). k < j) (sym as_many) a))
            ∙ h.watches_same k d (omega arith);
        same = λ k x a. get_or-set_other q n k v x (λ (j : k ≡ n). omega arith) ∙ h.same k x (omega arith);
        more = λ k x d u a g. dite (ℕ_discrete k n)
            (λ (j : k ≡ n). subst (λ (m : ℕ). (get_or (set q n v) m x).items
            ≡ (get_or p m x).items ++ placed (get_or seats m d) (get_or watches m u).eye ∷ []) (sym j)
            (ap (λ (z : Vec Place). z.items) (get_or-set_same q n v x there) ∙ i
            ∙ ap (λ (z : Vec Place). z.items ++ placed s w.eye ∷ []) (first x)
            ∙ ap (λ (z : Seated Deed Origin). (get_or p n x).items ++ placed z w.eye ∷ [])
            (seat_is d ∙ ap (λ (m : ℕ). get_or seats m d) (sym l))
            ∙ ap (λ (z : Watched). (get_or p n x).items ++ placed (get_or seats n d) z.eye ∷ [])
            (watch_is u ∙ ap (λ (m : ℕ). get_or watches m u) (sym l))))
            (λ (j : k ≢ n). ap (λ (z : Vec Place). z.items) (get_or-set_other q n k v x j) ∙ h.more k x d u (omega arith) g);
        room = λ k x a g. dite (ℕ_discrete k n)
            (λ (j : k ≡ n). subst (λ (m : ℕ). vec_capacity (get_or (set q n v) m x) ≡ vec_capacity (get_or p m x)) (sym j)
            (ap (λ (z : Vec Place). vec_capacity z) (get_or-set_same q n v x there) ∙ c ∙ ap (λ (z : Vec Place). vec_capacity z) (first x)))
            (λ (j : k ≢ n). ap (λ (z : Vec Place). vec_capacity z) (get_or-set_other q n k v x j) ∙ h.room k x (omega arith) g);
      }

-- none is left
pub handed_all : (p q : List (Vec Place)) (seats rest : List (Seated Deed Origin)) (watches left : List Watched)
    → Handed p q seats rest watches left → length rest ≡ 0 → HasMore p seats watches q
handed_all p q seats rest watches left h e = record {
  many = h.count;
  more = λ k x s w b. h.more k x s w (omega arith) b;
  room = λ k x b. h.room k x (omega arith) b;
}
