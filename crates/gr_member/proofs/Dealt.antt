-- Passes while their seats are dealt, shard by shard.
use Rattle.std.proofs.Common.{◌≡◌, ◌≢◌, ℕ, zero, suc, ◌+◌, ◌<◌, ◌≤◌, Bool, List, [], ◌∷◌, ◌++◌, length, get_or, map, reverse}
use Rattle.std.proofs.Common.{refl, sym, ap, ◌∙◌, subst, arith, length-append}
use Rattle.std.proofs.lemmas.List.{get_or_push, get_or_append_left}
use Rattle.std.specs.Prelude.{All, vec_capacity}
use Rattle.gr_peek.specs.Views.{Watching}
use Rattle.std.specs.Global.{Vec}
use mathlib.Core.Logic.{dite}
use native.Mathlib.Decide.{ℕ_discrete}
use Rattle.std.proofs.lemmas.Option.{same_Some, slice_get-get_or}
use Rattle.std.specs.Prelude.{Some, slice_get}
use Rattle.gr_turn.specs.declared.view.View.{View}
use Rattle.gr_turn.specs.Views.{Seated, seat_view}
use Rattle.gr_history.specs.declared.deed.Deed.{Deed}
use Rattle.gr_peek.specs.Entering.{new_eye}
use Rattle.logbook.specs.Pages.{Book}
use Rattle.gr_member.specs.Plans.{identity_of}
use Rattle.gr_peek_law.specs.Turns.{turned_each}
use Rattle.gr_member.specs.declared.lock.ShardLock.{ShardLock}
use Rattle.gr_member.specs.declared.replica.Origin.{Origin}
use Rattle.gr_member.specs.declared.plan.Plan.{Plan}
use Rattle.gr_member.specs.Replicas.{Replicated, Watched}
use Rattle.gr_member.specs.Seats.{Place, placed, no_seat, nowhere}
use Rattle.gr_member.specs.Passes.{IsSeatOf, AreTheirs}
use Rattle.gr_member.specs.Fresh.{IsFresh, IsFreshSeat, AreFresh, AreShown, AreSeats, AreUnused, origin_at}
use Rattle.gr_member.specs.Dealing.{AreEmpty, ArePairs, HaveRoom, HasMore, AreAllTheirs}
use Rattle.gr_member.proofs.Passing.{lock_at}

-- the seat of the shard k in the pass n
pub record IsDealt (plan : Plan) (shown : Bool) (passes n k : ℕ) (lock : ShardLock) (s : Place) : Type 0 where
  pub its : IsSeatOf plan k lock s
  pub fresh : IsFreshSeat passes n s
  pub shown_is : s.eye.shown ≡ shown

-- the seat of this number with an eye that has seen nothing
pair_is : (plan : Plan) (shown : Bool) (passes n k : ℕ) (lock : ShardLock) (s : Seated Deed Origin) (w : Watched) → s.lock ≡ lock.lock
    → s.view ≡ seat_view (origin_at plan k lock.name.copy) passes [] n → w ≡ record { eye = new_eye shown lock.name.copy; noted = [] }
    → IsDealt plan shown passes n k lock (placed s w.eye)
pair_is plan shown passes n k lock s w l v e = record {
  its = record {
    here = record { its = l; watched = ap (λ (x : Watched). x.eye.copy) e };
    based = λ o f.
        let same : origin_at plan k lock.name.copy ≡ o = same_Some (origin_at plan k lock.name.copy) o
        (sym (ap (λ (x : View Deed Origin). x.base) v) ∙ f) in (
          ap (λ (q : Origin). q.id) (sym same),
          ap (λ (q : Origin). q.opening) (sym same),
        );
  };
  fresh = record {
    counted = ap (λ (x : View Deed Origin). x.seats) v;
    began = ap (λ (x : View Deed Origin). x.opening) v;
    seen = ap (λ (x : View Deed Origin). x.seen) v;
    made = ap (λ (x : View Deed Origin). x.made) v;
    numbers = ap (λ (x : View Deed Origin). x.parts) v;
    known = ap (λ (x : Watched). x.eye.known) e;
  };
  shown_is = ap (λ (x : Watched). x.eye.shown) e;
}

-- the origin of the shard k, part by part
pub origin_is : (plan : Plan) (k : ℕ) (o : Origin) (copy : Book) → o.id ≡ identity_of plan k → o.opening ≡ plan.floor → copy ≡ o.copy
    → o ≡ origin_at plan k copy
origin_is plan k o copy e f g = λ i. record { id = e i; opening = f i; copy = (sym g) i }

-- the seats of the shard k, as its lock gives them
pub seats_of : (plan : Plan) (k passes : ℕ) (replica : Replicated) (lock : ShardLock) (seats : List (Seated Deed Origin))
    → length seats ≡ passes → replica.origin ≡ origin_at plan k lock.name.copy → replica.deeds ≡ []
    → ((j : ℕ) (seat : Seated Deed Origin) → slice_get seats j ≡ Some seat → (seat.lock ≡ lock.lock)
    × (seat.view ≡ seat_view replica.origin passes replica.deeds j))
    → AreSeats plan k passes lock seats
seats_of plan k passes replica lock seats m e f h number s b =
    let a = h number (get_or seats number s) (slice_get-get_or seats number s (subst (λ (i : ℕ). number < i) (sym m) b)) in (
      a.0,
      a.1 ∙ ap (λ (o : Origin). seat_view o passes replica.deeds number) e
          ∙ ap (λ (l : List Deed). seat_view (origin_at plan k lock.name.copy) passes l number) f,
    )

-- an eye that has seen nothing is one of a seat that has seen nothing
pub pairs_of : (plan : Plan) (shown : Bool) (k passes : ℕ) (lock : ShardLock) (seats : List (Seated Deed Origin)) (watches : List Watched)
    → length seats ≡ passes → AreSeats plan k passes lock seats → AreUnused passes shown lock.name.copy watches → ArePairs seats watches
pairs_of plan shown k passes lock seats watches m a u number s w b =
    let c : number < passes = subst (λ (i : ℕ). number < i) m b in
    let v = (a number s c).1 in
    let e = u number w c in
    record {
      copied = λ o f.
          let same : origin_at plan k lock.name.copy ≡ o = same_Some (origin_at plan k lock.name.copy) o
          (sym (ap (λ (x : View Deed Origin). x.base) v) ∙ f) in
          ap (λ (q : Origin). q.copy) (sym same) ∙ ap (λ (x : Watched). x.eye.copy) (sym e);
      noted = ap (λ (x : Watched). x.noted) e ∙ ap (λ (x : View Deed Origin). turned_each (reverse x.seen)) (sym v);
    }

-- each pass has its seats at the shards below j
pub record AreDealt (plan : Plan) (shown : Bool) (passes : ℕ) (locks : List ShardLock) (dealt : List (Vec Place)) (j : ℕ) : Type 0 where
  pub count : length dealt ≡ passes
  pub locked : length locks ≡ j
  pub many : (n : ℕ) (p : Vec Place) → n < passes → length (get_or dealt n p).items ≡ j
  pub room : (n : ℕ) (p : Vec Place) → n < passes → plan.shards ≤ vec_capacity (get_or dealt n p)
  pub seats : (n : ℕ) (p : Vec Place) (k : ℕ) (s : Place) (t : ShardLock) → n < passes → k < j
      → IsDealt plan shown passes n k (get_or locks k t) (get_or (get_or dealt n p).items k s)

pub dealt_none : (plan : Plan) (shown : Bool) (passes shards : ℕ) (locks : List ShardLock) (made : List (Vec Place)) → AreEmpty passes shards made
    → shards ≡ plan.shards
    → locks ≡ [] → AreDealt plan shown passes locks made 0
dealt_none plan shown passes shards locks made h e f = record {
  count = h.many;
  locked = ap length f;
  many = λ n p b. ap length (h.none n p b);
  room = λ n p b. subst (λ (i : ℕ). i ≤ vec_capacity (get_or made n p)) e (h.room n p b);
  seats = λ n p k s t b c. absurd (omega arith);
}

no_watch : Watched
no_watch = record { eye = nowhere.eye; noted = [] }

more_long : (dealt more : List (Vec Place)) (seats : List (Seated Deed Origin)) (watches : List Watched) (n j : ℕ) (p : Vec Place)
    → HasMore dealt seats watches more → n < length dealt
    → length (get_or dealt n p).items ≡ j → length (get_or more n p).items ≡ j + 1
more_long dealt more seats watches n j p m b e =
    ap length (m.more n p no_seat no_watch b)
    ∙ length-append (get_or dealt n p).items (placed (get_or seats n no_seat) (get_or watches n no_watch).eye ∷ [])
    ∙ ap (λ (i : ℕ). i + 1) e

-- the seat of a shard before
seat_before : (dealt more : List (Vec Place)) (seats : List (Seated Deed Origin)) (watches : List Watched) (n j k : ℕ) (p : Vec Place)
    (x : Place) → HasMore dealt seats watches more → n < length dealt
    → length (get_or dealt n p).items ≡ j → k < j → get_or (get_or more n p).items k x ≡ get_or (get_or dealt n p).items k x
seat_before dealt more seats watches n j k p x m b e c = ap (λ (z : List Place). get_or z k x) (m.more n p no_seat no_watch b)
    ∙ get_or_append_left (get_or dealt n p).items (placed (get_or seats n no_seat) (get_or watches n no_watch).eye ∷ []) x k
    (subst (λ (i : ℕ). k < i) (sym e) c)

-- the seat of the shard that was added
seat_last : (dealt more : List (Vec Place)) (seats : List (Seated Deed Origin)) (watches : List Watched) (n j : ℕ) (p : Vec Place)
    (x : Place) → HasMore dealt seats watches more → n < length dealt → length (get_or dealt n p).items ≡ j
    → get_or (get_or more n p).items j x ≡ placed (get_or seats n no_seat) (get_or watches n no_watch).eye
seat_last dealt more seats watches n j p x m b e = ap (λ (z : List Place). get_or z j x) (m.more n p no_seat no_watch b)
    ∙ get_or_push (get_or dealt n p).items (placed (get_or seats n no_seat) (get_or watches n no_watch).eye) x j e

pub dealt_more : (plan : Plan) (shown : Bool) (passes : ℕ) (locks next : List ShardLock) (lock : ShardLock) (dealt more : List (Vec Place))
    (seats : List (Seated Deed Origin)) (watches : List Watched) (j : ℕ)
    → AreDealt plan shown passes locks dealt j → AreSeats plan j passes lock seats → AreUnused passes shown lock.name.copy watches
    → HasMore dealt seats watches more → next ≡ locks ++ lock ∷ []
    → AreDealt plan shown passes next more (j + 1)
dealt_more plan shown passes locks next lock dealt more seats watches j h a u m e =
    let o = h.count in
    let below : (n : ℕ) → n < passes → n < length dealt = λ n b. omega arith in
    record {
      count = m.many ∙ h.count;
      locked = ap length e ∙ length-append locks (lock ∷ []) ∙ ap (λ (i : ℕ). i + 1) h.locked;
      many = λ n p b. more_long dealt more seats watches n j p m (below n b) (h.many n p b);
      room = λ n p b. subst (λ (i : ℕ). plan.shards ≤ i) (sym (m.room n p (below n b))) (h.room n p b);
      seats = λ n p k s t b c. dite (ℕ_discrete k j)
          (λ (i : k ≡ j). subst (λ (z : ℕ). IsDealt plan shown passes n z (get_or next z t) (get_or (get_or more n p).items z s)) (sym i)
          (subst (λ (x : ShardLock). IsDealt plan shown passes n j x (get_or (get_or more n p).items j s))
          (sym (ap (λ (z : List ShardLock). get_or z j t) e ∙ get_or_push locks lock t j h.locked))
          (subst (IsDealt plan shown passes n j lock) (sym (seat_last dealt more seats watches n j p s m (below n b) (h.many n p b)))
          (pair_is plan shown passes n j lock (get_or seats n no_seat) (get_or watches n no_watch) (a n no_seat b).0 (a n no_seat b).1
          (u n no_watch b)))))
          (λ (i : k ≢ j).
          let d : k < j = omega arith in
          let f : k < length locks = subst (λ (z : ℕ). k < z) (sym h.locked) d in
          subst (λ (x : ShardLock). IsDealt plan shown passes n k x (get_or (get_or more n p).items k s))
          (sym (ap (λ (z : List ShardLock). get_or z k t) e ∙ get_or_append_left locks (lock ∷ []) t k f))
          (subst (IsDealt plan shown passes n k (get_or locks k t))
          (sym (seat_before dealt more seats watches n j k p s m (below n b) (h.many n p b) d))
          (h.seats n p k s t b d)));
    }

-- there is room for a shard more
pub dealt_room : (plan : Plan) (shown : Bool) (passes : ℕ) (locks : List ShardLock) (dealt : List (Vec Place)) (j : ℕ) → AreDealt plan shown passes locks dealt j
    → j < plan.shards
    → HaveRoom dealt
dealt_room plan shown passes locks dealt j h b n p c =
    let d : n < passes = subst (λ (i : ℕ). n < i) h.count c in
    let o = (get_or dealt n p).ok in
    let m = h.many n p d in
    let r = h.room n p d in
    omega arith

pub dealt_theirs : (plan : Plan) (shown : Bool) (passes : ℕ) (locks : List ShardLock) (dealt : List (Vec Place)) (j : ℕ)
    → AreDealt plan shown passes locks dealt j → AreAllTheirs locks dealt
dealt_theirs plan shown passes locks dealt j h n p c =
    let d : n < passes = subst (λ (i : ℕ). n < i) h.count c in
    record {
      many = h.many n p d ∙ sym h.locked;
      each = λ k l s b. (h.seats n p k s l d (subst (λ (i : ℕ). k < i) (h.many n p d) b)).its.here;
    }

-- all but the last
pub all_theirs_last : (locks : List ShardLock) (all less : List (Vec Place)) (v : Vec Place) → AreAllTheirs locks all → all ≡ less ++ v ∷ []
    → AreAllTheirs locks less
all_theirs_last locks all less v h e k p b =
    let m : length all ≡ length less + 1 = ap length e ∙ length-append less (v ∷ []) in
    let c : k < length all = omega arith in
    subst (λ (z : Vec Place). AreTheirs locks z.items) (ap (λ (l : List (Vec Place)). get_or l k p) e ∙ get_or_append_left less (v ∷ []) p k
    b) (h k p c)

all_map : (P : ℕ → List Place → Type 0) (dealt : List (Vec Place))
    → ((n : ℕ) (p : Vec Place) → n < length dealt → P n (get_or dealt n p).items)
    → (n : ℕ) (x : List Place) → n < length dealt → P n (get_or (map (λ (v : Vec Place). v.items) dealt) n x)
all_map P [] h n x b = absurd (omega arith)
all_map P (v ∷ vs) h zero x b = h 0 v b
all_map P (v ∷ vs) h (suc n) x b = all_map (λ i. P (suc i)) vs (λ i p c. h (suc i) p (omega arith)) n x (omega arith)

pub dealt_fresh : (plan : Plan) (shown : Bool) (passes : ℕ) (locks : List ShardLock) (dealt : List (Vec Place)) (j : ℕ)
    → AreDealt plan shown passes locks dealt j → AreFresh (record { plan = plan; locks = locks }) passes (map (λ (v : Vec Place). v.items) dealt)
dealt_fresh plan shown passes locks dealt j h n x b = all_map (IsFresh (record { plan = plan; locks = locks }) passes) dealt (λ i p c.
    let d : i < passes = subst (λ (z : ℕ). i < z) h.count c in
    record {
      its = record {
        many = h.many i p d ∙ sym h.locked;
        each = λ k l s f. (h.seats i p k s l d (subst (λ (z : ℕ). k < z) (h.many i p d) f)).its;
      };
      fresh = λ k s f. (h.seats i p k s (lock_at s) d (subst (λ (z : ℕ). k < z) (h.many i p d) f)).fresh;
    }) n x (subst (λ (z : ℕ). n < z) (sym h.count) b)

pub dealt_shown : (plan : Plan) (shown : Bool) (passes : ℕ) (locks : List ShardLock) (dealt : List (Vec Place)) (j : ℕ)
    → AreDealt plan shown passes locks dealt j → AreShown shown passes (map (λ (v : Vec Place). v.items) dealt)
dealt_shown plan shown passes locks dealt j h n x k s b = all_map (λ i p. k < length p → (get_or p k s).eye.shown ≡ shown) dealt (λ i p c f.
    let d : i < passes = subst (λ (z : ℕ). i < z) h.count c in
    (h.seats i p k s (lock_at s) d (subst (λ (z : ℕ). k < z) (h.many i p d) f)).shown_is) n x (subst (λ (z : ℕ). n < z) (sym h.count) b)

-- ---- eyes that have seen nothing

pub eyes_last : (P : Watching → Type 0) (rest less : List Watching) (x : Watching) → All P rest → rest ≡ less ++ x ∷ [] → All P less × P x
eyes_last P rest less x h e =
    let m : length rest ≡ length less + 1 = ap length e ∙ length-append less (x ∷ []) in (
      λ k d b. subst P (ap (λ (l : List Watching). get_or l k d) e ∙ get_or_append_left less (x ∷ []) d k b) (h k d (omega arith)),
      subst P (ap (λ (l : List Watching). get_or l (length less) x) e ∙ get_or_push less x x (length less) refl)
          (h (length less) x (omega arith)),
    )

pub unused_more : (old new : List Watched) (n : ℕ) (w x : Watched) → new ≡ old ++ w ∷ [] → length old ≡ n → w ≡ x
    → ((k : ℕ) (d : Watched) → k < n → get_or old k d ≡ x) → (k : ℕ) (d : Watched) → k < n + 1 → get_or new k d ≡ x
unused_more old new n w x e l f h k d b = dite (ℕ_discrete k n)
    (λ (i : k ≡ n). ap (λ (z : List Watched). get_or z k d) e ∙ get_or_push old w d k (l ∙ sym i) ∙ f)
    (λ (i : k ≢ n).
    let c : k < n = omega arith in
    ap (λ (z : List Watched). get_or z k d) e ∙ get_or_append_left old (w ∷ []) d k (subst (λ (j : ℕ). k < j) (sym l) c) ∙ h k d c)
