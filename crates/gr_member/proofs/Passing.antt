-- What turns leave of passes.
use Rattle.std.proofs.Common.{◌≡◌, ◌≢◌, ℕ, ◌+◌, ◌<◌, ◌≤◌, List, [], ◌∷◌, ◌++◌, length, get_or, set, refl, sym, ap, ◌∙◌, subst, arith}
use Rattle.std.proofs.Common.{append-nil, length-append}
use Rattle.std.proofs.lemmas.List.{get_or-set_same, get_or-set_other, get_or_read, length-set, get_or_push, get_or_append_left}
use Rattle.std.proofs.Math.Nat.{mod-lt}
use Rattle.gr_value.specs.Shard.{key_hash, shard_of}
use mathlib.Core.Logic.{dite}
use native.Mathlib.Decide.{ℕ_discrete}
use Rattle.gr_member.specs.declared.lock.ShardLock.{ShardLock}
use Rattle.gr_member.specs.Plans.{identity_of}
use Rattle.gr_member.specs.Replicas.{IsBaseOf}
use Rattle.gr_member.specs.Seats.{Place, Stays, Looks, Peeks}
use Rattle.gr_member.specs.Passes.{House, IsPassOf, AreTheirs, AtEach, StaysAll, LooksAll, MeetsAll, At, AreReady, AreReadyBy, OneWaits}
use Rattle.gr_member.specs.Passes.{IsAt, IsSeatOf, LooksUpAll, OneWaitsBy}
use Rattle.gr_member.specs.declared.plan.Plan.{Plan}
use Rattle.gr_peek.specs.declared.eye.PeekEnd.{PeekEnd}
use Rattle.gr_peek.specs.declared.eye.Seen.{Seen}
use Rattle.std.specs.Prelude.{Result}
use Rattle.gr_turn.specs.declared.view.View.{View}
use Rattle.gr_history.specs.declared.deed.Deed.{Deed}
use Rattle.gr_member.specs.declared.replica.Origin.{Origin}
use Rattle.gr_member.proofs.Watching.{follows_same, follows_peek}

pub stays_same : (s : Place) → Stays s s
stays_same s = record { its = refl; based = refl; counted = refl; began = refl; numbers = refl; watches = follows_same s.eye }

pub looks_same : (s : Place) → Looks s s
looks_same s = record { stays = stays_same s; seen = ([], sym (append-nil s.view.seen)); made = refl; won = omega arith }

-- a turn at one shard, and nothing at the others
pub at_each : (R : Place → Place → Type 0) → ((s : Place) → R s s) → (k : ℕ) (p : List Place) (t : Place) → k < length p
    → ((s : Place) → R (get_or p k s) t) → AtEach R p (set p k t)
at_each R same k p t b r = record {
  many = length-set p k t;
  each = λ j s c. dite (ℕ_discrete j k)
      (λ (e : j ≡ k). subst (λ (i : ℕ). R (get_or p i s) (get_or (set p k t) i s)) (sym e)
      (subst (λ (x : Place). R (get_or p k s) x) (sym (get_or-set_same p k t s b)) (r s)))
      (λ (n : j ≢ k). subst (λ (x : Place). R (get_or p j s) x) (sym (get_or-set_other p k j t s n)) (same (get_or p j s)));
}

-- a turn at the shard k, whose seat was lent
pub at_turn : (R : Place → Place → Type 0) (k j : ℕ) (p q : List Place) (o t : Place) → k < length q → q ≡ p → k ≡ j → o ≡ get_or q k o
    → R o t → At j R p (set q k t)
at_turn R k j p q o t b e i r h = subst (λ (n : ℕ). At n R p (set q k t)) i (record {
  after = t;
  there = subst (λ (l : List Place). k < length l) e b;
  now = ap (λ (l : List Place). set l k t) e;
  turned = λ s. subst (λ (z : Place). R z t) (get_or_read q k o b r s ∙ ap (λ (l : List Place). get_or l k s) e) h;
})

pub at_stays : (R : Place → Place → Type 0) → ((s t : Place) → R s t → Stays s t) → (k : ℕ) (p q : List Place) → At k R p q → StaysAll p q
at_stays R h k p q a = subst (λ (x : List Place). StaysAll p x) (sym a.now)
    (at_each Stays stays_same k p a.after a.there (λ s. h (get_or p k s) a.after (a.turned s)))

-- a lock and a copy that are those of a place
pub lock_at : Place → ShardLock
lock_at s = record { lock = s.lock; name = record { copy = s.eye.copy; publications = [] } }

-- a peek takes no turn
pub peek_stays : (key : List ℕ) (r : Result Seen PeekEnd) (s t : Place) → Peeks key r s t → Stays s t
peek_stays key r s t p = record {
  its = p.its;
  based = ap (λ (v : View Deed Origin). v.base) p.same;
  counted = ap (λ (v : View Deed Origin). v.seats) p.same;
  began = ap (λ (v : View Deed Origin). v.opening) p.same;
  numbers = ap (λ (v : View Deed Origin). v.parts) p.same;
  watches = follows_peek r s.eye t.eye p.entered;
}

-- a seat of the same lock, base and copy is one of the shard too
seat_is_of : (plan : Plan) (k : ℕ) (l : ShardLock) (s t : Place) → IsSeatOf plan k l s → t.lock ≡ s.lock → t.view.base ≡ s.view.base
    → t.eye.copy ≡ s.eye.copy → IsSeatOf plan k l t
seat_is_of plan k l s t a i b w = record {
  here = record { its = i ∙ a.here.its; watched = w ∙ a.here.watched };
  based = subst (IsBaseOf (identity_of plan k) plan.floor) (sym b) a.based;
}

-- a pass stays one of the member
pub pass_stays : (house : House) (p q : List Place) → IsPassOf house p → StaysAll p q → IsPassOf house q
pass_stays house p q i s = record {
  many = s.many ∙ i.many;
  each = λ k l x b.
      let c : k < length p = subst (λ (n : ℕ). k < n) s.many b in
      let a = i.each k l x c in
      let t = s.each k x c in
      seat_is_of house.plan k _ _ _ a t.its t.based t.watches.copy_is;
}

pub pass_meets : (house : House) (p r q : List Place) → IsPassOf house p → MeetsAll p r q → IsPassOf house q
pass_meets house p r q i s = record {
  many = s.many ∙ i.many;
  each = λ k l x b.
      let c : k < length p = subst (λ (n : ℕ). k < n) s.many b in
      let a = i.each k l x c in
      let t = s.each k x x c in
      seat_is_of house.plan k _ _ _ a t.its t.based t.watches.copy_is;
}

pub shard_below : (key : List ℕ) (shards : ℕ) → 1 ≤ shards → shard_of key shards < shards
shard_below key shards b = mod-lt (key_hash key) (omega arith)

-- the seat that is lent is the one of the shard
pub seat_here : (house : House) (p q : List Place) (k : ℕ) (o : Place) → IsPassOf house p → q ≡ p → k < length house.locks
    → o ≡ get_or q k o
    → IsBaseOf (identity_of house.plan k) house.plan.floor o.view.base
seat_here house p q k o i e b r =
    let m = i.many in
    let c : k < length p = omega arith in
    subst (λ (z : Place). IsBaseOf (identity_of house.plan k) house.plan.floor z.view.base)
    (sym (r ∙ ap (λ (z : List Place). get_or z k o) e))
    (i.each k (lock_at o) o c).based

pub theirs_of : (house : House) (p : List Place) → IsPassOf house p → AreTheirs house.locks p
theirs_of house p i = record { many = i.many; each = λ k l s b. (i.each k l s b).here }

pub theirs_meet : (locks : List ShardLock) (p r q : List Place) → AreTheirs locks p → MeetsAll p r q → AreTheirs locks q
theirs_meet locks p r q i s = record {
  many = s.many ∙ i.many;
  each = λ k l x b.
      let c : k < length p = subst (λ (n : ℕ). k < n) s.many b in
      let t = s.each k x x c in
      let a = i.each k l x c in
      record { its = t.its ∙ a.its; watched = t.watches.copy_is ∙ a.watched };
}

-- the last lock and the last seat
pub theirs_last : (locks less : List ShardLock) (l : ShardLock) (p fewer : List Place) (s : Place) → AreTheirs locks p
    → locks ≡ less ++ l ∷ [] → p ≡ fewer ++ s ∷ [] → AreTheirs less fewer × IsAt l s
theirs_last locks less l p fewer s i a b =
    let m : length p ≡ length fewer + 1 = ap length b ∙ length-append fewer (s ∷ []) in
    let n : length locks ≡ length less + 1 = ap length a ∙ length-append less (l ∷ []) in
    let o = i.many in
    let e : length fewer ≡ length less = omega arith in
    let c : length fewer < length p = omega arith in (
      record {
        many = e;
        each = λ k t x d.
            let f : k < length p = omega arith in
            let g : k < length less = omega arith in
            subst (IsAt (get_or less k t)) (ap (λ (z : List Place). get_or z k x) b ∙ get_or_append_left fewer (s ∷ []) x k d)
            (subst (λ (z : ShardLock). IsAt z (get_or p k x))
            (ap (λ (z : List ShardLock). get_or z k t) a ∙ get_or_append_left less (l ∷ []) t k g) (i.each k t x f));
      },
      subst (IsAt l) (ap (λ (z : List Place). get_or z (length fewer) s) b ∙ get_or_push fewer s s (length fewer) refl)
          (subst (λ (z : ShardLock). IsAt z (get_or p (length fewer) s))
          (ap (λ (z : List ShardLock). get_or z (length fewer) l) a ∙ get_or_push less l l (length fewer) (sym e))
          (i.each (length fewer) l s c)),
    )

pub looks_stay : (p q : List Place) → LooksAll p q → StaysAll p q
looks_stay p q l = record { many = l.many; each = λ k s b. (l.each k s b).stays }

pub look_up_stays : (p q : List Place) → LooksUpAll p q → StaysAll p q
look_up_stays p q l = record { many = l.many; each = λ k s b. (l.each k s b).looks.stays }

-- ---- which shards were ready

pub ready_of : (house : House) (p q : List Place) → IsPassOf house p → LooksAll p q → AreReadyBy q → AreReady house.plan q
ready_of house p q i l r k s b =
    let j = pass_stays house p q i (looks_stay p q l) in
    sym (r k s b (identity_of house.plan k) house.plan.floor (j.each k (lock_at s) s b).based)

pub waits_of : (house : House) (p q : List Place) → IsPassOf house p → LooksAll p q → OneWaitsBy p q → OneWaits house.plan p q
waits_of house p q i l w =
    let j = pass_stays house p q i (looks_stay p q l) in
    record {
      shard = w.shard;
      there = w.there;
      waits = λ s. sym (w.waits s (identity_of house.plan w.shard) house.plan.floor (j.each w.shard (lock_at s) s w.there).based);
      won = w.won;
    }
