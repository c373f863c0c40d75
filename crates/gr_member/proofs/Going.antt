-- Rounds that go from shard to shard, and the meeting of two passes.
use Rattle.std.proofs.Common.{◌≡◌, ◌≢◌, true, false, Option, ℕ, ◌+◌, ◌<◌, ◌≤◌, List, [], ◌∷◌, ◌++◌, length, get_or, set, refl, sym, ap, ◌∙◌}
use Rattle.std.proofs.Common.{subst, arith, length-append}
use Rattle.std.proofs.lemmas.List.{get_or-set_same, get_or-set_other, length-set, get_or_read, get_or_push, get_or_append_left}
use mathlib.Core.Logic.{dite}
use native.Mathlib.Decide.{ℕ_discrete}
use Rattle.gr_history.specs.declared.deed.Deed.{Deed}
use Rattle.std.proofs.lemmas.List.Sums.{sum_by_push}
use Rattle.std.specs.Prelude.{◌-◌, ◌^◌, min, sum_by, Result, Ok, Err, OnErr}
use Rattle.gr_history.specs.declared.deed.Deed.TheVariants.{Swept}
use Rattle.gr_member.specs.Seats.{Place, Stays, Looks, LooksUp, Adds, Meets}
use Rattle.gr_member.specs.declared.replica.Origin.{Origin}
use Rattle.gr_member.specs.Bases.{IsReadyBy}
use Rattle.gr_member.specs.Passes.{StaysAll, LooksAll, LooksUpAll, TurnsAll, TurnsSome, SweepsAll, MeetsAll, AreReadyBy, OneWaitsBy}
use Rattle.gr_member.proofs.Passing.{stays_same, looks_same}

-- after n shards: a deed was added at each of them, of what was told there, and nothing at the others
pub record Turned {X : Type 0} (deed : X → Deed) (p q : List Place) (told : List X) (n : ℕ) : Type 0 where
  pub count : length q ≡ length p
  pub told_so_far : length told ≡ n
  pub done : (j : ℕ) (x : X) (s : Place) → j < n → Adds (get_or p j s) (deed (get_or told j x)) (get_or q j s)
  pub others : (j : ℕ) (s : Place) → n ≤ j → get_or q j s ≡ get_or p j s
  pub stays : (j : ℕ) (s : Place) → j < length p → Stays (get_or p j s) (get_or q j s)

pub turned_none : {X : Type 0} (deed : X → Deed) (p : List Place) (told : List X) → told ≡ [] → Turned deed p p told 0
turned_none deed p told e = record {
  count = refl;
  told_so_far = ap length e;
  done = λ j x s b. absurd (omega arith);
  others = λ j s b. refl;
  stays = λ j s b. stays_same (get_or p j s);
}

-- the seat that is lent, which is the one of the pass
first_seat : (p q : List Place) (n : ℕ) (o : Place) → n < length q → o ≡ get_or q n o → ((s : Place) → get_or q n s ≡ get_or p n s)
    → (s : Place) → o ≡ get_or p n s
first_seat p q n o b r h s = get_or_read q n o b r s ∙ h s

pub turned_more : {X : Type 0} (deed : X → Deed) (p q : List Place) (told more : List X) (n : ℕ) (x : X) (o t : Place) → n < length p
    → Turned deed p q told n → o ≡ get_or q n o → more ≡ told ++ x ∷ [] → Adds o (deed x) t → Turned deed p (set q n t) more (n + 1)
turned_more deed p q told more n x o t b h r m a =
    let c : n < length q = subst (λ (i : ℕ). n < i) (sym h.count) b in
    let first : (s : Place) → o ≡ get_or p n s = first_seat p q n o c r (λ s. h.others n s (omega arith)) in
    record {
      count = length-set q n t ∙ h.count;
      told_so_far = ap length m ∙ length-append told (x ∷ []) ∙ ap (λ (i : ℕ). i + 1) h.told_so_far;
      done = λ j y s d. dite (ℕ_discrete j n)
          (λ (e : j ≡ n). subst (λ (i : ℕ). Adds (get_or p i s) (deed (get_or more i y)) (get_or (set q n t) i s)) (sym e)
          (subst (λ (z : Place). Adds (get_or p n s) (deed (get_or more n y)) z) (sym (get_or-set_same q n t s c))
          (subst (λ (z : _). Adds (get_or p n s) (deed z) t)
          (sym (ap (λ (l : List _). get_or l n y) m ∙ get_or_push told x y n h.told_so_far))
          (subst (λ (z : Place). Adds z (deed x) t) (first s) a))))
          (λ (ne : j ≢ n).
          let f : j < n = omega arith in
          let k = h.told_so_far in
          let g : j < length told = omega arith in
          subst (λ (z : Place). Adds (get_or p j s) (deed (get_or more j y)) z) (sym (get_or-set_other q n j t s ne))
          (subst (λ (z : _). Adds (get_or p j s) (deed z) (get_or q j s))
          (sym (ap (λ (l : List _). get_or l j y) m ∙ get_or_append_left told (x ∷ []) y j g))
          (h.done j y s f)));
      others = λ j s d. get_or-set_other q n j t s (λ (e : j ≡ n). omega arith) ∙ h.others j s (omega arith);
      stays = λ j s d. stays_more p q n o t c first a.1.stays h.stays j s d;
    }
  where
    stays_more : (p q : List Place) (n : ℕ) (o t : Place) → n < length q → ((s : Place) → o ≡ get_or p n s) → Stays o t
        → ((j : ℕ) (s : Place) → j < length p → Stays (get_or p j s) (get_or q j s)) → (j : ℕ) (s : Place) → j < length p
        → Stays (get_or p j s) (get_or (set q n t) j s)
    stays_more p q n o t c first a h j s d = dite (ℕ_discrete j n)
        (λ (e : j ≡ n). subst (λ (i : ℕ). Stays (get_or p i s) (get_or (set q n t) i s)) (sym e)
        (subst (λ (z : Place). Stays (get_or p n s) z) (sym (get_or-set_same q n t s c)) (subst (λ (z : Place). Stays z t) (first s) a)))
        (λ (ne : j ≢ n). subst (λ (z : Place). Stays (get_or p j s) z) (sym (get_or-set_other q n j t s ne)) (h j s d))

pub turned_stays : {X : Type 0} (deed : X → Deed) (p q : List Place) (told : List X) (n : ℕ) → Turned deed p q told n → StaysAll p q
turned_stays deed p q told n h = record { many = h.count; each = h.stays }

pub turned_all : {X : Type 0} (deed : X → Deed) (p q : List Place) (told : List X) (n : ℕ) → Turned deed p q told n → n ≡ length p
    → TurnsAll deed p told q
turned_all deed p q told n h e = record {
  many = h.count;
  told_each = h.told_so_far ∙ e;
  each = λ k x s b. h.done k x s (subst (λ (i : ℕ). k < i) (sym e) b);
}

-- no turn more
pub turned_some : {X : Type 0} (deed : X → Deed) (p q : List Place) (told : List X) (n : ℕ) → Turned deed p q told n → n < length p
    → TurnsSome deed p q
turned_some deed p q told n h b = record {
  many = h.count;
  told = told;
  upto = let k = h.told_so_far in omega arith;
  each = λ k x s c. h.done k x s (subst (λ (i : ℕ). k < i) h.told_so_far c);
  others = λ k s c d. subst (Looks (get_or p k s)) (sym (h.others k s (subst (λ (i : ℕ). i ≤ k) h.told_so_far c)))
      (looks_same (get_or p k s));
}

-- a turn at the shard n in which no deed was added
pub turned_until : {X : Type 0} (deed : X → Deed) (p q : List Place) (told : List X) (n : ℕ) (o t : Place) → n < length p
    → Turned deed p q told n → o ≡ get_or q n o → Looks o t → TurnsSome deed p (set q n t)
turned_until deed p q told n o t b h r a =
    let c : n < length q = subst (λ (i : ℕ). n < i) (sym h.count) b in
    let first : (s : Place) → o ≡ get_or p n s = first_seat p q n o c r (λ s. h.others n s (omega arith)) in
    let so_far = h.told_so_far in
    record {
      many = length-set q n t ∙ h.count;
      told = told;
      upto = omega arith;
      each = λ j x s d.
          let f : j < n = omega arith in
          subst (Adds (get_or p j s) (deed (get_or told j x))) (sym (get_or-set_other q n j t s (λ (e : j ≡ n). omega arith)))
          (h.done j x s f);
      others = λ j s d g. dite (ℕ_discrete j n)
          (λ (e : j ≡ n). subst (λ (i : ℕ). Looks (get_or p i s) (get_or (set q n t) i s)) (sym e)
          (subst (Looks (get_or p n s)) (sym (get_or-set_same q n t s c)) (subst (λ (z : Place). Looks z t) (first s) a)))
          (λ (ne : j ≢ n).
          let f : n ≤ j = omega arith in
          subst (Looks (get_or p j s)) (sym (get_or-set_other q n j t s ne ∙ h.others j s f)) (looks_same (get_or p j s)));
    }

-- a turn at the shard n in which no deed was added
pub turned_refused : {X : Type 0} (deed : X → Deed) (p q : List Place) (told : List X) (n : ℕ) (o t : Place) → n < length p
    → Turned deed p q told n → o ≡ get_or q n o → Stays o t → StaysAll p (set q n t)
turned_refused deed p q told n o t b h r a =
    let c : n < length q = subst (λ (i : ℕ). n < i) (sym h.count) b in
    let first : (s : Place) → o ≡ get_or p n s = first_seat p q n o c r (λ s. h.others n s (omega arith)) in
    record {
      many = length-set q n t ∙ h.count;
      each = λ j s d. dite (ℕ_discrete j n)
          (λ (e : j ≡ n). subst (λ (i : ℕ). Stays (get_or p i s) (get_or (set q n t) i s)) (sym e)
          (subst (λ (z : Place). Stays (get_or p n s) z) (sym (get_or-set_same q n t s c)) (subst (λ (z : Place). Stays z t) (first s) a)))
          (λ (ne : j ≢ n). subst (λ (z : Place). Stays (get_or p j s) z) (sym (get_or-set_other q n j t s ne)) (h.stays j s d));
    }

-- after n shards: a sweep was added at each of them, and so many keys are named
pub record SweptUpto (moment count : ℕ) (p q : List Place) (n : ℕ) : Type 0 where
  pub expired : List (List (List ℕ))
  pub turned : Turned (Swept moment) p q expired n
  pub counted : count ≡ min (sum_by length expired) (2 ^ 64 - 1)

pub swept_none : (moment : ℕ) (p : List Place) → SweptUpto moment 0 p p 0
swept_none moment p = record { expired = []; turned = turned_none (Swept moment) p [] refl; counted = refl }

at_most : (a b c d m : ℕ) → a ≡ min b m → d ≡ min (a + c) m → d ≡ min (b + c) m
at_most a b c d m e f = omega arith

pub swept_more : (moment count sum more : ℕ) (p q : List Place) (n : ℕ) (o t : Place) → n < length p → SweptUpto moment count p q n
    → o ≡ get_or q n o → ((x : List (List ℕ)) × Adds o (Swept moment x) t × (more ≡ length x)) → sum ≡ min (count + more) (2 ^ 64 - 1)
    → SweptUpto moment sum p (set q n t) (n + 1)
swept_more moment count sum more p q n o t b h r a e = record {
  expired = h.expired ++ a.0 ∷ [];
  turned = turned_more (Swept moment) p q h.expired (h.expired ++ a.0 ∷ []) n a.0 o t b h.turned r refl a.1;
  counted = at_most count (sum_by length h.expired) (length a.0) sum (2 ^ 64 - 1) h.counted
      (e ∙ ap (λ (i : ℕ). min (count + i) (2 ^ 64 - 1)) a.2)
      ∙ ap (λ (i : ℕ). min i (2 ^ 64 - 1)) (sym (sum_by_push length h.expired a.0));
}

pub swept_all : (moment count : ℕ) (p q : List Place) (n : ℕ) → SweptUpto moment count p q n → n ≡ length p → SweepsAll moment count p q
swept_all moment count p q n h e = record {
  expired = h.expired;
  sweeps = turned_all (Swept moment) p q h.expired n h.turned e;
  counted = h.counted;
}

pub on_err : {X Y : Type 0} (r : Result X Y) (P : Type 0) → P → OnErr r P
on_err (Ok x) P p = tt
on_err (Err y) P p = p

-- after n shards, each of which was ready; nothing was added, and the others are as they were
pub record LookedUpto (p q : List Place) (n : ℕ) : Type 0 where
  pub count : length q ≡ length p
  pub looks : (j : ℕ) (s : Place) → j < n → Looks (get_or p j s) (get_or q j s)
  pub ready : (j : ℕ) (s : Place) → j < n → IsReadyBy (get_or q j s).view.base (get_or q j s).view.seen true
  pub others : (j : ℕ) (s : Place) → n ≤ j → get_or q j s ≡ get_or p j s

pub looked_none : (p : List Place) → LookedUpto p p 0
looked_none p = record {
  count = refl;
  looks = λ j s b. absurd (omega arith);
  ready = λ j s b. absurd (omega arith);
  others = λ j s b. refl;
}

looks_set : (p q : List Place) (n : ℕ) (o t : Place) → n < length p → LookedUpto p q n → o ≡ get_or q n o → Looks o t
    → (j : ℕ) (s : Place) → j < n + 1 → Looks (get_or p j s) (get_or (set q n t) j s)
looks_set p q n o t b h r a j s d =
    let c : n < length q = subst (λ (i : ℕ). n < i) (sym h.count) b in
    let first : (s : Place) → o ≡ get_or p n s = first_seat p q n o c r (λ s. h.others n s (omega arith)) in
    dite (ℕ_discrete j n)
    (λ (e : j ≡ n). subst (λ (i : ℕ). Looks (get_or p i s) (get_or (set q n t) i s)) (sym e)
    (subst (Looks (get_or p n s)) (sym (get_or-set_same q n t s c)) (subst (λ (z : Place). Looks z t) (first s) a)))
    (λ (ne : j ≢ n).
    let f : j < n = omega arith in
    subst (Looks (get_or p j s)) (sym (get_or-set_other q n j t s ne)) (h.looks j s f))

looks_other : (p q : List Place) (n : ℕ) (t : Place) → LookedUpto p q n → (j : ℕ) (s : Place) → j ≢ n
    → Looks (get_or p j s) (get_or (set q n t) j s)
looks_other p q n t h j s ne = dite (ℕ_discrete (min j n) j)
    (λ (e : min j n ≡ j).
    let f : j < n = omega arith in
    subst (Looks (get_or p j s)) (sym (get_or-set_other q n j t s ne)) (h.looks j s f))
    (λ (e : min j n ≢ j).
    let f : n ≤ j = omega arith in
    subst (Looks (get_or p j s)) (sym (get_or-set_other q n j t s ne ∙ h.others j s f)) (looks_same (get_or p j s)))

-- a look more, whatever it found
pub looked_looks : (p q : List Place) (n : ℕ) (o t : Place) → n < length p → LookedUpto p q n → o ≡ get_or q n o → Looks o t
    → LooksAll p (set q n t)
looked_looks p q n o t b h r a = record {
  many = length-set q n t ∙ h.count;
  each = λ j s d. dite (ℕ_discrete j n)
      (λ (e : j ≡ n). looks_set p q n o t b h r a j s (omega arith))
      (λ (ne : j ≢ n). looks_other p q n t h j s ne);
}

-- a look more, at a shard that was ready
pub looked_more : (p q : List Place) (n : ℕ) (o t : Place) → n < length p → LookedUpto p q n → o ≡ get_or q n o → Looks o t
    → IsReadyBy o.view.base t.view.seen true → LookedUpto p (set q n t) (n + 1)
looked_more p q n o t b h r a y =
    let c : n < length q = subst (λ (i : ℕ). n < i) (sym h.count) b in
    record {
      count = length-set q n t ∙ h.count;
      looks = looks_set p q n o t b h r a;
      ready = λ j s d. dite (ℕ_discrete j n)
          (λ (e : j ≡ n). subst (λ (z : Place). IsReadyBy z.view.base z.view.seen true)
          (sym (ap (λ (i : ℕ). get_or (set q n t) i s) e ∙ get_or-set_same q n t s c))
          (subst (λ (z : Option Origin). IsReadyBy z t.view.seen true) (sym a.stays.based) y))
          (λ (ne : j ≢ n).
          let f : j < n = omega arith in
          subst (λ (z : Place). IsReadyBy z.view.base z.view.seen true) (sym (get_or-set_other q n j t s ne)) (h.ready j s f));
      others = λ j s d. get_or-set_other q n j t s (λ (e : j ≡ n). omega arith) ∙ h.others j s (omega arith);
    }

pub looked_all : (p q : List Place) (n : ℕ) → LookedUpto p q n → n ≡ length p → AreReadyBy q
looked_all p q n h e k s b = h.ready k s (let c = h.count in omega arith)

pub looked_each : (p q : List Place) (n : ℕ) → LookedUpto p q n → n ≡ length p → LooksAll p q
looked_each p q n h e = record { many = h.count; each = λ k s b. h.looks k s (omega arith) }

-- a look at a shard that wasn't ready
pub looked_waits : (p q : List Place) (n : ℕ) (o t : Place) → n < length p → LookedUpto p q n → o ≡ get_or q n o → Looks o t
    → IsReadyBy o.view.base t.view.seen false → t.view.won ≡ o.view.won + 1 → OneWaitsBy p (set q n t)
looked_waits p q n o t b h r a y w =
    let c : n < length q = subst (λ (i : ℕ). n < i) (sym h.count) b in
    let first : (s : Place) → o ≡ get_or p n s = first_seat p q n o c r (λ s. h.others n s (omega arith)) in
    record {
      shard = n;
      there = subst (λ (i : ℕ). n < i) (sym (length-set q n t)) c;
      waits = λ s. subst (λ (z : Place). IsReadyBy z.view.base z.view.seen false) (sym (get_or-set_same q n t s c))
          (subst (λ (z : Option Origin). IsReadyBy z t.view.seen false) (sym a.stays.based) y);
      won = λ s. subst (λ (z : Place). (get_or p n s).view.won < z.view.won) (sym (get_or-set_same q n t s c))
          (subst (λ (z : Place). z.view.won < t.view.won) (first s) (omega arith));
    }

-- the seats of r from the number of those that are left have been met
pub record Met (p r q rest : List Place) : Type 0 where
  pub count : length q ≡ length p
  pub theirs : (k : ℕ) (s : Place) → k < length rest → get_or rest k s ≡ get_or r k s
  pub same : (k : ℕ) (s : Place) → k < length rest → get_or q k s ≡ get_or p k s
  pub met : (k : ℕ) (s t : Place) → length rest ≤ k → k < length p → Meets (get_or p k s) (get_or r k t) (get_or q k s)

pub met_more : (p r q rest less : List Place) (n : ℕ) (o t x : Place) → rest ≡ less ++ x ∷ [] → length less ≡ n → n < length p
    → Met p r q rest
    → o ≡ get_or q n o → Meets o x t → Met p r (set q n t) less
met_more p r q rest less n o t x e l b h f a =
    let c : n < length q = subst (λ (i : ℕ). n < i) (sym h.count) b in
    let long : length rest ≡ n + 1 = ap length e ∙ length-append less (x ∷ []) ∙ ap (λ (i : ℕ). i + 1) l in
    let first : (s : Place) → o ≡ get_or p n s = first_seat p q n o c f (λ s. h.same n s (omega arith)) in
    let other : (s : Place)
    → x ≡ get_or r n s = λ s. sym (ap (λ (z : List Place). get_or z n s) e ∙ get_or_push less x s n l) ∙ h.theirs n s (omega arith)
    in
    record {
      count = length-set q n t ∙ h.count;
      theirs = λ k s d. sym (ap (λ (z : List Place). get_or z k s) e ∙ get_or_append_left less (x ∷ []) s k d) ∙ h.theirs k s (omega arith);
      same = λ k s d. get_or-set_other q n k t s (λ (i : k ≡ n). omega arith) ∙ h.same k s (omega arith);
      met = λ k s u d g. dite (ℕ_discrete k n)
          (λ (i : k ≡ n). subst (λ (j : ℕ). Meets (get_or p j s) (get_or r j u) (get_or (set q n t) j s)) (sym i)
          (subst (λ (z : Place). Meets (get_or p n s) (get_or r n u) z) (sym (get_or-set_same q n t s c))
          (subst (λ (z : Place). Meets (get_or p n s) z t) (other u) (subst (λ (z : Place). Meets z x t) (first s) a))))
          (λ (ne : k ≢ n). subst (λ (z : Place). Meets (get_or p k s) (get_or r k u) z) (sym (get_or-set_other q n k t s ne))
          (h.met k s u (omega arith) g));
    }

pub met_all : (p r q rest : List Place) → Met p r q rest → length rest ≡ 0 → MeetsAll p r q
met_all p r q rest h e = record { many = h.count; each = λ k s t b. h.met k s t (omega arith) b }

-- after n shards, at each of which the eye went to all that is published
pub record LookedUp (p q : List Place) (n : ℕ) : Type 0 where
  pub count : length q ≡ length p
  pub done : (j : ℕ) (s : Place) → j < n → LooksUp (get_or p j s) (get_or q j s)
  pub others : (j : ℕ) (s : Place) → n ≤ j → get_or q j s ≡ get_or p j s

pub up_none : (p : List Place) → LookedUp p p 0
up_none p = record { count = refl; done = λ j s b. absurd (omega arith); others = λ j s b. refl }

pub up_more : (p q : List Place) (n : ℕ) (o t : Place) → n < length p → LookedUp p q n → o ≡ get_or q n o → LooksUp o t
    → LookedUp p (set q n t) (n + 1)
up_more p q n o t b h r a =
    let c : n < length q = subst (λ (i : ℕ). n < i) (sym h.count) b in
    let first : (s : Place) → o ≡ get_or p n s = first_seat p q n o c r (λ s. h.others n s (omega arith)) in
    record {
      count = length-set q n t ∙ h.count;
      done = λ j s d. dite (ℕ_discrete j n)
          (λ (e : j ≡ n). subst (λ (i : ℕ). LooksUp (get_or p i s) (get_or (set q n t) i s)) (sym e)
          (subst (LooksUp (get_or p n s)) (sym (get_or-set_same q n t s c)) (subst (λ (z : Place). LooksUp z t) (first s) a)))
          (λ (ne : j ≢ n).
          let f : j < n = omega arith in
          subst (LooksUp (get_or p j s)) (sym (get_or-set_other q n j t s ne)) (h.done j s f));
      others = λ j s d. get_or-set_other q n j t s (λ (e : j ≡ n). omega arith) ∙ h.others j s (omega arith);
    }

pub up_all : (p q : List Place) (n : ℕ) → LookedUp p q n → n ≡ length p → LooksUpAll p q
up_all p q n h e = record { many = h.count; each = λ k s b. h.done k s (omega arith) }
