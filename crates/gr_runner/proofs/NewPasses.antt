-- What the passes are that were dealt.
use Rattle.std.proofs.Common.{◌≡◌, ℕ, zero, suc, ◌+◌, ◌<◌, ◌==◌, Bool, List, [], ◌∷◌, length, map, get_or, reverse, cond, if◌then◌else◌, Option, Some, None}
use Rattle.std.proofs.Common.{refl, sym, ap, ◌∙◌, subst, arith, inl, inr}
use Rattle.std.specs.List.{AllByRecursion}
use Rattle.std.specs.Prelude.{slice_get}
use Rattle.std.specs.Option.{option_to_list}
use Rattle.std.proofs.lemmas.List.{reverse-reverse}
use Rattle.std.proofs.lemmas.Option.{slice_get-get_or}
use Rattle.gr_turn.specs.Views.{times}
use Rattle.gr_law.specs.Grids.{Among}
use Rattle.gr_law.proofs.Lists.{among_left, among_reverse, among_right}
use Rattle.gr_run_law.proofs.Integrity.{flat_among}
use Rattle.gr_run_law.proofs.Lists.{all_append, same_number}
use Rattle.gr_script.specs.Rules.{AreWithin, Heading}
use Rattle.gr_member.specs.Passes.{House, IsPassOf}
use Rattle.gr_member.specs.Seats.{Place, nowhere}
use Rattle.gr_session.specs.Waiting.{HasMadeNothing}
use Rattle.gr_runner.specs.declared.dealing.Dealt.{Dealt}
use Rattle.gr_runner.specs.declared.slots.ClientKit.{ClientKit}
use Rattle.gr_runner.specs.declared.slots.MemberKit.{MemberKit}
use Rattle.gr_runner.specs.declared.slots.Slot.{Slot}
use Rattle.gr_runner.specs.declared.slots.Worker.{Worker}
use Rattle.gr_runner.specs.declared.slots.Worker.TheVariants.{Client, Member}
use Rattle.gr_host.specs.Houses.{ArePassesOf}
use Rattle.gr_runner.specs.Dealing.{AreAtHome, AreCounted, AreDealt, HasNewPasses, IsDealt, IsNew, WorkerHasNew, dealt_at, passes_of, worker_at}
use Rattle.gr_runner.specs.Gathering.{seats_at}
use Rattle.gr_runner.proofs.ForClients.{all_of_each, within_get}
use Rattle.gr_runner.specs.Makings.{AreMade, passes_at, plan_of}

-- ---- lists

among_get : {E : Type 0} (xs : List E) (k : ℕ) (d : E) → k < length xs → Among (get_or xs k d) xs
among_get [] k d l = absurd (omega (arith, l))
among_get (x ∷ xs) zero d l = inl refl
among_get (x ∷ xs) (suc k) d l = inr (among_get xs k d (omega (arith, l)))

pub among_map : {E F : Type 0} (f : E → F) (x : E) (xs : List E) → Among x xs → Among (f x) (map f xs)
among_map f x [] a = absurd a
among_map f x (first ∷ xs) (inl is) = inl (ap f is)
among_map f x (first ∷ xs) (inr a) = inr (among_map f x xs a)

all_by_among : {E : Type 0} (P : E → Type 0) (xs : List E) → ((x : E) → Among x xs → P x) → AllByRecursion P xs
all_by_among P [] each = tt
all_by_among P (x ∷ xs) each = (each x (inl refl), all_by_among P xs (λ y a. each y (inr a)))

-- what holds of the item at each place holds of each that is among them
at_some_place : {E : Type 0} (P : E → Type 0) (xs : List E) (x d : E) → ((k : ℕ) → k < length xs → P (get_or xs k d)) → Among x xs → P x
at_some_place P [] x d each a = absurd a
at_some_place P (first ∷ xs) x d each (inl is) = subst P (sym is) (each zero (omega arith))
at_some_place P (first ∷ xs) x d each (inr a) = at_some_place P xs x d (λ k l. each (suc k) (omega (arith, l))) a

-- ---- new passes

pub new_its : (house : House) (passes : ℕ) (p : List Place) → IsNew house passes p → IsPassOf house p
new_its house passes p new = new.1.its

pub new_nothing : (house : House) (passes : ℕ) (p : List Place) → IsNew house passes p → HasMadeNothing p
new_nothing house passes p new shard s l = (new.1.fresh shard s l).made

one_time : (n : ℕ) (parts : List ℕ) → parts ≡ n ∷ [] → 0 < times n parts
one_time n parts e =
    let one : times n (n ∷ []) ≡ 1 = ap (λ (b : Bool). cond b 1 0 + 0) (same_number n) in
    subst (λ (l : List ℕ). 0 < times n l) (sym e) (omega (arith, one))

-- The passes of a worker, where each that it has at a member is new.
worker_new : (h : Heading) (houses : List House) (home : ℕ) (worker : Option Worker) → ((m : ℕ) (house : House) (p : List Place)
    → m < h.members → Among p (worker_at m home worker) → IsNew (get_or houses m house) (passes_at h (suc m)) p)
    → WorkerHasNew h houses home worker
worker_new h houses home (Some (Client client)) each = λ house l. each home house client.session.pass l
    (subst (λ (b : Bool). Among client.session.pass (if b then client.session.pass ∷ [] else [])) (sym (same_number home)) (inl refl))
worker_new h houses home (Some (Member host)) each = record {
  own = λ house l. each home house host.pass l (among_right host.pass (option_to_list (slice_get host.visits.items home))
      (if home == home then host.pass ∷ [] else [])
      (subst (λ (b : Bool). Among host.pass (if b then host.pass ∷ [] else [])) (sym (same_number home)) (inl refl)));
  visits = λ m house p l b.
      let visit = get_or host.visits.items m p in
      each m house visit l (among_left visit (option_to_list (slice_get host.visits.items m)) (if home == m then host.pass ∷ [] else [])
      (subst (λ (o : Option (List Place)). Among visit (option_to_list o)) (sym (slice_get-get_or host.visits.items m p b)) (inl refl)));
}
worker_new h houses home None each = tt

module _ (h : Heading) (houses : List House) (passes : List (List (List Place))) (clients : List ClientKit) (members : List MemberKit)
    (dealt : Dealt) (made : AreMade h h.members houses passes) (is : IsDealt h passes clients members dealt) where
  -- the passes that were made at a member are those that were dealt there, and the other way round
  from_made : (m : ℕ) (p d : List Place) → m < h.members → Among p (get_or passes m [])
      → Among p (passes_of m (get_or dealt.desks.items m d) dealt)
  from_made m p d l a =
      among_reverse p (passes_of m (get_or dealt.desks.items m d) dealt) (subst (Among p) (is.all m [] d l) a)

  to_made : (m : ℕ) (p d : List Place) → m < h.members → Among p (passes_of m (get_or dealt.desks.items m d) dealt)
      → Among p (get_or passes m [])
  to_made m p d l a =
      let all = passes_of m (get_or dealt.desks.items m d) dealt in
      subst (Among p) (sym (is.all m [] d l))
      (among_reverse p (reverse all) (subst (Among p) (sym (reverse-reverse all)) a))

  new_each : (m : ℕ) (house : House) (p d : List Place) → m < h.members → Among p (passes_of m (get_or dealt.desks.items m d) dealt)
      → IsNew (get_or houses m house) (passes_at h (suc m)) p
  new_each m house p d l a =
      let one = made.each m house [] l in
      let many = one.many in
      at_some_place (IsNew (get_or houses m house) (passes_at h (suc m))) (get_or passes m []) p d
      (λ k b. (k, one.fresh k d (omega (arith, b, many)))) (to_made m p d l a)

  numbers_each : (m n shard : ℕ) (d : List Place) → m < h.members → n < passes_at h (suc m) → shard < h.shards
      → (s : Place) × Among s (seats_at shard (passes_of m (get_or dealt.desks.items m d) dealt)) × (0 < times n s.view.parts)
  numbers_each m n shard d l b c =
      let none : House = record { plan = plan_of h (suc m); locks = [] } in
      let one = made.each m none [] l in
      let many = one.many in
      let p = get_or (get_or passes m []) n [] in
      let fresh = one.fresh n [] b in
      let count = fresh.its.many ∙ one.locks in
      let at = subst (λ (z : ℕ). n < z) (sym many) b in (
        get_or p shard nowhere,
        among_map (λ (q : List Place). get_or q shard nowhere) p (passes_of m (get_or dealt.desks.items m d) dealt)
            (from_made m p d l (among_get (get_or passes m []) n [] at)),
        one_time n (get_or p shard nowhere).view.parts (fresh.fresh shard nowhere (subst (λ (z : ℕ). shard < z) (sym count) c)).numbers,
      )

  desks_each : ArePassesOf houses dealt.desks.items
  desks_each = record {
    many = is.desks ∙ sym made.many;
    each = λ m house d l.
        let many = made.many in
        (new_each m house (get_or dealt.desks.items m d) d (omega (arith, l, many)) (inl refl)).1.its;
  }

  threads_each : AllByRecursion (HasNewPasses h houses) dealt.slots.items
  threads_each = all_by_among (HasNewPasses h houses) dealt.slots.items (λ slot a. worker_new h houses slot.home slot.worker
      (λ m house p l b. new_each m house p [] l (inr (flat_among (dealt_at m) p slot dealt.slots.items a b))))

  pub are_dealt : AreDealt h houses dealt
  are_dealt = record {
    desks = desks_each;
    threads = threads_each;
    new = λ m house d l. all_by_among (IsNew (get_or houses m house) (passes_at h (suc m)))
        (passes_of m (get_or dealt.desks.items m d) dealt) (λ p a. new_each m house p d l a);
    numbers = numbers_each;
  }

-- what the members that were made have is as many as was planned
pub counted_of : (h : Heading) (houses : List House) (passes : List (List (List Place))) → AreMade h h.members houses passes
    → AreCounted h passes
counted_of h houses passes made = record {
  many = made.dealt;
  each = λ m x l. (made.each m (record { plan = plan_of h (suc m); locks = [] }) x l).many;
}

-- ---- where threads are

-- some item of a list that has one
first : {E : Type 0} {k : ℕ} (xs : List E) → k < length xs → E
first [] l = absurd (omega (arith, l))
first (x ∷ xs) l = x

pub homes_of : (h : Heading) (passes : List (List (List Place))) (clients : List ClientKit) (members : List MemberKit) (dealt : Dealt)
    → IsDealt h passes clients members dealt → AreAtHome h clients → length members ≡ h.members → AreWithin 1 h.members h.clients
    → AllByRecursion (λ (slot : Slot). slot.home < h.members) dealt.slots.items
homes_of h passes clients members dealt is homes many within =
    subst (AllByRecursion (λ (slot : Slot). slot.home < h.members)) (sym is.slots)
    (all_append (λ (slot : Slot). slot.home < h.members) is.of_members is.of_clients
    (all_of_each (λ (slot : Slot). slot.home < h.members) is.of_members of_member)
    (all_of_each (λ (slot : Slot). slot.home < h.members) is.of_clients of_client))
  where
    of_member : (k : ℕ) (slot : Slot) → k < length is.of_members → (get_or is.of_members k slot).home < h.members
    of_member k slot l =
        let count = is.members_are.many in
        let below : k < length members = omega (arith, l, count) in
        let home = (is.members_are.each k (get_or members k (first members below)) slot below).home_is in
        omega (arith, home, below, many)

    of_client : (k : ℕ) (slot : Slot) → k < length is.of_clients → (get_or is.of_clients k slot).home < h.members
    of_client k slot l =
        let count = is.clients_are.many in
        let kits = homes.many in
        let below : k < length clients = omega (arith, l, count) in
        let kit = first clients below in
        let home = (is.clients_are.each k kit slot below).home_is in
        let one = homes.each k 0 kit below in
        let all = within_get 1 h.members h.clients k 0 within (omega (arith, below, kits)) in
        let least = all.0 in
        let most = all.1 in
        omega (arith, home, one, least, most)
