-- A pass that was left at a member stands for the one that its thread was dealt.
use Rattle.std.proofs.Common.{◌≡◌, ℕ, ◌-◌, ◌<◌, ◌==◌, Bool, true, false, List, [], ◌∷◌, length, Option, Some, None}
use Rattle.std.proofs.Common.{refl, sym, ap, ◌∙◌, subst, arith, inl, inr, get_or, if◌then◌else◌, eqb-true, ⊎_elim}
use Rattle.std.specs.Prelude.{slice_get}
use Rattle.std.specs.Option.{option_to_list}
use Rattle.std.proofs.lemmas.Option.{get_or_from_slice_get, slice_get-get_or, slice_get_within}
use Rattle.gr_law.specs.Grids.{Among}
use Rattle.gr_law.proofs.Lists.{among_either, among_left, among_right}
use Rattle.gr_run_law.proofs.Lists.{same_number}
use Rattle.gr_member.specs.Passes.{StaysAll}
use Rattle.gr_member.specs.Seats.{Place}
use Rattle.gr_runner.specs.declared.gathering.Left.{Left}
use Rattle.gr_runner.specs.declared.slots.Worker.{Worker}
use Rattle.gr_runner.specs.declared.slots.Worker.TheVariants as worker
use Rattle.gr_runner.specs.Dealing.{worker_at}
use Rattle.gr_runner.specs.Gathering.{left_at}
use Rattle.gr_runner.specs.Slots.{LeavesOf}

pub own_among : (m : ℕ) (left : Left) → left.home ≡ m → Among left.pass (left_at m left)
own_among m left home =
    among_right left.pass (option_to_list (slice_get left.visits.items m)) (if left.home == m then left.pass ∷ [] else [])
    (subst (λ (b : Bool). Among left.pass (if b then left.pass ∷ [] else [])) (sym (ap (λ (i : ℕ). i == m) home ∙ same_number m))
    (inl refl))

pub visit_among : (m : ℕ) (left : Left) (v : List Place) → slice_get left.visits.items m ≡ Some v → Among v (left_at m left)
visit_among m left v e =
    among_left v (option_to_list (slice_get left.visits.items m)) (if left.home == m then left.pass ∷ [] else [])
    (subst (λ (o : Option (List Place)). Among v (option_to_list o)) (sym e) (inl refl))

-- It stands for the pass p, by another that was left at the member.
pub record Stands (m : ℕ) (left : Left) (p : List Place) : Type 0 where
  pub q : List Place
  pub among : Among q (left_at (m - 1) left)
  pub parts : (j : ℕ) (x : Place) → j < length p → (get_or q j x).view.parts ≡ (get_or p j x).view.parts

own_stands : (m home : ℕ) (left : Left) (p own : List Place) → left.home ≡ home → StaysAll own left.pass
    → Among p (if home == m - 1 then own ∷ [] else []) → Stands m left p
own_stands m home left p own there stays among = at_test (home == m - 1) refl among
  where
    at_test : (b : Bool) → (home == m - 1) ≡ b → Among p (if b then own ∷ [] else []) → Stands m left p
    at_test false e a = absurd a
    at_test true e (inr a) = absurd a
    at_test true e (inl is) = record {
      q = left.pass;
      among = own_among (m - 1) left (there ∙ eqb-true home (m - 1) e);
      parts = λ j x l.
          let same = ap length is in
          (stays.each j x (omega (arith, l, same))).numbers ∙ ap (λ (y : List Place). (get_or y j x).view.parts) (sym is);
    }

pub stands_for : (m home : ℕ) (left : Left) (p : List Place) (w : Option Worker) → LeavesOf home w (Some left)
    → Among p (worker_at (m - 1) home w) → Stands m left p
stands_for m home left p None leaves among = absurd leaves
stands_for m home left p (Some (worker.Client client)) leaves among =
    own_stands m home left p client.session.pass leaves.there leaves.stays among
stands_for m home left p (Some (worker.Member host)) leaves among =
    ⊎_elim at_visit (own_stands m home left p host.pass leaves.there leaves.stays)
    (among_either p (option_to_list (slice_get host.visits.items (m - 1))) (if home == m - 1 then host.pass ∷ [] else []) among)
  where
    at_visit : Among p (option_to_list (slice_get host.visits.items (m - 1))) → Stands m left p
    at_visit a =
        let e = some_is (slice_get host.visits.items (m - 1)) refl a in
        let within = slice_get_within host.visits.items (m - 1) p e in
        let many = leaves.visits.many in
        let v : List Place = get_or left.visits.items (m - 1) p in
        let there = slice_get-get_or left.visits.items (m - 1) p (omega (arith, within, many)) in
        let stays : StaysAll p v =
        subst (λ (y : List Place). StaysAll y v) (get_or_from_slice_get host.visits.items (m - 1) p p e)
        (leaves.visits.each (m - 1) p within) in
        record {
          q = v;
          among = visit_among (m - 1) left v there;
          parts = λ j x l. (stays.each j x l).numbers;
        }
      where
        some_is : (o : Option (List Place)) → slice_get host.visits.items (m - 1) ≡ o → Among p (option_to_list o)
            → slice_get host.visits.items (m - 1) ≡ Some p
        some_is None e b = absurd b
        some_is (Some v) e (inl is) = e ∙ ap (λ (x : List Place). Some x) (sym is)
        some_is (Some v) e (inr b) = absurd b
