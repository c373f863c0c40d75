-- What threads are given, one after the other.
use Rattle.std.proofs.Common.{◌≡◌, ◌≢◌, ℕ, zero, suc, ◌+◌, ◌-◌, ◌<◌, ◌≤◌, true, Option, Some, None}
use Rattle.std.proofs.Common.{List, [], ◌∷◌, ◌++◌, length, get_or, map, take, reverse, refl, sym, ap, ◌∙◌, subst, arith, not, ◌==◌}
use Rattle.std.specs.Prelude.{option_map}
use Rattle.std.specs.Option.{option_to_list}
use Rattle.std.specs.List.{All, AllByRecursion, cons_option, filter_map}
use Rattle.std.proofs.lemmas.List.{map-append, reverse-append, take_more}
use Rattle.std.proofs.lemmas.Bool.Decides.{nat_tests}
use Rattle.std.proofs.lemmas.List.Elements.{filter_map-append}
use Rattle.gr_script.specs.declared.line.Line.{Line}
use Rattle.gr_script.specs.declared.line.Step.{Step}
use Rattle.gr_script.specs.Rules.{Heading, home_of}
use Rattle.gr_script.specs.Steps.{joins_of, steps_of}
use Rattle.gr_run_law.specs.Duties.{Duty, duty_of}
use Rattle.gr_run_law.specs.Plans.{courier_of}
use Rattle.gr_run_law.specs.Threads.{client_place, member_place}
use Rattle.gr_post.specs.Couriers.{Carrying, begun}
use Rattle.gr_post.specs.Passes.{Ring, Sending, Taking, taker_of}
use Rattle.gr_post.specs.Plan.{first_number}
use Rattle.gr_host.specs.Ends.{AreEnds}
use Rattle.gr_host.specs.declared.duties.Duty.{Duty as Own}
use Rattle.gr_host.specs.Works.{duty_is}
use Rattle.gr_runner.specs.declared.kits.Kits.{Kits}
use Rattle.gr_runner.specs.declared.slots.ClientKit.{ClientKit}
use Rattle.gr_runner.specs.declared.slots.MemberKit.{MemberKit}
use Rattle.gr_runner.specs.Makings.{plan_of}
use Rattle.gr_runner.specs.Kits.{AreKits, EachFrom, GivesLast, HaveMembers, HaveSome, IsClientKit, IsCourierOf, IsMemberKit}
use Rattle.gr_runner.specs.Mailing.{AreSendersOf, HaveSenders}
use Rattle.gr_runner.specs.Stepping.{AreStepsOf}
use Rattle.gr_runner.proofs.Ends.{at_front, at_last, one_longer}

-- ---- a member's lines

one_or_none : (duty : Option Duty) → cons_option duty [] ≡ option_to_list duty
one_or_none None = refl
one_or_none (Some duty) = refl

map_one : (found : Option Own) → map duty_is (option_to_list found) ≡ option_to_list (option_map duty_is found)
map_one None = refl
map_one (Some duty) = refl

-- the duties so far, and the one of this line
pub duties_with : (member : ℕ) (lines : List Line) (i : ℕ) (line : Line) (before : List Own) (found : Option Own) → i < length lines
    → line ≡ get_or lines i line → map duty_is before ≡ filter_map (duty_of member) (take i lines)
    → option_map duty_is found ≡ duty_of member line
    → map duty_is (before ++ option_to_list found) ≡ filter_map (duty_of member) (take (i + 1) lines)
duties_with member lines i line before found lt is so_far duty =
    map-append duty_is before (option_to_list found)
    ∙ ap (λ (ds : List Duty). ds ++ map duty_is (option_to_list found)) so_far
    ∙ ap (λ (ds : List Duty). filter_map (duty_of member) (take i lines) ++ ds)
    (map_one found ∙ ap (λ (d : Option Duty). option_to_list d) duty ∙ sym (one_or_none (duty_of member line)))
    ∙ sym (filter_map-append (duty_of member) (take i lines) (line ∷ []))
    ∙ ap (λ (l : Line). filter_map (duty_of member) (take i lines ++ l ∷ [])) is
    ∙ ap (filter_map (duty_of member)) (sym (take_more lines i line lt))

-- ---- couriers

-- Passes that were dealt are unused.
pub are_unused : (rings : List Ring) (sender : ℕ) (passes : List Sending) → AreSendersOf rings sender passes
    → All (λ (p : Sending). p.sent ≡ []) passes
are_unused rings sender passes its k d l =
    let many = its.many in
    let r : Ring = record { table = d.table; capacity = 0 } in
    ap (λ (p : Sending). p.sent) (its.each k r d (omega (arith, l, many)))

-- where each inbox has the passes of a sender at least, so has each list
pub some_each : (rings : List Ring) (sends : List (List Sending)) → HaveSome rings sends
    → AllByRecursion (λ (passes : List Sending). 1 ≤ length passes) sends
some_each rings sends has = all_lengths sends (λ k x l.
    let many = has.1.many in
    let r = a_ring rings (omega (arith, l, many)) in
    let long = (has.1.each k r x (omega (arith, l, many))).many in
    omega (arith, long))
  where
    a_ring : (all : List Ring) → 0 < length all → Ring
    a_ring [] l = absurd (omega (arith, l))
    a_ring (r ∷ all) l = r

    all_lengths : (xs : List (List Sending)) → ((k : ℕ) (x : List Sending) → k < length xs → 1 ≤ length (get_or xs k x))
        → AllByRecursion (λ (passes : List Sending). 1 ≤ length passes) xs
    all_lengths [] each = tt
    all_lengths (x ∷ xs) each =
        (each zero x (omega arith), all_lengths xs (λ k y l. each (suc k) y (omega (arith, l))))

pub gives_last : (rings : List Ring) (first : ℕ) (sends after : List (List Sending)) (passes : List Sending) (courier : Carrying)
    → ((some : List Ring) (left : ℕ) → HaveSenders some (left + 1) sends → HaveSenders some left after × AreSendersOf some left passes)
    → courier ≡ begun passes first → GivesLast rings first sends courier after
gives_last rings first sends after passes courier own is left has =
    let both = own rings left has in
    (both.0, record { passes = passes; its = both.1; carries = is })

-- ---- one kit

-- the passes of one sender less
pub one_less : (rings : List Ring) (left : ℕ) (sends : List (List Sending)) → 1 ≤ left → HaveSenders rings left sends
    → HaveSenders rings (left - 1 + 1) sends
one_less rings left sends some has = subst (λ (m : ℕ). HaveSenders rings m sends) (omega (arith, some)) has

not_none : (n : ℕ) → n ≢ 0 → not (n == 0) ≡ true
not_none n ne = grind (arith, nat_tests)

none_not : (n : ℕ) → not (n == 0) ≡ true → n ≢ 0
none_not n e zero_is = grind (arith, nat_tests)

pub is_client : (h : Heading) (lines : List Line) (rings : List Ring) (client home joins : ℕ) (kit : ClientKit) → kit.client ≡ client
    → kit.plan ≡ plan_of h home → home ≡ home_of h client → kit.waits ≡ not (joins == 0) → joins ≡ joins_of home lines
    → kit.steps ≡ steps_of client lines → IsCourierOf rings (client_place client) (first_number h.trouble client) kit.courier
    → IsClientKit h lines rings client kit
is_client h lines rings client home joins kit number plan at waits joins_are steps courier =
    let all : joins ≡ joins_of (home_of h client) lines = joins_are ∙ ap (λ (m : ℕ). joins_of m lines) at in
    record {
      number = number;
      plan_is = plan ∙ ap (plan_of h) at;
      waits_where = λ ne. waits ∙ not_none joins (λ e. ne (sym all ∙ e));
      waits_only = λ is e. none_not joins (sym waits ∙ is) (all ∙ e);
      steps_are = steps;
      passes = courier.passes;
      its = courier.its;
      carries = courier.carries;
    }

-- of a member's sender, behind those of the clients
pub member_less : (h : Heading) (rings : List Ring) (member : ℕ) (sends : List (List Sending)) (takes : List Taking) → 1 ≤ member
    → HaveMembers h rings member sends takes → HaveSenders rings (member_place h member + 1) sends
member_less h rings member sends takes some has = subst (λ (m : ℕ). HaveSenders rings m sends) (omega (arith, some)) has.senders

-- What the member has of those that are left, and what the others have.
pub record TakesMember (h : Heading) (rings : List Ring) (member first : ℕ) (courier : Carrying) (take : Taking)
    (sends : List (List Sending)) (takes : List Taking) : Type 0 where
  pub left : HaveMembers h rings (member - 1) sends takes
  pub courier_is : IsCourierOf rings (member_place h member) first courier
  pub take_is : (r : Ring) → take ≡ taker_of (get_or rings (member - 1) r).table (length h.clients + h.members)

pub takes_member : (h : Heading) (rings : List Ring) (member first : ℕ) (sends lists : List (List Sending))
    (takes after others : List Taking) (courier : Carrying) (take : Taking) → 1 ≤ member → HaveMembers h rings member sends takes
    → GivesLast rings first sends courier lists → after ≡ takes → after ≡ others ++ take ∷ []
    → TakesMember h rings member first courier take lists others
takes_member h rings member first sends lists takes after others courier take some has gives same e =
    let last : takes ≡ others ++ take ∷ [] = sym same ∙ e in
    let long = one_longer takes others take last in
    let takers = has.takers in
    let few : length others ≡ member - 1 = omega (arith, long, takers) in
    let given = gives (member_place h member) (member_less h rings member sends takes some has) in
    record {
      left = record {
        many = has.many;
        senders = given.0;
        takers = few;
        takes_each = λ k r t l.
            sym (at_front takes others take k t last (omega (arith, l, few))) ∙ has.takes_each k r t (omega (arith, l));
      };
      courier_is = given.1;
      take_is = λ r.
          sym (at_last takes others take (member - 1) take last (sym few)) ∙ has.takes_each (member - 1) r take (omega (arith, some));
    }

pub is_member : (h : Heading) (lines : List Line) (rings : List Ring) (member senders : ℕ) (take : Taking) (courier : Carrying)
    (sends : List (List Sending)) (takes : List Taking) (kit : MemberKit) → kit.plan ≡ plan_of h member
    → map duty_is kit.duties ≡ filter_map (duty_of member) lines → kit.take ≡ take → kit.courier ≡ courier
    → TakesMember h rings member (first_number h.trouble (courier_of member)) courier take sends takes → AreEnds senders [] kit.ends
    → senders ≡ length h.clients + h.members → IsMemberKit h lines rings member kit
is_member h lines rings member senders take courier sends takes kit plan duties taker carrier has ends all = record {
  plan_is = plan;
  duties_are = duties;
  take_is = λ r. taker ∙ has.take_is r;
  passes = has.courier_is.passes;
  its = has.courier_is.its;
  carries = carrier ∙ has.courier_is.carries;
  ends_are = subst (λ (n : ℕ). AreEnds n [] kit.ends) all ends;
}

-- ---- lists of kits

module _ {A : Type 0} (R : ℕ → A → Type 0) where
  -- what holds of each holds of the item at a place
  pub each_place : (from : ℕ) (xs : List A) → EachFrom R from xs → (k : ℕ) (x : A) → k < length xs → R (from + k) (get_or xs k x)
  each_place from [] each k x l = absurd (omega (arith, l))
  each_place from (y ∷ xs) each zero x l = subst (λ (n : ℕ). R n y) (omega arith) each.0
  each_place from (y ∷ xs) each (suc k) x l =
      subst (λ (n : ℕ). R n (get_or xs k x)) (omega arith) (each_place (suc from) xs each.1 k x (omega (arith, l)))

  -- the one before these, where they are built from the last one on
  pub each_more : (total n : ℕ) (xs more : List A) (x : A) → n < total → more ≡ xs ++ x ∷ [] → R (total - n) x
      → EachFrom R (suc (total - n)) (reverse xs) → EachFrom R (suc (total - (n + 1))) (reverse more)
  each_more total n xs more x l e one each =
      subst (λ (l : List A). EachFrom R (suc (total - (n + 1))) (reverse l)) (sym e)
      (subst (EachFrom R (suc (total - (n + 1)))) (sym (reverse-append xs (x ∷ [])))
      (subst (λ (m : ℕ). EachFrom R m (x ∷ reverse xs)) (omega (arith, l)) (one, each)))

-- ---- so far

-- The last n members have their kits, the last one first.
pub record MembersSoFar (h : Heading) (lines : List Line) (rings now : List Ring) (sends : List (List Sending)) (takes : List Taking)
    (n : ℕ) (kits : List MemberKit) : Type 0 where
  pub same : now ≡ rings
  pub left : HaveMembers h rings (h.members - n) sends takes
  pub many : length kits ≡ n
  pub each : EachFrom (IsMemberKit h lines rings) (suc (h.members - n)) (reverse kits)

pub members_none : (h : Heading) (lines : List Line) (rings : List Ring) (sends : List (List Sending)) (takes : List Taking)
    (kits : List MemberKit) → kits ≡ [] → HaveMembers h rings h.members sends takes → MembersSoFar h lines rings rings sends takes 0 kits
members_none h lines rings sends takes kits e left = record {
  same = refl;
  left = subst (λ (m : ℕ). HaveMembers h rings m sends takes) (omega arith) left;
  many = ap length e;
  each = subst (λ (l : List MemberKit). EachFrom (IsMemberKit h lines rings) (suc (h.members - 0)) (reverse l)) (sym e) tt;
}

pub members_more : (h : Heading) (lines : List Line) (rings now after : List Ring) (sends lists : List (List Sending))
    (takes others : List Taking) (n : ℕ) (kits more : List MemberKit) (kit : MemberKit) → n < h.members
    → MembersSoFar h lines rings now sends takes n kits → after ≡ now → HaveMembers h now (h.members - n - 1) lists others
    → IsMemberKit h lines now (h.members - n) kit → more ≡ kits ++ kit ∷ [] → MembersSoFar h lines rings after lists others (n + 1) more
members_more h lines rings now after sends lists takes others n kits more kit l s same left is e = record {
  same = same ∙ s.same;
  left = subst (λ (m : ℕ). HaveMembers h rings m lists others) (omega (arith, l))
      (subst (λ (r : List Ring). HaveMembers h r (h.members - n - 1) lists others) s.same left);
  many = one_longer more kits kit e ∙ ap (λ (m : ℕ). m + 1) s.many;
  each = each_more (IsMemberKit h lines rings) h.members n kits more kit l e
      (subst (λ (r : List Ring). IsMemberKit h lines r (h.members - n) kit) s.same is) s.each;
}

pub members_all : (h : Heading) (lines : List Line) (rings now : List Ring) (sends : List (List Sending)) (takes : List Taking)
    (n : ℕ) (kits all : List MemberKit) → MembersSoFar h lines rings now sends takes n kits → n ≡ h.members → all ≡ reverse kits
    → HaveSenders rings (length h.clients) sends × EachFrom (IsMemberKit h lines rings) 1 all
members_all h lines rings now sends takes n kits all s e is = (
  subst (λ (m : ℕ). HaveSenders rings m sends) (omega (arith, e)) s.left.senders,
  subst (EachFrom (IsMemberKit h lines rings) 1) (sym is)
      (subst (λ (m : ℕ). EachFrom (IsMemberKit h lines rings) m (reverse kits)) (omega (arith, e)) s.each),
)

-- The last n clients have their kits, the last one first, and the steps of the others are left.
pub record ClientsSoFar (h : Heading) (lines : List Line) (rings now : List Ring) (sends : List (List Sending))
    (each_left : List (List Step)) (n : ℕ) (kits : List ClientKit) : Type 0 where
  pub same : now ≡ rings
  pub left : HaveSenders rings (length h.clients - n) sends
  pub steps : AreStepsOf lines (length h.clients - n) each_left
  pub many : length kits ≡ n
  pub each : EachFrom (IsClientKit h lines rings) (suc (length h.clients - n)) (reverse kits)

pub clients_none : (h : Heading) (lines : List Line) (rings : List Ring) (sends : List (List Sending)) (each : List (List Step))
    (kits : List ClientKit) → kits ≡ [] → HaveSenders rings (length h.clients) sends → AreStepsOf lines (length h.clients) each
    → ClientsSoFar h lines rings rings sends each 0 kits
clients_none h lines rings sends each kits e left steps = record {
  same = refl;
  left = subst (λ (m : ℕ). HaveSenders rings m sends) (omega arith) left;
  steps = subst (λ (m : ℕ). AreStepsOf lines m each) (omega arith) steps;
  many = ap length e;
  each = subst (λ (l : List ClientKit). EachFrom (IsClientKit h lines rings) (suc (length h.clients - 0)) (reverse l)) (sym e) tt;
}

pub clients_more : (h : Heading) (lines : List Line) (rings now after : List Ring) (sends lists : List (List Sending))
    (each less : List (List Step)) (n : ℕ) (kits more : List ClientKit) (kit : ClientKit) (count : ℕ) → count ≡ length h.clients
    → n < count → ClientsSoFar h lines rings now sends each n kits → after ≡ now → HaveSenders now (count - n - 1) lists
    → AreStepsOf lines (count - n - 1) less → IsClientKit h lines now (count - n) kit → more ≡ kits ++ kit ∷ []
    → ClientsSoFar h lines rings after lists less (n + 1) more
clients_more h lines rings now after sends lists each less n kits more kit count all l s same left steps is e = record {
  same = same ∙ s.same;
  left = subst (λ (m : ℕ). HaveSenders rings m lists) (omega (arith, l, all))
      (subst (λ (r : List Ring). HaveSenders r (count - n - 1) lists) s.same left);
  steps = subst (λ (m : ℕ). AreStepsOf lines m less) (omega (arith, l, all)) steps;
  many = one_longer more kits kit e ∙ ap (λ (m : ℕ). m + 1) s.many;
  each = each_more (IsClientKit h lines rings) (length h.clients) n kits more kit (omega (arith, l, all)) e
      (subst (λ (m : ℕ). IsClientKit h lines rings m kit) (omega (arith, all))
      (subst (λ (r : List Ring). IsClientKit h lines r (count - n) kit) s.same is)) s.each;
}

pub clients_all : (h : Heading) (lines : List Line) (rings now : List Ring) (sends : List (List Sending)) (each : List (List Step))
    (n : ℕ) (kits all : List ClientKit) → ClientsSoFar h lines rings now sends each n kits → n ≡ length h.clients
    → all ≡ reverse kits → EachFrom (IsClientKit h lines rings) 1 all
clients_all h lines rings now sends each n kits all s e is =
    subst (EachFrom (IsClientKit h lines rings) 1) (sym is)
    (subst (λ (m : ℕ). EachFrom (IsClientKit h lines rings) m (reverse kits)) (omega (arith, e)) s.each)

-- ---- all kits

pub kits_are : (h : Heading) (lines : List Line) (rings now after : List Ring) (kits : Kits) → now ≡ rings → after ≡ now
    → length kits.clients.items ≡ length h.clients → length kits.members.items ≡ h.members
    → EachFrom (IsClientKit h lines now) 1 kits.clients.items → EachFrom (IsMemberKit h lines rings) 1 kits.members.items
    → AreKits h lines after kits
kits_are h lines rings now after kits same also clients members each_client each_member = record {
  clients_many = clients;
  members_many = members;
  each_client = λ k kit l.
      subst (λ (r : List Ring). IsClientKit h lines r (suc k) (get_or kits.clients.items k kit)) (sym also)
      (subst (λ (n : ℕ). IsClientKit h lines now n (get_or kits.clients.items k kit)) (omega arith)
      (each_place (IsClientKit h lines now) 1 kits.clients.items each_client k kit (omega (arith, l, clients))));
  each_member = λ k kit l.
      subst (λ (r : List Ring). IsMemberKit h lines r (suc k) (get_or kits.members.items k kit)) (sym (also ∙ same))
      (subst (λ (n : ℕ). IsMemberKit h lines rings n (get_or kits.members.items k kit)) (omega arith)
      (each_place (IsMemberKit h lines rings) 1 kits.members.items each_member k kit (omega (arith, l, members))));
}
