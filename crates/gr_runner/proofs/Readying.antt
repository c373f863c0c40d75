-- Threads to which all was dealt are ready to run.
use Rattle.std.proofs.Common.{◌≡◌, ◌⊎◌, ℕ, suc, ◌+◌, ◌-◌, ◌<◌, ◌≤◌, ◌==◌, Bool, true, false, List, [], ◌∷◌, ◌++◌, length, map, Option, Some, None}
use Rattle.std.proofs.Common.{refl, sym, ap, ◌∙◌, subst, arith, inl, inr, get_or, if◌then◌else◌, leb, eqb-true, length-append}
use Rattle.std.specs.Prelude.{All, nat_le, slice_get}
use Rattle.std.specs.List.{AllByRecursion, filter_map}
use Rattle.std.proofs.lemmas.Bool.Decides.{leb_tells, nat_tests}
use Rattle.std.proofs.lemmas.Option.{get_or_from_slice_get, slice_get-get_or, slice_get_within}
use Rattle.gr_law.specs.Grids.{Among}
use Rattle.gr_law.proofs.Images.{among_filter_map}
use Rattle.gr_post.specs.Couriers.{Carrying}
use Rattle.gr_post.specs.Passes.{Ring, Taking}
use Rattle.gr_post.specs.Plan.{first_number}
use Rattle.gr_script.specs.declared.line.Line.{Line}
use Rattle.gr_script.specs.declared.line.Line.TheVariants as line
use Rattle.gr_script.specs.Rules.{Heading, IsMember, IsScript, home_of}
use Rattle.gr_run_law.specs.Duties.{Joins, Reports, Sweeps, duty_of}
use Rattle.gr_run_law.specs.Plans.{courier_of}
use Rattle.gr_run_law.specs.Threads.{client_place, member_place}
use Rattle.gr_run_law.proofs.Clients.{home_is_member}
use Rattle.gr_run_law.proofs.Delivering.{map_among}
use Rattle.gr_run_law.proofs.Lists.{all_at, get_front, get_some, none_isnt_some, same_in_some}
use Rattle.gr_member.specs.declared.plan.Plan.{Plan}
use Rattle.gr_member.specs.Fresh.{IsFresh}
use Rattle.gr_member.specs.Passes.{House, IsPassOf}
use Rattle.gr_member.specs.Plans.{IsPlan}
use Rattle.gr_member.specs.Seats.{Place}
use Rattle.gr_session.specs.Waiting.{HasMadeNothing}
use Rattle.gr_session.proofs.Growing.{served_none}
use Rattle.gr_host.specs.declared.duties.Duty.{Duty as Chore}
use Rattle.gr_host.specs.declared.duties.Duty.TheVariants as chore
use Rattle.gr_host.specs.Ends.{AreEnds}
use Rattle.gr_host.specs.declared.host.Host.{Host}
use Rattle.gr_host.specs.Hosts.{CanBeDone}
use Rattle.gr_host.specs.Houses.{AreMembers, IsOther}
use Rattle.gr_host.specs.Works.{duty_is}
use Rattle.gr_runner.specs.declared.slots.ClientKit.{ClientKit}
use Rattle.gr_runner.specs.declared.slots.MemberKit.{MemberKit}
use Rattle.gr_runner.specs.declared.slots.Slot.{Slot}
use Rattle.gr_runner.specs.declared.slots.Worker.{Worker}
use Rattle.gr_runner.specs.declared.slots.Worker.TheVariants as worker
use Rattle.gr_runner.specs.declared.dealing.Dealt.{Dealt}
use Rattle.gr_runner.specs.Dealing.{HasNewPasses, HostHasNew, IsClientSlot, IsMemberSlot, WorkerHasNew}
use Rattle.gr_runner.specs.Gathering.{AreVisits}
use Rattle.gr_runner.specs.Going.{IsReady}
use Rattle.gr_runner.specs.Kits.{IsClientKit, IsCourierOf, IsMemberKit}
use Rattle.gr_runner.specs.Makings.{passes_at, plan_of}
use Rattle.gr_runner.specs.Slots.{IsClientAt, IsSlotAt, IsThreadAt, IsWorkerAt}
use Rattle.gr_runner.proofs.Found.{behind}
use Rattle.gr_runner.proofs.Joiners.{line_joins}
use Rattle.gr_runner.proofs.Mailed.{courier_tables, passes_many}

plan_right : (h : Heading) (lines : List Line) (member : ℕ) → IsScript h lines → IsMember h member → IsPlan (plan_of h member)
plan_right h lines member script is = record {
  some_member = is.0;
  stated = is.1;
  few = script.heading.members.1;
  founded = script.heading.founders.1;
  some_shard = script.heading.shards.0;
  shards = script.heading.shards.1;
  low = script.heading.floor;
}

nothing_made : (house : House) (count number : ℕ) (p : List Place) → IsFresh house count number p → HasMadeNothing p
nothing_made house count number p f k s less = (f.fresh k s less).made

module _ (h : Heading) (lines : List Line) (houses : List House) (rings : List Ring) (dealt : Dealt)
    (g : IsReady h lines houses rings dealt) where
  houses_many : length houses ≡ h.members
  houses_many = g.made.many

  -- ---- a member's thread

  thread_ready : (k : ℕ) (kit : MemberKit) (slot : Slot) → k < h.members → IsMemberKit h lines rings (suc k) kit
      → (is : IsMemberSlot h.members k (nat_le h.founders k) kit slot) → HasNewPasses h houses slot → IsThreadAt houses rings k is.host
  thread_ready k kit slot less kit_is is new = record {
    there = let many = houses_many in omega (arith, less, many);
    its = ap (λ (p : Plan). p.member) plan;
    at = record {
      mail = record {
        planned = subst IsPlan (sym plan) (plan_right h lines (suc k) g.script (omega arith, omega (arith, less)));
        takes = λ r.
            ap (λ (t : Taking). t.table) (is.take_is ∙ kit_is.take_is r)
            ∙ ap (λ (p : Plan). (get_or rings (p.member - 1) r).table) (sym plan);
        ends = ends;
        sends = sym (courier_tables rings (member_place h (suc k)) (first_number h.trouble (courier_of (suc k))) is.host.courier courier);
        many = passes_many rings (member_place h (suc k)) (first_number h.trouble (courier_of (suc k))) is.host.courier courier ∙ g.many
            ∙ sym (ap (λ (p : Plan). p.members) plan);
      };
      members = members;
      its = λ house.
          subst (λ (i : ℕ). IsPassOf (get_or houses i house) is.host.pass) (sym spot) (has.own house less).1.its;
      visits = λ all. record {
        many = all ∙ ap (λ (p : Plan). p.members) plan ∙ sym houses_many;
        each = λ m house p l.
            let many = houses_many in
            let wide = ap (λ (p : Plan). p.members) plan in
            (has.visits m house p (omega (arith, l, many)) (omega (arith, l, many, all, wide))).1.its;
      };
      duties = all_among_each is.host.duties (λ d among. can_be d among);
    };
    begun = record {
      pass = let n = has.own (no_house k) less in nothing_made (get_or houses k (no_house k)) (passes_at h (suc k)) n.0 is.host.pass n.1;
      visits = λ m p l. visits_nothing m p l;
      taken = ap (λ (t : Taking). t.taken) (is.take_is ∙ kit_is.take_is nobody);
      posted = ap (λ (c : Carrying). c.posted) courier.carries;
      stage = ap (λ (c : Carrying). c.stage) courier.carries;
    };
  }
    where
      no_house : ℕ → House
      no_house m = record { plan = plan_of h (suc m); locks = [] }

      nobody : Ring
      nobody = record { table = kit.take.table; capacity = 0 }

      plan : is.host.plan ≡ plan_of h (suc k)
      plan = is.plan_is ∙ kit_is.plan_is

      spot : is.host.plan.member - 1 ≡ k
      spot = let e = ap (λ (p : Plan). p.member) plan in omega (arith, e)

      courier : IsCourierOf rings (member_place h (suc k)) (first_number h.trouble (courier_of (suc k))) is.host.courier
      courier = record { passes = kit_is.passes; its = kit_is.its; carries = is.courier_is ∙ kit_is.carries }

      has : HostHasNew h houses k is.host
      has = subst (λ (n : ℕ). HostHasNew h houses n is.host) is.home_is
          (subst (λ (w : Option Worker). WorkerHasNew h houses slot.home w) is.worker_is new)

      ends : AreEnds is.host.take.senders is.host.take.taken is.host.ends
      ends = subst (λ (t : Taking). AreEnds t.senders t.taken is.host.ends) (sym (is.take_is ∙ kit_is.take_is nobody))
          (subst (AreEnds (length h.clients + h.members) []) (sym is.ends_are) kit_is.ends_are)

      members : AreMembers is.host.plan houses
      members = subst (λ (p : Plan). AreMembers p houses) (sym plan) (record {
        many = houses_many;
        each = λ m house l.
            (g.made.each m house [] l).plan_is;
        shards = λ m house l. (g.made.each m house [] l).locks;
      })

      visits_nothing : (m : ℕ) (p : List Place) → m < length is.host.visits.items → HasMadeNothing (get_or is.host.visits.items m p)
      visits_nothing m p l = at (nat_le h.founders k) refl
        where
          at : (b : Bool) → nat_le h.founders k ≡ b → HasMadeNothing (get_or is.host.visits.items m p)
          at true e =
              let all = is.visits_all e in
              let n = has.visits m (no_house m) p (omega (arith, l, all)) l in
              nothing_made (get_or houses m (no_house m)) (passes_at h (suc m)) n.0 (get_or is.host.visits.items m p) n.1
          at false e = let none = ap length (is.visits_none e) in absurd (omega (arith, l, none))

      all_among_each : (ds : List Chore) → ((d : Chore) → Among d ds → CanBeDone is.host d) → AllByRecursion (CanBeDone is.host) ds
      all_among_each [] each = tt
      all_among_each (d ∷ ds) each = (each d (inl refl), all_among_each ds (λ x a. each x (inr a)))

      is_join : (l : Line) (from : ℕ) → duty_of (suc k) l ≡ Some (Joins from) → l ≡ line.Join (suc k) from
      is_join (line.Step client seq act) from e = absurd (none_isnt_some (Joins from) e)
      is_join (line.Deliver to client seq) from e = absurd (none_isnt_some (Joins from) e)
      is_join (line.Report of) from e = at (of == suc k) e
        where
          at : (b : Bool) → (if b then Some Reports else None) ≡ Some (Joins from) → line.Report of ≡ line.Join (suc k) from
          at true e = absurd (no e)
            where
              no : Some Reports ≡ Some (Joins from) → ⊥
              no e = cc
          at false e = absurd (none_isnt_some (Joins from) e)
      is_join (line.Hear by of number) from e = absurd (none_isnt_some (Joins from) e)
      is_join (line.Sweep of moment) from e = at (of == suc k) e
        where
          at : (b : Bool) → (if b then Some (Sweeps moment) else None) ≡ Some (Joins from) → line.Sweep of moment ≡ line.Join (suc k) from
          at true e = absurd (no e)
            where
              no : Some (Sweeps moment) ≡ Some (Joins from) → ⊥
              no e = cc
          at false e = absurd (none_isnt_some (Joins from) e)
      is_join (line.Depart of) from e = absurd (none_isnt_some (Joins from) e)
      is_join (line.Leave client moment) from e = absurd (none_isnt_some (Joins from) e)
      is_join (line.Back client moment) from e = absurd (none_isnt_some (Joins from) e)
      is_join (line.Join joiner provider) from e = at (joiner == suc k) refl e
        where
          at : (b : Bool) → (joiner == suc k) ≡ b → (if b then Some (Joins provider) else None) ≡ Some (Joins from)
              → line.Join joiner provider ≡ line.Join (suc k) from
          at true t e =
              ap (λ (n : ℕ). line.Join n provider) (eqb-true joiner (suc k) t)
              ∙ ap (λ (n : ℕ). line.Join (suc k) n) (same (same_in_some (Joins provider) (Joins from) e))
            where
              same : Joins provider ≡ Joins from → provider ≡ from
              same e = cc
          at false t e = absurd (none_isnt_some (Joins from) e)

      can_be : (d : Chore) → Among d is.host.duties → CanBeDone is.host d
      can_be d among = at d (subst (Among (duty_is d)) (ap (map duty_is) is.duties_are ∙ kit_is.duties_are) (map_among duty_is d is.host.duties among))
        where
          joined : (from : ℕ) → Among (Joins from) (filter_map (duty_of (suc k)) lines) → IsOther is.host.plan from × (length is.host.visits.items ≡ is.host.plan.members)
          joined from a =
              let l = among_filter_map (duty_of (suc k)) (Joins from) lines a in
              let j = line_joins h lines (suc k) from g.script (subst (λ (x : Line). Among x lines) (is_join l.0 from l.2) l.1) in
              let late = j.behind in
              let low = j.founder.0 in
              let high = j.founder.1 in
              let founded = g.script.heading.founders.1 in
              let joins : nat_le h.founders k ≡ true = grind (arith, nat_tests) in (
                subst (λ (p : Plan). IsOther p from) (sym plan)
                    (record { some = low; stated = omega (arith, high, founded); other = λ e. absurd (omega (arith, e, late, high)) }),
                is.visits_all joins ∙ sym (ap (λ (p : Plan). p.members) plan),
              )

          at : (d : Chore) → Among (duty_is d) (filter_map (duty_of (suc k)) lines) → CanBeDone is.host d
          at chore.Report a = tt
          at (chore.Sweep moment) a = tt
          at (chore.Join from) a = joined from a

  -- ---- a client's thread

  client_ready : (c : ℕ) (kit : ClientKit) (slot : Slot) → c < length h.clients → IsClientKit h lines rings (suc c) kit
      → (is : IsClientSlot kit slot) → HasNewPasses h houses slot → IsClientAt houses rings (home_of h (suc c) - 1) is.client
  client_ready c kit slot less kit_is is new = record {
    there = let many = houses_many in omega (arith, many, home);
    at = λ house. record {
      planned = subst IsPlan (sym plan) (plan_right h lines (home_of h (suc c)) g.script homed);
      plan_is = plan ∙ sym ((g.made.each (home_of h (suc c) - 1) house [] home).plan_is ∙ ap (plan_of h) up);
      its = (has house home).1.its;
      posts = record {
        its = sym (courier_tables rings (client_place (suc c)) (first_number h.trouble (suc c)) is.client.session.courier courier);
        takes = record {
          stage = ap (λ (x : Carrying). x.stage) courier.carries;
          many = passes_many rings (client_place (suc c)) (first_number h.trouble (suc c)) is.client.session.courier courier ∙ g.many
              ∙ sym (ap (λ (p : Plan). p.members) plan);
        };
      };
    };
    served = served_none is.client.session (ap (λ s. s.answers) is.session_is) (ap (λ (x : Carrying). x.posted) courier.carries) nothing;
    fresh = nothing;
  }
    where
      homed : IsMember h (home_of h (suc c))
      homed = home_is_member h g.script.heading (suc c) (omega arith, omega (arith, less))

      home : home_of h (suc c) - 1 < h.members
      home = let low = homed.0 in let high = homed.1 in omega arith

      up : suc (home_of h (suc c) - 1) ≡ home_of h (suc c)
      up = let low = homed.0 in omega arith

      plan : is.client.session.plan ≡ plan_of h (home_of h (suc c))
      plan = ap (λ s. s.plan) is.session_is ∙ kit_is.plan_is

      courier : IsCourierOf rings (client_place (suc c)) (first_number h.trouble (suc c)) is.client.session.courier
      courier = record { passes = kit_is.passes; its = kit_is.its; carries = ap (λ s. s.courier) is.session_is ∙ kit_is.carries }

      no_house : House
      no_house = record { plan = plan_of h (suc (home_of h (suc c) - 1)); locks = [] }

      has : WorkerHasNew h houses (home_of h (suc c) - 1) (Some (worker.Client is.client))
      has = subst (λ (n : ℕ). WorkerHasNew h houses n (Some (worker.Client is.client)))
          (is.home_is ∙ ap (λ (p : Plan). p.member - 1) kit_is.plan_is)
          (subst (λ (w : Option Worker). WorkerHasNew h houses slot.home w) is.worker_is new)

      nothing : HasMadeNothing is.client.session.pass
      nothing =
          let n = has no_house home in
          nothing_made (get_or houses (home_of h (suc c) - 1) no_house) (passes_at h (suc (home_of h (suc c) - 1))) n.0 is.client.session.pass n.1

  -- ---- all threads

  -- a member's thread has a pass at each member to visit, or none
  abbrev pub VisitsFit : Option Worker → Type 0
  VisitsFit (Some (worker.Client client)) = Unit {0}
  VisitsFit (Some (worker.Member host)) = AreVisits houses host.visits.items
  VisitsFit None = Unit {0}

  pub record SlotReady (slot : Slot) : Type 0 where
    pub ready : IsSlotAt houses rings slot
    pub nothing : slot.left ≡ None
    pub visits : VisitsFit slot.worker

  pub slot_ready : (k : ℕ) (slot : Slot) → slice_get dealt.slots.items k ≡ Some slot → SlotReady slot
  slot_ready k slot there = at (leb_tells (suc k) h.members)
    where
      new : HasNewPasses h houses slot
      new = all_at (HasNewPasses h houses) dealt.slots.items g.new.threads k slot there

      members_many : length g.dealt_are.of_members ≡ h.members
      members_many = g.dealt_are.members_are.many ∙ g.kits_are.members_many

      split : slice_get (g.dealt_are.of_members ++ g.dealt_are.of_clients) k ≡ Some slot
      split = ap (λ (l : List Slot). slice_get l k) (sym g.dealt_are.slots) ∙ there

      at_member : k < h.members → SlotReady slot
      at_member less =
          let long = members_many in
          let kits = g.kits_are.members_many in
          let kit = get_some g.kits.members.items k (omega (arith, less, kits)) in
          let found = get_some g.dealt_are.of_members k (omega (arith, less, long)) in
          let same : slot ≡ found.0 =
          same_in_some slot found.0 (sym split ∙ get_front g.dealt_are.of_members g.dealt_are.of_clients k found.0 found.1) in
          let is : IsMemberSlot h.members k (nat_le h.founders k) kit.0 slot =
          subst (IsMemberSlot h.members k (nat_le h.founders k) kit.0)
          (get_or_from_slice_get g.dealt_are.of_members k found.0 slot found.1 ∙ sym same)
          (subst (λ (x : MemberKit). IsMemberSlot h.members k (nat_le h.founders k) x (get_or g.dealt_are.of_members k slot))
          (get_or_from_slice_get g.kits.members.items k kit.0 kit.0 kit.1)
          (g.dealt_are.members_are.each k kit.0 slot (omega (arith, less, kits)))) in
          let kit_is : IsMemberKit h lines rings (suc k) kit.0 =
          subst (IsMemberKit h lines rings (suc k)) (get_or_from_slice_get g.kits.members.items k kit.0 kit.0 kit.1)
          (g.kits_are.each_member k kit.0 less) in
          record {
            ready = subst (λ (w : Option Worker). IsWorkerAt houses rings slot.home w) (sym is.worker_is)
                (subst (λ (n : ℕ). IsThreadAt houses rings n is.host) (sym is.home_is) (thread_ready k kit.0 slot less kit_is is new));
            nothing = is.nothing_left;
            visits = subst VisitsFit (sym is.worker_is)
                (at_visits is.host (thread_ready k kit.0 slot less kit_is is new) (nat_le h.founders k) (is.visits_all)
                (is.visits_none) refl);
          }
        where
          at_visits : (host : Host) → IsThreadAt houses rings k host → (b : Bool)
              → (nat_le h.founders k ≡ true → length host.visits.items ≡ h.members) → (nat_le h.founders k ≡ false → host.visits.items ≡ [])
              → nat_le h.founders k ≡ b → AreVisits houses host.visits.items
          at_visits host ready true all none e = inr (ready.at.visits (all e ∙ sym houses_many ∙ ready.at.members.many))
          at_visits host ready false all none e = inl (none e)

      at_client : h.members ≤ k → SlotReady slot
      at_client more =
          let long = members_many in
          let kits = g.kits_are.clients_many in
          let many = g.dealt_are.clients_are.many in
          let within = slice_get_within (g.dealt_are.of_members ++ g.dealt_are.of_clients) k slot split in
          let both = length-append g.dealt_are.of_members g.dealt_are.of_clients in
          let c : ℕ = k - h.members in
          let less : k - h.members < length h.clients = omega (arith, more, within, both, long, kits, many) in
          let kit = get_some g.kits.clients.items c (omega (arith, less, kits)) in
          let found = get_some g.dealt_are.of_clients c (omega (arith, less, kits, many)) in
          let spot : length g.dealt_are.of_members + (k - h.members) ≡ k = omega (arith, long, more) in
          let same : slot ≡ found.0 =
          same_in_some slot found.0 (sym split ∙ ap (slice_get (g.dealt_are.of_members ++ g.dealt_are.of_clients)) (sym spot)
          ∙ behind g.dealt_are.of_members g.dealt_are.of_clients c found.0 found.1) in
          let is : IsClientSlot kit.0 slot =
          subst (IsClientSlot kit.0) (get_or_from_slice_get g.dealt_are.of_clients c found.0 slot found.1 ∙ sym same)
          (subst (λ (x : ClientKit). IsClientSlot x (get_or g.dealt_are.of_clients c slot))
          (get_or_from_slice_get g.kits.clients.items c kit.0 kit.0 kit.1)
          (g.dealt_are.clients_are.each c kit.0 slot (omega (arith, less, kits)))) in
          let kit_is : IsClientKit h lines rings (suc c) kit.0 =
          subst (IsClientKit h lines rings (suc c)) (get_or_from_slice_get g.kits.clients.items c kit.0 kit.0 kit.1)
          (g.kits_are.each_client c kit.0 less) in
          record {
            ready = subst (λ (w : Option Worker). IsWorkerAt houses rings slot.home w) (sym is.worker_is)
                (subst (λ (n : ℕ). IsClientAt houses rings n is.client)
                (sym (is.home_is ∙ ap (λ (p : Plan). p.member - 1) kit_is.plan_is)) (client_ready c kit.0 slot less kit_is is new));
            nothing = is.nothing_left;
            visits = subst VisitsFit (sym is.worker_is) tt;
          }

      at : ((leb (suc k) h.members ≡ true) × (suc k ≤ h.members)) ⊎ ((leb (suc k) h.members ≡ false) × (h.members < suc k)) → SlotReady slot
      at (inl few) = at_member few.1
      at (inr many) = let more = many.1 in at_client (omega (arith, more))

  pub slots_ready : All (IsSlotAt houses rings) dealt.slots.items
  slots_ready k d less = (slot_ready k (get_or dealt.slots.items k d) (slice_get-get_or dealt.slots.items k d less)).ready

  pub slots_empty : All (λ (slot : Slot). slot.left ≡ None) dealt.slots.items
  slots_empty k d less = (slot_ready k (get_or dealt.slots.items k d) (slice_get-get_or dealt.slots.items k d less)).nothing
