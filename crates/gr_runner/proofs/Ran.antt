-- What each thread of a run left, and what it was given.
use Rattle.std.proofs.Common.{◌≡◌, ◌≢◌, ◌⊎◌, ℕ, suc, ◌+◌, ◌-◌, ◌<◌, ◌==◌, Bool, true, false, List, [], ◌∷◌, ◌++◌, length, map, Option, Some}
use Rattle.std.proofs.Common.{refl, sym, ap, ◌∙◌, subst, arith, inl, inr, reverse, flat_map, get_or, if◌then◌else◌}
use Rattle.std.specs.Prelude.{nat_le, slice_get}
use Rattle.std.specs.Option.{option_to_list}
use Rattle.std.proofs.lemmas.Bool.Decides.{nat_tests}
use Rattle.std.proofs.lemmas.List.{reverse-reverse}
use Rattle.std.proofs.lemmas.Option.{get_or_from_slice_get, slice_get_within}
use Rattle.gr_history.specs.declared.record.ClientRecord.{ClientRecord}
use Rattle.gr_law.specs.Grids.{Among}
use Rattle.gr_law.proofs.Lists.{among_reverse}
use Rattle.gr_post.specs.Passes.{Ring, Sending, Taking}
use Rattle.gr_post.specs.Plan.{first_number}
use Rattle.gr_script.specs.declared.line.Line.{Line}
use Rattle.gr_script.specs.Rules.{Heading, IsScript, home_of}
use Rattle.gr_script.specs.Steps.{joins_of}
use Rattle.gr_run_law.specs.Plans.{courier_of}
use Rattle.gr_run_law.specs.Threads.{client_place, member_place}
use Rattle.gr_run_law.proofs.Integrity.{flat_among}
use Rattle.gr_run_law.proofs.Lists.{among_get, get_front, get_some}
use Rattle.gr_member.specs.Fresh.{IsFresh}
use Rattle.gr_member.specs.Passes.{House}
use Rattle.gr_member.specs.Seats.{Place}
use Rattle.gr_session.specs.declared.client.Client.{Client}
use Rattle.gr_session.specs.Clients.{IsAttended}
use Rattle.gr_session.specs.Waiting.{HasMadeNothing}
use Rattle.gr_host.specs.declared.host.Host.{Host}
use Rattle.gr_host.specs.Hosts.{IsHosted}
use Rattle.gr_host.specs.Works.{duty_is}
use Rattle.gr_runner.specs.declared.gathering.Left.{Left}
use Rattle.gr_runner.specs.declared.gathering.News.{News}
use Rattle.gr_runner.specs.declared.gathering.News.TheVariants as news_of
use Rattle.gr_runner.specs.declared.slots.ClientKit.{ClientKit}
use Rattle.gr_runner.specs.declared.slots.MemberKit.{MemberKit}
use Rattle.gr_runner.specs.declared.slots.Slot.{Slot}
use Rattle.gr_runner.specs.declared.slots.Worker.{Worker}
use Rattle.gr_runner.specs.declared.slots.Worker.TheVariants as worker
use Rattle.gr_runner.specs.Dealing.{IsClientSlot, IsMemberSlot, dealt_at, worker_at}
use Rattle.gr_runner.specs.Gone.{HasPlayed}
use Rattle.gr_runner.specs.Kits.{IsClientKit, IsCourierOf, IsMemberKit}
use Rattle.gr_runner.specs.Makings.{passes_at, plan_of}
use Rattle.gr_runner.specs.Slots.{ClientTells, HasRun, LeavesOf, LeavesOfClient, LeavesOfMember, MemberTells}
use Rattle.gr_runner.proofs.Found.{behind, get_among, same_there}
use Rattle.gr_runner.proofs.Joiners.{joiner_is}
use Rattle.gr_runner.proofs.Mailed.{lines_many}
use Rattle.gr_runner.proofs.Playing.{IsClientOf, IsHostOf}

module _ (h : Heading) (lines : List Line) (script : IsScript h lines) (houses : List House) (rings : List Ring)
    (desks : List (List Place)) (news : List News) (g : HasPlayed h lines houses rings desks news) where
  abbrev pub slots : List Slot
  slots = g.dealt.slots.items

  abbrev pub dealt_passes : ℕ → List (List Place)
  dealt_passes m = get_or g.dealt.desks.items m [] ∷ flat_map (dealt_at m) g.dealt.slots.items

  -- Each pass that was dealt at a member is a new one of it.
  pub fresh_at : (m : ℕ) → m < h.members → (p : List Place) → Among p (dealt_passes m)
      → (number : ℕ) × IsFresh (get_or houses m (record { plan = plan_of h (suc m); locks = [] })) (passes_at h (suc m)) number p
  fresh_at m less p among =
      let house : House = record { plan = plan_of h (suc m); locks = [] } in
      let made = g.made.each m house [] less in
      let all = g.dealt_are.all m [] [] less in
      let there : Among p (get_or g.passes m []) =
      subst (Among p) (sym all)
      (among_reverse p (reverse (dealt_passes m)) (subst (Among p) (sym (reverse-reverse (dealt_passes m))) among)) in
      let at = among_get p (get_or g.passes m []) there in
      let within = slice_get_within (get_or g.passes m []) at.0 p at.1 in
      let many = made.many in (
        at.0,
        subst (IsFresh (get_or houses m house) (passes_at h (suc m)) at.0) (get_or_from_slice_get (get_or g.passes m []) at.0 p p at.1)
            (made.fresh at.0 p (omega (arith, within, many))),
      )

  pub fresh_nothing : (house : House) (count number : ℕ) (p : List Place) → IsFresh house count number p → HasMadeNothing p
  fresh_nothing house count number p f k s less = (f.fresh k s less).made

  pub dealt_among : (m k : ℕ) (slot : Slot) (p : List Place) → slice_get slots k ≡ Some slot → Among p (dealt_at m slot)
      → Among p (dealt_passes m)
  dealt_among m k slot p there among = inr (flat_among (dealt_at m) p slot slots (get_among slots k slot there) among)

  -- ---- each thread

  -- There is a slot at each place, which ran and left something.
  pub record SlotRan (k : ℕ) (slot : Slot) : Type 0 where
    pub there : slice_get g.dealt.slots.items k ≡ Some slot
    pub left : Left
    pub left_there : slice_get g.lefts k ≡ Some left
    pub leaves : LeavesOf slot.home slot.worker (Some left)
    pub one : News
    pub news_there : slice_get news k ≡ Some one
    pub news_is : left.news ≡ Some one

  pub slot_ran : (k : ℕ) (slot : Slot) → slice_get slots k ≡ Some slot → SlotRan k slot
  slot_ran k slot there =
      let within = slice_get_within slots k slot there in
      let all = g.all_ran in
      let r = get_some g.ran k (omega (arith, within, all)) in
      let l = same_there (λ (s : Slot). s.left) (λ (x : Left). Some x) g.ran g.lefts k r.0 (sym g.left_by) r.1 in
      let n = same_there (λ (x : Left). x.news) (λ (x : News). Some x) g.lefts news k l.0 (sym g.told) l.1 in
      let ran : HasRun slot r.0 =
      subst (λ (s : Slot). HasRun s r.0) (get_or_from_slice_get slots k slot slot there)
      (subst (HasRun (get_or slots k slot)) (get_or_from_slice_get g.ran k r.0 slot r.1) (g.each_ran k slot within)) in
      record {
        there = there;
        left = l.0;
        left_there = l.1;
        leaves = subst (LeavesOf slot.home slot.worker) l.2 ran;
        one = n.0;
        news_there = n.1;
        news_is = n.2;
      }

  -- ---- a member's thread

  pub record MemberRan (k : ℕ) : Type 0 where
    pub slot : Slot
    pub host : Host
    pub worker_is : slot.worker ≡ Some (worker.Member host)
    pub home_is : slot.home ≡ k
    pub visits : (length host.visits.items ≡ 0) ⊎ (length host.visits.items ≡ h.members)
    pub ran : SlotRan k slot
    pub leaves : LeavesOfMember k host ran.left
    pub take : Taking
    pub sends : List Sending
    pub one_is : ran.one ≡ news_of.Member take sends
    pub hosted : IsHosted host ran.left.pass ran.left.visits.items take sends
    pub of : IsHostOf h lines (suc k) host
    pub table : (r : Ring) → host.take.table ≡ (get_or rings k r).table
    pub courier : IsCourierOf rings (member_place h (suc k)) (first_number h.trouble (courier_of (suc k))) host.courier

  member_told : (host : Host) (pass : List Place) (visits : List (List Place)) (one : News) → MemberTells host pass visits (Some one)
      → (take : Taking) × (sends : List Sending) × (one ≡ news_of.Member take sends) × IsHosted host pass visits take sends
  member_told host pass visits (news_of.Client told sends) tells = absurd tells
  member_told host pass visits (news_of.Member take sends) tells = (take, sends, refl, tells)

  pub member_ran : (k : ℕ) → k < h.members → MemberRan k
  member_ran k less =
      let many = g.dealt_are.members_are.many in
      let kits = g.kits_are.members_many in
      let kit = get_some g.kits.members.items k (omega (arith, less, kits)) in
      let found = get_some g.dealt_are.of_members k (omega (arith, less, kits, many)) in
      let there : slice_get slots k ≡ Some found.0 =
      ap (λ (l : List Slot). slice_get l k) g.dealt_are.slots
      ∙ get_front g.dealt_are.of_members g.dealt_are.of_clients k found.0 found.1 in
      let is : IsMemberSlot h.members k (nat_le h.founders k) kit.0 found.0 =
      subst (IsMemberSlot h.members k (nat_le h.founders k) kit.0) (get_or_from_slice_get g.dealt_are.of_members k found.0 found.0 found.1)
      (subst (λ (x : MemberKit). IsMemberSlot h.members k (nat_le h.founders k) x (get_or g.dealt_are.of_members k found.0))
      (get_or_from_slice_get g.kits.members.items k kit.0 kit.0 kit.1)
      (g.dealt_are.members_are.each k kit.0 found.0 (omega (arith, less, kits)))) in
      let kit_is : IsMemberKit h lines rings (suc k) kit.0 =
      subst (IsMemberKit h lines rings (suc k)) (get_or_from_slice_get g.kits.members.items k kit.0 kit.0 kit.1)
      (g.kits_are.each_member k kit.0 less) in
      let ran = slot_ran k found.0 there in
      let leaves : LeavesOfMember k is.host ran.left =
      subst (λ (n : ℕ). LeavesOfMember n is.host ran.left) is.home_is
      (subst (λ (w : Option Worker). LeavesOf found.0.home w (Some ran.left)) is.worker_is ran.leaves) in
      let told = member_told is.host ran.left.pass ran.left.visits.items ran.one
      (subst (MemberTells is.host ran.left.pass ran.left.visits.items) ran.news_is leaves.tells) in
      let courier = courier_is kit.0 is.host kit_is is.courier_is in
      record {
        slot = found.0;
        host = is.host;
        worker_is = is.worker_is;
        home_is = is.home_is;
        visits = full kit.0 found.0 is (nat_le h.founders k) refl;
        ran = ran;
        leaves = leaves;
        take = told.0;
        sends = told.1;
        one_is = told.2;
        hosted = told.3;
        of = host_of kit.0 found.0 kit_is is there courier;
        table = λ r.
            let back : suc k - 1 ≡ k = omega arith in
            ap (λ (t : Taking). t.table) (is.take_is ∙ kit_is.take_is r) ∙ ap (λ (i : ℕ). (get_or rings i r).table) back;
        courier = courier;
      }
    where
      courier_is : (kit : MemberKit) (host : Host) → IsMemberKit h lines rings (suc k) kit → host.courier ≡ kit.courier
          → IsCourierOf rings (member_place h (suc k)) (first_number h.trouble (courier_of (suc k))) host.courier
      courier_is kit host kit_is same = record { passes = kit_is.passes; its = kit_is.its; carries = same ∙ kit_is.carries }

      full : (kit : MemberKit) (slot : Slot) (is : IsMemberSlot h.members k (nat_le h.founders k) kit slot) (b : Bool) → nat_le h.founders k ≡ b
          → (length is.host.visits.items ≡ 0) ⊎ (length is.host.visits.items ≡ h.members)
      full kit slot is true e = inr (is.visits_all e)
      full kit slot is false e = inl (ap length (is.visits_none e))

      late : joins_of (suc k) lines ≢ 0 → nat_le h.founders k ≡ true
      late joins = let behind = (joiner_is h lines (suc k) script joins).1.behind in grind (arith, nat_tests)

      host_of : (kit : MemberKit) (slot : Slot) → IsMemberKit h lines rings (suc k) kit
          → (is : IsMemberSlot h.members k (nat_le h.founders k) kit slot) → slice_get slots k ≡ Some slot
          → IsCourierOf rings (member_place h (suc k)) (first_number h.trouble (courier_of (suc k))) is.host.courier
          → IsHostOf h lines (suc k) is.host
      host_of kit slot kit_is is there courier = record {
        plan_is = is.plan_is ∙ kit_is.plan_is;
        duties_are = ap (map duty_is) is.duties_are ∙ kit_is.duties_are;
        senders = ap (λ (t : Taking). t.senders) (is.take_is ∙ kit_is.take_is nobody);
        none = ap (λ (t : Taking). t.taken) (is.take_is ∙ kit_is.take_is nobody);
        many = lines_many rings (member_place h (suc k)) (first_number h.trouble (courier_of (suc k))) is.host.courier courier ∙ g.many;
        first = ap (λ c. c.first) courier.carries;
        spare = λ joins. spare joins;
        visits = λ joins. is.visits_all (late joins);
      }
        where
          nobody : Ring
          nobody = record { table = kit.take.table; capacity = 0 }

          spare : joins_of (suc k) lines ≢ 0 → HasMadeNothing (get_or is.host.visits.items (suc k - 1) [])
          spare joins =
              let all = is.visits_all (late joins) in
              let v = get_some is.host.visits.items k (omega (arith, less, all)) in
              let back : suc k - 1 ≡ k = omega arith in
              let at : Among v.0 (worker_at k k (Some (worker.Member is.host))) =
              subst (λ (o : Option (List Place)). Among v.0 (option_to_list o ++ (if k == k then is.host.pass ∷ [] else []))) (sym v.1)
              (inl refl) in
              let here : Among v.0 (dealt_at k slot) =
              subst (λ (n : ℕ). Among v.0 (worker_at k n slot.worker)) (sym is.home_is)
              (subst (λ (w : Option Worker). Among v.0 (worker_at k k w)) (sym is.worker_is) at) in
              let fresh = fresh_at k less v.0 (dealt_among k k slot v.0 there here) in
              subst HasMadeNothing
              (sym (ap (λ (n : ℕ). get_or is.host.visits.items n []) back ∙ get_or_from_slice_get is.host.visits.items k v.0 [] v.1))
              (fresh_nothing (get_or houses k (record { plan = plan_of h (suc k); locks = [] })) (passes_at h (suc k)) fresh.0 v.0 fresh.1)

  -- ---- a client's thread

  pub record ClientRan (c : ℕ) : Type 0 where
    pub slot : Slot
    pub client : Client
    pub worker_is : slot.worker ≡ Some (worker.Client client)
    pub home_is : slot.home ≡ home_of h (suc c) - 1
    pub ran : SlotRan (h.members + c) slot
    pub leaves : LeavesOfClient (home_of h (suc c) - 1) client ran.left
    pub told : ClientRecord
    pub sends : List Sending
    pub one_is : ran.one ≡ news_of.Client told sends
    pub attended : IsAttended client.session client.waits ran.left.pass told sends
    pub of : IsClientOf h lines (suc c) client.session client.waits
    pub courier : IsCourierOf rings (client_place (suc c)) (first_number h.trouble (suc c)) client.session.courier

  client_told : (client : Client) (pass : List Place) (one : News) → ClientTells client pass (Some one)
      → (told : ClientRecord) × (sends : List Sending) × (one ≡ news_of.Client told sends)
      × IsAttended client.session client.waits pass told sends
  client_told client pass (news_of.Client told sends) tells = (told, sends, refl, tells)
  client_told client pass (news_of.Member take sends) tells = absurd tells

  pub client_ran : (c : ℕ) → c < length h.clients → ClientRan c
  client_ran c less =
      let many = g.dealt_are.clients_are.many in
      let kits = g.kits_are.clients_many in
      let before = g.dealt_are.members_are.many in
      let members = g.kits_are.members_many in
      let kit = get_some g.kits.clients.items c (omega (arith, less, kits)) in
      let found = get_some g.dealt_are.of_clients c (omega (arith, less, kits, many)) in
      let count : length g.dealt_are.of_members ≡ h.members = before ∙ members in
      let there : slice_get slots (h.members + c) ≡ Some found.0 =
      ap (λ (l : List Slot). slice_get l (h.members + c)) g.dealt_are.slots
      ∙ ap (λ (n : ℕ). slice_get (g.dealt_are.of_members ++ g.dealt_are.of_clients) (n + c)) (sym count)
      ∙ behind g.dealt_are.of_members g.dealt_are.of_clients c found.0 found.1 in
      let is : IsClientSlot kit.0 found.0 =
      subst (IsClientSlot kit.0) (get_or_from_slice_get g.dealt_are.of_clients c found.0 found.0 found.1)
      (subst (λ (x : ClientKit). IsClientSlot x (get_or g.dealt_are.of_clients c found.0))
      (get_or_from_slice_get g.kits.clients.items c kit.0 kit.0 kit.1)
      (g.dealt_are.clients_are.each c kit.0 found.0 (omega (arith, less, kits)))) in
      let kit_is : IsClientKit h lines rings (suc c) kit.0 =
      subst (IsClientKit h lines rings (suc c)) (get_or_from_slice_get g.kits.clients.items c kit.0 kit.0 kit.1)
      (g.kits_are.each_client c kit.0 less) in
      let ran = slot_ran (h.members + c) found.0 there in
      let home : found.0.home ≡ home_of h (suc c) - 1 = is.home_is ∙ ap (λ p. p.member - 1) kit_is.plan_is in
      let leaves : LeavesOfClient (home_of h (suc c) - 1) is.client ran.left =
      subst (λ (n : ℕ). LeavesOfClient n is.client ran.left) home
      (subst (λ (w : Option Worker). LeavesOf found.0.home w (Some ran.left)) is.worker_is ran.leaves) in
      let told = client_told is.client ran.left.pass ran.one (subst (ClientTells is.client ran.left.pass) ran.news_is leaves.tells) in
      let courier : IsCourierOf rings (client_place (suc c)) (first_number h.trouble (suc c)) is.client.session.courier =
      record { passes = kit_is.passes; its = kit_is.its; carries = ap (λ s. s.courier) is.session_is ∙ kit_is.carries } in
      record {
        slot = found.0;
        client = is.client;
        worker_is = is.worker_is;
        home_is = home;
        ran = ran;
        leaves = leaves;
        told = told.0;
        sends = told.1;
        one_is = told.2;
        attended = told.3;
        of = record {
          number = ap (λ s. s.client) is.session_is ∙ kit_is.number;
          plan_is = ap (λ s. s.plan) is.session_is ∙ kit_is.plan_is;
          steps_are = ap (λ s. s.steps) is.session_is ∙ kit_is.steps_are;
          waits_where = λ joins. is.waits_same ∙ kit_is.waits_where joins;
          many = lines_many rings (client_place (suc c)) (first_number h.trouble (suc c)) is.client.session.courier courier ∙ g.many;
          first = ap (λ x. x.first) courier.carries;
        };
        courier = courier;
      }
