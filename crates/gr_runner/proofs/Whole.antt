-- What is left of a run's threads and members.
use Rattle.std.proofs.Common.{◌≡◌, ◌≢◌, ◌⊎◌, ℕ, suc, ◌+◌, ◌-◌, ◌<◌, ◌≤◌, ◌==◌, Bool, true, List, [], ◌∷◌, ◌++◌, length, map, Option, Some}
use Rattle.std.proofs.Common.{refl, sym, ap, ◌∙◌, subst, arith, inl, inr, get_or, if◌then◌else◌}
use native.Mathlib.Decide.{ℕ_discrete}
use mathlib.Core.Logic.{dite}
use Rattle.std.specs.Prelude.{slice_get}
use Rattle.std.specs.List.{filter_map}
use Rattle.std.specs.Option.{option_to_list}
use Rattle.std.proofs.lemmas.Option.{get_or_from_slice_get}
use Rattle.gr_history.specs.declared.deed.Deed.{Deed}
use Rattle.gr_history.specs.declared.image.Gift.{Gift}
use Rattle.gr_law.specs.Grids.{Among}
use Rattle.gr_law.proofs.Lists.{among_right}
use Rattle.gr_post.specs.Mails.{has_end, of}
use Rattle.gr_post.specs.Passes.{Ring, Sending, Taking}
use Rattle.gr_post.specs.Plan.{first_number}
use Rattle.gr_script.specs.declared.line.Line.{Line}
use Rattle.gr_script.specs.Rules.{Heading, IsScript, home_of}
use Rattle.gr_script.specs.Steps.{joins_of}
use Rattle.gr_run_law.specs.Plans.{courier_of}
use Rattle.gr_run_law.specs.Shares.{Stands}
use Rattle.gr_run_law.specs.Threads.{client_place, member_place, round_of}
use Rattle.gr_run_law.proofs.Clients.{home_is_member}
use Rattle.gr_run_law.proofs.Delivering.{map_among}
use Rattle.gr_run_law.proofs.Lists.{get_some, same_number}
use Rattle.gr_member.proofs.Leaving.{empty_of}
use Rattle.gr_member.specs.Passes.{House}
use Rattle.gr_member.specs.Seats.{Place, nowhere}
use Rattle.gr_host.specs.Houses.{IsOther}
use Rattle.gr_host.specs.Joins.{what_of}
use Rattle.gr_host.specs.Mails.{others_of}
use Rattle.gr_host.specs.Works.{duty_is, gift_deed, gift_for}
use Rattle.gr_runner.specs.declared.gathering.Left.{Left}
use Rattle.gr_runner.specs.declared.gathering.News.{News}
use Rattle.gr_runner.specs.declared.gathering.News.TheVariants as news_of
use Rattle.gr_runner.specs.declared.slots.Worker.{Worker}
use Rattle.gr_runner.specs.Dealing.{worker_at}
use Rattle.gr_runner.specs.Gone.{HasGone}
use Rattle.gr_runner.specs.Left.{ClientLeft, HostLeft, LeavesClient, LeavesHost, at_shard, visit_at}
use Rattle.gr_runner.specs.Makings.{passes_at, plan_of}
use Rattle.gr_runner.specs.Receipts.{AreTaken}
use Rattle.gr_runner.specs.Sorting.{sends_in}
use Rattle.gr_runner.proofs.Found.{choose, get_among}
use Rattle.gr_runner.proofs.Joiners.{none_due}
use Rattle.gr_runner.proofs.Lists.{all_among}
use Rattle.gr_runner.proofs.Mailed.{all_of_sender, changes_end_nothing, reports_end_nothing}
use Rattle.gr_runner.proofs.Playing.{client_left, gifts_due, host_left, leaves_client, leaves_host, nothing_at}
use Rattle.gr_runner.proofs.Ran.{ClientRan, MemberRan, client_ran, dealt_among, dealt_passes, fresh_at, fresh_nothing, member_ran}

module _ (h : Heading) (lines : List Line) (script : IsScript h lines) (houses : List House) (rings : List Ring)
    (desks : List (List Place)) (news : List News) (g : HasGone h lines houses rings desks news) where
  no_house : ℕ → House
  no_house m = record { plan = plan_of h (suc m); locks = [] }

  -- ---- passes that were dealt

  -- a pass that was dealt at a member has a seat at each shard
  seats_of : (m : ℕ) → m < h.members → (p : List Place) → Among p (dealt_passes h lines script houses rings desks news g.played m)
      → length p ≡ h.shards
  seats_of m less p among =
      let f = fresh_at h lines script houses rings desks news g.played m less p among in
      let made = g.played.made.each m (record { plan = plan_of h (suc m); locks = [] }) [] less in
      f.1.its.many ∙ made.locks

  own_pass : (k : ℕ) (r : MemberRan h lines script houses rings desks news g.played k)
      → Among r.host.pass (dealt_passes h lines script houses rings desks news g.played k)
  own_pass k r = dealt_among h lines script houses rings desks news g.played k k r.slot r.host.pass r.ran.there
      (subst (λ (n : ℕ). Among r.host.pass (worker_at k n r.slot.worker)) (sym r.home_is)
      (subst (λ (w : Option Worker). Among r.host.pass (worker_at k k w)) (sym r.worker_is)
      (among_right r.host.pass (option_to_list (slice_get r.host.visits.items k)) (if k == k then r.host.pass ∷ [] else [])
      (subst (λ (b : Bool). Among r.host.pass (if b then r.host.pass ∷ [] else [])) (sym (same_number k)) (inl refl)))))

  -- a client's member, counted from 0
  home_place : (c : ℕ) → c < length h.clients → (home_of h (suc c) - 1 < h.members) × (suc (home_of h (suc c) - 1) ≡ home_of h (suc c))
  home_place c less =
      let is = home_is_member h script.heading (suc c) (omega arith, omega (arith, less)) in
      let low = is.0 in let high = is.1 in (omega arith, omega arith)

  client_pass : (c : ℕ) (r : ClientRan h lines script houses rings desks news g.played c)
      → Among r.client.session.pass (dealt_passes h lines script houses rings desks news g.played (home_of h (suc c) - 1))
  client_pass c r =
      let m : ℕ = home_of h (suc c) - 1 in
      dealt_among h lines script houses rings desks news g.played m (h.members + c) r.slot r.client.session.pass r.ran.there
      (subst (λ (n : ℕ). Among r.client.session.pass (worker_at m n r.slot.worker)) (sym r.home_is)
      (subst (λ (w : Option Worker). Among r.client.session.pass (worker_at m m w)) (sym r.worker_is)
      (subst (λ (b : Bool). Among r.client.session.pass (if b then r.client.session.pass ∷ [] else [])) (sym (same_number m)) (inl refl))))

  -- ---- members' threads

  receipts_of : (k : ℕ) (one : News) → slice_get news k ≡ Some one → AreTaken g.takes (sends_in one)
  receipts_of k one there = all_among (AreTaken g.takes) (map sends_in news) g.receipts (sends_in one)
      (map_among sends_in one news (get_among news k one there))

  -- what is known of the thread of the member behind this number
  pub record HostFacts (k : ℕ) (a : HostLeft) : Type 0 where
    pub leaves : LeavesHost h lines (suc k) a
    pub left : Left
    pub there : slice_get g.played.lefts k ≡ Some left
    pub home : left.home ≡ k
    pub pass_is : a.pass ≡ left.pass
    pub visits_is : a.visits ≡ left.visits.items
    pub whole : joins_of (suc k) lines ≢ 0 → length left.visits.items ≡ h.members
    pub idle : joins_of (suc k) lines ≡ 0 → (m shard : ℕ) → m < h.members → shard < h.shards → (visit_at a (suc m) shard).view.made ≡ []
    pub take : Taking
    pub sends : List Sending
    pub told : slice_get news k ≡ Some (news_of.Member take sends)
    pub taken_is : a.taken ≡ take.taken
    pub ended : (i : ℕ) → i < length h.clients + h.members → has_end (of i take.taken) ≡ true
    pub all : (m : ℕ) (t : Taking) (d : Sending) → m < h.members
        → has_end (of (member_place h (suc k)) (get_or g.takes m t).taken) ≡ true
        → of (member_place h (suc k)) (get_or g.takes m t).taken ≡ (get_or a.sends m d).sent

  host_facts : (k : ℕ) → k < h.members → (a : HostLeft) × HostFacts k a
  host_facts k less =
      let r = member_ran h lines script houses rings desks news g.played k less in
      let left = r.ran.left in
      let seats : length left.pass ≡ h.shards = r.leaves.stays.many ∙ seats_of k less r.host.pass (own_pass k r) in
      let kept = r.leaves.visits.many in
      let low : 1 ≤ suc k = omega arith in (
        host_left r.host left.pass left.visits.items r.take r.sends r.hosted,
        record {
          leaves = leaves_host h lines (suc k) r.host left.pass left.visits.items r.take r.sends r.of seats kept r.hosted
              (low, omega (arith, less));
          left = left;
          there = r.ran.left_there;
          home = r.leaves.there;
          pass_is = refl;
          visits_is = refl;
          whole = λ joins. kept ∙ r.of.visits joins;
          idle = idle r;
          take = r.take;
          sends = r.sends;
          told = r.ran.news_there ∙ ap (λ (n : News). Some n) r.one_is;
          taken_is = refl;
          ended = λ i l. r.hosted.ended i (let many = r.of.senders in omega (arith, l, many));
          all = λ m t d l ended.
              all_of_sender rings (member_place h (suc k)) (first_number h.trouble (courier_of (suc k))) r.host.courier _ r.sends g.takes m t d
              r.courier r.hosted.sent (reports_end_nothing (others_of r.host.plan) (filter_map round_of r.hosted.works))
              (subst (λ (n : News). AreTaken g.takes (sends_in n)) r.one_is (receipts_of k r.ran.one r.ran.news_there))
              (let many = g.played.many in omega (arith, l, many)) ended;
        },
      )
    where
      nothing_stands : (list : List Deed) (ps : List ℕ) → Stands list 0 ps [] → ps ≡ []
      nothing_stands list [] s = refl
      nothing_stands list (p ∷ ps) s = absurd s

      no_gifts : (gifts : List Gift) → map what_of gifts ≡ [] → gifts ≡ []
      no_gifts [] e = refl
      no_gifts (x ∷ gifts) e = absurd (no e)
        where
          no : what_of x ∷ map what_of gifts ≡ [] → ⊥
          no e = cc

      idle : (r : MemberRan h lines script houses rings desks news g.played k) → joins_of (suc k) lines ≡ 0 → (m shard : ℕ) → m < h.members
          → shard < h.shards → (at_shard (get_or r.ran.left.visits.items (suc m - 1) []) shard).view.made ≡ []
      idle r none m shard within less' = at r.visits
        where
          at : (length r.host.visits.items ≡ 0) ⊎ (length r.host.visits.items ≡ h.members)
              → (at_shard (get_or r.ran.left.visits.items (suc m - 1) []) shard).view.made ≡ []
          at (inl empty) =
              subst (λ (vs : List (List Place)). (at_shard (get_or vs (suc m - 1) []) shard).view.made ≡ [])
              (sym (empty_of r.ran.left.visits.items (r.leaves.visits.many ∙ empty))) refl
          at (inr full) = dite (ℕ_discrete m k) own other
            where
              back : suc m - 1 ≡ m
              back = omega arith

              own : m ≡ k → (at_shard (get_or r.ran.left.visits.items (suc m - 1) []) shard).view.made ≡ []
              own is =
                  let member = ap (λ p. p.member) r.of.plan_is in
                  let spot : r.host.plan.member - 1 ≡ suc m - 1 = omega (arith, member, is) in
                  let v = get_some r.host.visits.items m (omega (arith, within, full)) in
                  let there = dealt_among h lines script houses rings desks news g.played m k r.slot v.0 r.ran.there
                  (subst (λ (n : ℕ). Among v.0 (worker_at m n r.slot.worker)) (sym r.home_is)
                  (subst (λ (w : Option Worker). Among v.0 (worker_at m k w)) (sym r.worker_is)
                  (subst (λ (o : Option (List Place)). Among v.0 (option_to_list o ++ (if k == m then r.host.pass ∷ [] else []))) (sym v.1)
                  (inl refl)))) in
                  let f = fresh_at h lines script houses rings desks news g.played m within v.0 there in
                  let same : get_or r.ran.left.visits.items (suc m - 1) [] ≡ v.0 =
                  subst (λ (i : ℕ). get_or r.ran.left.visits.items i [] ≡ get_or r.host.visits.items i []) spot (r.hosted.spare [])
                  ∙ ap (λ (i : ℕ). get_or r.host.visits.items i []) back ∙ get_or_from_slice_get r.host.visits.items m v.0 [] v.1 in
                  ap (λ (p : List Place). (at_shard p shard).view.made) same
                  ∙ nothing_at v.0 shard (fresh_nothing h lines script houses rings desks news g.played
                  (get_or houses m (record { plan = plan_of h (suc m); locks = [] })) (passes_at h (suc m)) f.0 v.0 f.1)

              other : (m ≡ k → ⊥) → (at_shard (get_or r.ran.left.visits.items (suc m - 1) []) shard).view.made ≡ []
              other ne =
                  let plan = r.of.plan_is in
                  let o : IsOther r.host.plan (suc m) =
                  subst (λ q. IsOther q (suc m)) (sym plan)
                  (record { some = omega arith; stated = omega (arith, within); other = λ e. ne (omega (arith, e)) }) in
                  let sh : shard < r.host.plan.shards = subst (λ q. shard < q.shards) (sym plan) less' in
                  let all : length r.ran.left.visits.items ≡ r.host.plan.members =
                  r.leaves.visits.many ∙ full ∙ sym (ap (λ q. q.members) plan) in
                  let gave = r.hosted.gave (suc m) shard [] nowhere o sh all in
                  let none_given : r.hosted.gifts (suc m) shard ≡ [] =
                  no_gifts (r.hosted.gifts (suc m) shard)
                  (r.hosted.whats (suc m) shard o sh ∙ ap (λ q. filter_map (gift_for (suc m) q.member) (map duty_is r.host.duties)) plan
                  ∙ ap (filter_map (gift_for (suc m) (suc k))) r.of.duties_are ∙ gifts_due (suc m) (suc k) lines
                  ∙ none_due (suc m) (suc k) lines none) in
                  nothing_stands _ _
                  (subst (λ (gs : List Gift). Stands (at_shard (get_or r.ran.left.visits.items (suc m - 1) []) shard).view.seen 0
                  (at_shard (get_or r.ran.left.visits.items (suc m - 1) []) shard).view.made (map (gift_deed r.host.plan.member) gs)) none_given
                  gave.stands)

  -- ---- clients' threads

  pub record ClientFacts (c : ℕ) (a : ClientLeft) : Type 0 where
    pub leaves : LeavesClient h lines (suc c) a
    pub left : Left
    pub there : slice_get g.played.lefts (h.members + c) ≡ Some left
    pub home : left.home ≡ home_of h (suc c) - 1
    pub pass_is : a.pass ≡ left.pass
    pub none : left.visits.items ≡ []
    pub sends : List Sending
    pub told : slice_get news (h.members + c) ≡ Some (news_of.Client a.told sends)
    pub all : (m : ℕ) (t : Taking) (d : Sending) → m < h.members
        → has_end (of (client_place (suc c)) (get_or g.takes m t).taken) ≡ true
        → of (client_place (suc c)) (get_or g.takes m t).taken ≡ (get_or a.sends m d).sent

  client_facts : (c : ℕ) → c < length h.clients → (a : ClientLeft) × ClientFacts c a
  client_facts c less =
      let r = client_ran h lines script houses rings desks news g.played c less in
      let left = r.ran.left in
      let home = home_place c less in
      let seats : length left.pass ≡ h.shards =
      r.leaves.stays.many ∙ seats_of (home_of h (suc c) - 1) home.0 r.client.session.pass (client_pass c r) in (
        client_left r.client.session r.client.waits left.pass r.told r.sends r.attended,
        record {
          leaves = leaves_client h lines (suc c) r.client.session r.client.waits left.pass r.told r.sends r.of seats r.attended;
          left = left;
          there = r.ran.left_there;
          home = r.leaves.there;
          pass_is = refl;
          none = r.leaves.none;
          sends = r.sends;
          told = r.ran.news_there ∙ ap (λ (n : News). Some n) r.one_is;
          all = λ m t d l ended.
              all_of_sender rings (client_place (suc c)) (first_number h.trouble (suc c)) r.client.session.courier _ r.sends g.takes m t d
              r.courier r.attended.sent (changes_end_nothing r.client.session.plan.shards r.attended.served)
              (subst (λ (n : News). AreTaken g.takes (sends_in n)) r.one_is (receipts_of (h.members + c) r.ran.one r.ran.news_there))
              (let many = g.played.many in omega (arith, l, many)) ended;
        },
      )

  -- ---- all of them

  no_host : HostLeft
  no_host = record { works = []; gifts = λ giver shard. []; pass = []; visits = []; taken = []; sends = [] }

  no_client : ClientLeft
  no_client = record { served = []; pass = []; told = record { client = 0; member = 0; answers = [] }; sends = [] }

  pub all_hosts : (f : ℕ → HostLeft) × ((k : ℕ) → k < h.members → HostFacts k (f k))
  all_hosts = choose HostFacts h.members host_facts no_host

  pub all_clients : (f : ℕ → ClientLeft) × ((c : ℕ) → c < length h.clients → ClientFacts c (f c))
  all_clients = choose ClientFacts (length h.clients) client_facts no_client
