-- What threads leave of what they were given is what the law asks of them.
use Rattle.std.proofs.Common.{◌≡◌, ◌≢◌, ℕ, zero, suc, ◌+◌, ◌-◌, ◌<◌, ◌==◌, ◌&&◌, Bool, true, false, not, List, [], ◌∷◌, length, map, Option, Some, None}
use Rattle.std.proofs.Common.{refl, sym, ap, ◌∙◌, subst, arith, reverse, filter, flat_map, if◌then◌else◌, get_or, ne_eqb}
use Rattle.std.specs.List.{AllByRecursion, cons_option, filter_map}
use Rattle.gr_value.specs.Shard.{shard_of}
use Rattle.gr_history.specs.declared.image.What.{What}
use Rattle.gr_history.specs.declared.record.ClientRecord.{ClientRecord}
use Rattle.gr_post.specs.declared.mail.Posted.{Posted}
use Rattle.gr_post.specs.declared.mail.Posting.{Posting}
use Rattle.gr_post.specs.Couriers.{Carrying}
use Rattle.gr_post.specs.Passes.{Sending, Taking}
use Rattle.gr_post.specs.Plan.{delivered, draws, first_number}
use Rattle.gr_script.specs.declared.line.Line.{Line}
use Rattle.gr_script.specs.declared.line.Line.TheVariants as line
use Rattle.gr_script.specs.Rules.{Heading, IsMember, home_of}
use Rattle.gr_script.specs.Steps.{joins_of, steps_of}
use Rattle.gr_world.specs.Courses.{what_from}
use Rattle.gr_world.specs.Served.{HasReplies, answer_of}
use Rattle.gr_run_law.specs.Duties.{Duty, Joins, Reports, Sweeps, duty_of, gift_due}
use Rattle.gr_run_law.specs.Plans.{changes_posted, courier_of, draws_for, posted_from}
use Rattle.gr_run_law.specs.Shares.{Stands}
use Rattle.gr_run_law.specs.Threads.{FitsShards, GotFrom, HeardOf, IsFromMember, Merged, ReportedAll, SweptAll, TookIn, Work}
use Rattle.gr_run_law.specs.Threads.{got_from, is_for, mail_of, round_of, work_at}
use Rattle.gr_run_law.proofs.Lists.{true_false}
use Rattle.gr_member.specs.declared.plan.Plan.{Plan}
use Rattle.gr_member.specs.Plans.{identity_of}
use Rattle.gr_member.specs.Seats.{Place, nowhere}
use Rattle.gr_session.specs.declared.session.Session.{Session}
use Rattle.gr_session.specs.Clients.{IsAttended}
use Rattle.gr_session.specs.Mailing.{HasSent}
use Rattle.gr_session.specs.Sessions.{IsServedAt}
use Rattle.gr_session.specs.Waiting.{HasMadeNothing, IsReadyFirst}
use Rattle.gr_host.specs.declared.host.Host.{Host}
use Rattle.gr_host.specs.Hosts.{IsHosted}
use Rattle.gr_host.specs.Houses.{IsOther, of_member}
use Rattle.gr_host.specs.Joins.{IsGivenBy}
use Rattle.gr_host.specs.Mails.{others_of}
use Rattle.gr_host.specs.Works.{HasGiven, duty_is, gift_for}
use Rattle.gr_runner.specs.Left.{ClientLeft, HostLeft, IsGiver, LeavesClient, LeavesHost, at_shard}
use Rattle.gr_runner.specs.Makings.{plan_of}
use Rattle.gr_runner.proofs.Lists.{all_weaker}

-- What a courier has sent by the plan of its number, to the inbox of a member.
sent_by : (heading : Heading) (number : ℕ) (c : Carrying) (posted : List Posting) (sends : List Sending) (member : ℕ) (d : Sending)
    → HasSent c posted sends → length c.lines ≡ heading.members → c.first ≡ first_number heading.trouble number → IsMember heading member
    → (get_or sends (member - 1) d).sent ≡ delivered (draws_for heading number member posted)
sent_by heading number c posted sends member d sent many first is =
    let low = is.0 in
    let high = is.1 in
    sent.sent (member - 1) d (omega (arith, low, high, many))
    ∙ ap (λ (n : ℕ). delivered (draws n c.first (member - 1) (reverse posted))) many
    ∙ ap (λ (n : ℕ). delivered (draws heading.members n (member - 1) (reverse posted))) first

-- ---- a client's thread

-- The session is that of the client, before any step.
pub record IsClientOf (heading : Heading) (lines : List Line) (client : ℕ) (s : Session) (waits : Bool) : Type 0 where
  pub number : s.client ≡ client
  pub plan_is : s.plan ≡ plan_of heading (home_of heading client)
  pub steps_are : s.steps ≡ steps_of client lines
  pub waits_where : joins_of (home_of heading client) lines ≢ 0 → waits ≡ true
  pub many : length s.courier.lines ≡ heading.members
  pub first : s.courier.first ≡ first_number heading.trouble client

abbrev pub client_left : (s : Session) (waits : Bool) (pass : List Place) (told : ClientRecord) (sends : List Sending)
    → IsAttended s waits pass told sends → ClientLeft
client_left s waits pass told sends a = record { served = a.served; pass = pass; told = told; sends = sends }

pub leaves_client : (heading : Heading) (lines : List Line) (client : ℕ) (s : Session) (waits : Bool) (pass : List Place)
    (told : ClientRecord) (sends : List Sending) → IsClientOf heading lines client s waits → length pass ≡ heading.shards
    → (a : IsAttended s waits pass told sends) → LeavesClient heading lines client (client_left s waits pass told sends a)
leaves_client heading lines client s waits pass told sends of seats a = record {
  steps = a.steps ∙ of.steps_are;
  told_is = a.told_is
      ∙ ap (λ (n : ℕ). (let r : ClientRecord = record { client = n; member = s.plan.member; answers = map answer_of a.served } in r)) of.number
      ∙ ap (λ (p : Plan). (let r : ClientRecord = record { client = client; member = p.member; answers = map answer_of a.served } in r))
      of.plan_is;
  replies = subst (λ (n : ℕ). AllByRecursion (HasReplies n) a.served) seats a.replies;
  here = λ shard less.
      subst (λ (p : Plan). IsServedAt client p.shards shard (at_shard pass shard) a.served) of.plan_is
      (subst (λ (n : ℕ). IsServedAt n s.plan.shards shard (at_shard pass shard) a.served) of.number
      (a.here shard nowhere (omega (arith, less, seats))));
  known = λ shard less. a.known shard nowhere (omega (arith, less, seats));
  waited = λ shard less joins.
      subst (λ (p : Plan). IsReadyFirst (identity_of p shard) (at_shard pass shard).view.seen (at_shard pass shard).view.made) of.plan_is
      (a.waited (of.waits_where joins) shard nowhere (omega (arith, less, seats)));
  sent = λ member d is.
      sent_by heading client s.courier (changes_posted s.plan.shards a.served) sends member d a.sent of.many of.first is
      ∙ ap (λ (p : Plan). delivered (draws_for heading client member (changes_posted p.shards a.served))) of.plan_is;
}

-- ---- a member's thread

-- a pass that made nothing did so at each shard, and beyond them
pub nothing_at : (p : List Place) (shard : ℕ) → HasMadeNothing p → (at_shard p shard).view.made ≡ []
nothing_at [] shard none = refl
nothing_at (s ∷ p) zero none = none zero nowhere (omega arith)
nothing_at (s ∷ p) (suc shard) none = nothing_at p shard (λ k x l. none (suc k) x (omega (arith, l)))

-- It is the thread of the member, before it did anything.
pub record IsHostOf (heading : Heading) (lines : List Line) (member : ℕ) (s : Host) : Type 0 where
  pub plan_is : s.plan ≡ plan_of heading member
  pub duties_are : map duty_is s.duties ≡ filter_map (duty_of member) lines
  pub senders : s.take.senders ≡ length heading.clients + heading.members
  pub none : s.take.taken ≡ []
  pub many : length s.courier.lines ≡ heading.members
  pub first : s.courier.first ≡ first_number heading.trouble (courier_of member)
  pub spare : joins_of member lines ≢ 0 → HasMadeNothing (get_or s.visits.items (member - 1) [])
  pub visits : joins_of member lines ≢ 0 → length s.visits.items ≡ heading.members

-- what is due of a member's lines is what its duties say
pub gifts_due : (giver joiner : ℕ) (lines : List Line)
    → filter_map (gift_for giver joiner) (filter_map (duty_of joiner) lines) ≡ filter_map (gift_due giver joiner) lines
gifts_due giver joiner [] = refl
gifts_due giver joiner (line.Step client seq act ∷ lines) = gifts_due giver joiner lines
gifts_due giver joiner (line.Deliver to client seq ∷ lines) = gifts_due giver joiner lines
gifts_due giver joiner (line.Report of ∷ lines) = at_test (of == joiner) (gifts_due giver joiner lines)
  where
    at_test : (b : Bool) → filter_map (gift_for giver joiner) (filter_map (duty_of joiner) lines) ≡ filter_map (gift_due giver joiner) lines
        → filter_map (gift_for giver joiner) (cons_option (if b then Some Reports else None) (filter_map (duty_of joiner) lines))
        ≡ filter_map (gift_due giver joiner) lines
    at_test true e = e
    at_test false e = e
gifts_due giver joiner (line.Hear by of number ∷ lines) = gifts_due giver joiner lines
gifts_due giver joiner (line.Sweep of moment ∷ lines) = at_test (of == joiner) (gifts_due giver joiner lines)
  where
    at_test : (b : Bool) → filter_map (gift_for giver joiner) (filter_map (duty_of joiner) lines) ≡ filter_map (gift_due giver joiner) lines
        → filter_map (gift_for giver joiner) (cons_option (if b then Some (Sweeps moment) else None) (filter_map (duty_of joiner) lines))
        ≡ filter_map (gift_due giver joiner) lines
    at_test true e = e
    at_test false e = e
gifts_due giver joiner (line.Depart of ∷ lines) = gifts_due giver joiner lines
gifts_due giver joiner (line.Leave client moment ∷ lines) = gifts_due giver joiner lines
gifts_due giver joiner (line.Back client moment ∷ lines) = gifts_due giver joiner lines
gifts_due giver joiner (line.Join to provider ∷ lines) = at_test (to == joiner) (giver == joiner) refl (gifts_due giver joiner lines)
  where
    f : Duty → Option What
    f = gift_for giver joiner

    due : List What
    due = filter_map (gift_due giver joiner) lines

    at_test : (b d : Bool) → gift_for giver joiner (Joins provider) ≡ (if d then None else Some (what_from (giver == provider)))
        → filter_map (gift_for giver joiner) (filter_map (duty_of joiner) lines) ≡ filter_map (gift_due giver joiner) lines
        → filter_map (gift_for giver joiner) (cons_option (if b then Some (Joins provider) else None) (filter_map (duty_of joiner) lines))
        ≡ cons_option (if b && not d then Some (what_from (giver == provider)) else None) (filter_map (gift_due giver joiner) lines)
    at_test true true g e =
        ap (λ (o : Option What). cons_option o (filter_map (gift_for giver joiner) (filter_map (duty_of joiner) lines))) g ∙ e
    at_test true false g e =
        ap (λ (o : Option What). cons_option o (filter_map (gift_for giver joiner) (filter_map (duty_of joiner) lines))) g
        ∙ ap (λ (l : List What). what_from (giver == provider) ∷ l) e
    at_test false d g e = e

abbrev pub host_left : (s : Host) (pass : List Place) (visits : List (List Place)) (take : Taking) (sends : List Sending)
    → IsHosted s pass visits take sends → HostLeft
host_left s pass visits take sends h = record {
  works = h.works;
  gifts = h.gifts;
  pass = pass;
  visits = visits;
  taken = take.taken;
  sends = sends;
}

pub leaves_host : (heading : Heading) (lines : List Line) (member : ℕ) (s : Host) (pass : List Place) (visits : List (List Place))
    (take : Taking) (sends : List Sending) → IsHostOf heading lines member s → length pass ≡ heading.shards
    → length visits ≡ length s.visits.items → (h : IsHosted s pass visits take sends) → IsMember heading member
    → LeavesHost heading lines member (host_left s pass visits take sends h)
leaves_host heading lines member s pass visits take sends of seats kept h is = record {
  stands = λ shard less.
      subst (λ (p : Plan). Stands (at_shard pass shard).view.seen 0 (at_shard pass shard).view.made (flat_map (work_at p.shards shard) h.works))
      of.plan_is (h.stands shard nowhere (omega (arith, less, seats)));
  fits = subst (λ (p : Plan). AllByRecursion (FitsShards p.shards) h.works) of.plan_is h.fits;
  duties = λ shard less. h.duties shard (within shard less) ∙ of.duties_are;
  mails = subst (λ (p : Plan). filter_map mail_of h.works ≡ filter (is_for p.shards) (map (λ (m : Posted). m.mail) take.taken)) of.plan_is
      h.mails;
  members = all_weaker (IsGivenBy s.plan) (IsFromMember heading) from_member h.works h.givers;
  gave = λ giver shard from less joins.
      subst (λ (p : Plan). HasGiven (identity_of (of_member p giver) shard) p.floor p.member (at_shard (get_or visits (giver - 1) []) shard)
      (h.gifts giver shard)) of.plan_is
      (h.gave giver shard [] nowhere (other giver from) (within shard less) (whole joins));
  whats = λ giver shard from less.
      h.whats giver shard (other giver from) (within shard less)
      ∙ ap (λ (p : Plan). filter_map (gift_for giver p.member) (map duty_is s.duties)) of.plan_is
      ∙ ap (filter_map (gift_for giver member)) of.duties_are ∙ gifts_due giver member lines;
  got = λ giver shard from less.
      ap (λ (p : Plan). filter_map (got_from p.shards shard giver) h.works) (sym of.plan_is)
      ∙ h.got giver shard (other giver from) (within shard less);
  not_own = λ shard less. not_own shard h.works h.givers;
  merged = λ shard image among.
      let m = h.merged shard image among in
      let own = ap (λ (p : Plan). p.shards) of.plan_is in
      let low = m.0 in (omega (arith, low, own), (m.1.0, giver_of m.1.0 m.1.1, m.1.2));
  spare = λ shard less joins. spare_at shard joins;
  senders = subst (λ (n : ℕ). AllByRecursion (λ (p : Posted). p.from < n) take.taken) of.senders h.senders;
  sent = λ to d stated.
      sent_by heading (courier_of member) s.courier (flat_map (posted_from (others_of s.plan) 0) (filter_map round_of h.works)) sends to d
      h.sent of.many of.first stated
      ∙ ap (λ (p : Plan). delivered (draws_for heading (courier_of member) to
      (flat_map (posted_from (others_of p) 0) (filter_map round_of h.works)))) of.plan_is;
}
  where
    within : (shard : ℕ) → shard < heading.shards → shard < s.plan.shards
    within shard less = let own = ap (λ (p : Plan). p.shards) of.plan_is in omega (arith, less, own)

    other : (giver : ℕ) → IsGiver heading member giver → IsOther s.plan giver
    other giver from = subst (λ (p : Plan). IsOther p giver) (sym of.plan_is)
        (record { some = from.stated.0; stated = from.stated.1; other = from.other })

    giver_of : (giver : ℕ) → IsOther s.plan giver → IsGiver heading member giver
    giver_of giver o =
        let p : IsOther (plan_of heading member) giver = subst (λ (q : Plan). IsOther q giver) of.plan_is o in
        record { stated = (p.some, p.stated); other = p.other }

    from_member : (w : Work) → IsGivenBy s.plan w → IsFromMember heading w
    from_member (GotFrom giver change verdict) o = (giver_of giver o).stated
    from_member (TookIn at change verdict) o = tt
    from_member (HeardOf at report) o = tt
    from_member (ReportedAll reports) o = tt
    from_member (SweptAll moment expired) o = tt
    from_member (Merged at image) o = tt

    whole : joins_of member lines ≢ 0 → length visits ≡ s.plan.members
    whole joins = kept ∙ of.visits joins ∙ sym (ap (λ (p : Plan). p.members) of.plan_is)

    spare_at : (shard : ℕ) → joins_of member lines ≢ 0 → (at_shard (get_or visits (member - 1) []) shard).view.made ≡ []
    spare_at shard joins =
        let own = ap (λ (p : Plan). p.member) of.plan_is in
        let same : get_or visits (member - 1) [] ≡ get_or s.visits.items (member - 1) [] =
        subst (λ (n : ℕ). get_or visits (n - 1) [] ≡ get_or s.visits.items (n - 1) []) own (h.spare []) in
        ap (λ (p : List Place). (at_shard p shard).view.made) same
        ∙ nothing_at (get_or s.visits.items (member - 1) []) shard (of.spare joins)

    not_own : (shard : ℕ) (works : List Work) → AllByRecursion (IsGivenBy s.plan) works
        → filter_map (got_from heading.shards shard member) works ≡ []
    not_own shard [] givers = refl
    not_own shard (TookIn at change verdict ∷ works) givers = not_own shard works givers.1
    not_own shard (HeardOf at report ∷ works) givers = not_own shard works givers.1
    not_own shard (ReportedAll reports ∷ works) givers = not_own shard works givers.1
    not_own shard (SweptAll moment expired ∷ works) givers = not_own shard works givers.1
    not_own shard (Merged at image ∷ works) givers = not_own shard works givers.1
    not_own shard (GotFrom giver change verdict ∷ works) givers =
        at_test (shard == shard_of change.key heading.shards) (giver == member) (ne_eqb giver member (giver_of giver givers.0).other)
        (not_own shard works givers.1)
      where
        at_test : (a b : Bool) → b ≡ false → filter_map (got_from heading.shards shard member) works ≡ []
            → cons_option (if a && b then Some change else None) (filter_map (got_from heading.shards shard member) works) ≡ []
        at_test true false e none = none
        at_test false b e none = none
        at_test true true e none = absurd (true_false e)
