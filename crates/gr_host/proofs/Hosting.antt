-- How a member's thread goes on.
use Rattle.std.proofs.Common.{◌≡◌, ℕ, suc, ◌+◌, ◌-◌, Bool, List, [], ◌∷◌, ◌++◌, length, get_or, map, take, Some}
use Rattle.std.proofs.Common.{refl, sym, ap, ◌∙◌, subst, arith, append-nil, append_assoc}
use Rattle.std.specs.Prelude.{flat_map, filter, slice_get}
use Rattle.std.specs.Global.{Vec}
use Rattle.std.specs.List.{AllByRecursion, filter_map}
use Rattle.std.proofs.lemmas.Grind.{flat_map-append}
use Rattle.std.proofs.lemmas.List.{map-append}
use Rattle.std.proofs.lemmas.List.Elements.{filter-append, filter_map-append}
use Rattle.gr_vector.specs.declared.report.Report.{Report}
use Rattle.gr_post.specs.declared.mail.Mail.{Mail}
use Rattle.gr_post.specs.declared.mail.Posted.{Posted}
use Rattle.gr_post.specs.declared.mail.Posting.{Posting}
use Rattle.gr_post.specs.Couriers.{Carrying, IsPushed, passes_of, tables_of}
use Rattle.gr_post.specs.Passes.{Ring, Taking}
use Rattle.gr_run_law.specs.Duties.{Duty as Due}
use Rattle.gr_run_law.specs.Plans.{posted_from}
use Rattle.gr_run_law.specs.Threads.{ReportedAll, SweptAll, is_for, mail_of, round_of}
use Rattle.gr_member.specs.declared.plan.Plan.{Plan}
use Rattle.gr_member.specs.Plans.{IsPlan}
use Rattle.gr_member.specs.Seats.{Place}
use Rattle.gr_member.specs.Passes.{House, IsPassOf, StaysAll}
use Rattle.gr_member.proofs.Passing.{pass_stays}
use Rattle.gr_session.specs.Mailing.{CarriesOn}
use Rattle.gr_session.proofs.Mailing.{carries_same, carries_trans, pushed_carries, pushed_posts}
use Rattle.gr_host.specs.declared.duties.Duty.{Duty}
use Rattle.gr_host.specs.declared.duties.Duty.TheVariants as duty_
use Rattle.gr_host.specs.declared.host.Host.{Host}
use Rattle.gr_host.specs.Ends.{AreEnds}
use Rattle.gr_host.specs.Houses.{AreMembers, IsOther}
use Rattle.gr_host.specs.Hosts.{CanBeDone, DoesLine, HasMailAt, HostGoesOn, IsHostAt, Works}
use Rattle.gr_host.specs.Joins.{Joined}
use Rattle.gr_host.specs.Mails.{TakesMore, TakesOne, others_of, works_of}
use Rattle.gr_host.specs.Works.{Follows, HasDone, HasReported, HasSwept, duty_is}
use Rattle.gr_host.proofs.Doing.{did_join, did_mail, did_none, did_report, did_sweep, did_trans, its_mail, no_round}
use Rattle.gr_host.proofs.Lists.{take_next}
use Rattle.gr_host.proofs.Marking.{takes_none, takes_trans}
use Rattle.gr_host.proofs.Staying.{all_same, all_trans, at_same, at_trans, pass_long, passes_stay}

-- ---- the same thread

pub goes_same : (s : Host) → HostGoesOn s s
goes_same s = record { plan = refl; duties = refl; stays = all_same s.pass; visits = at_same s.visits.items }

pub goes_trans : (s t u : Host) → HostGoesOn s t → HostGoesOn t u → HostGoesOn s u
goes_trans s t u a b = record {
  plan = b.plan ∙ a.plan;
  duties = b.duties ∙ a.duties;
  stays = all_trans s.pass t.pass u.pass a.stays b.stays;
  visits = at_trans s.visits.items t.visits.items u.visits.items a.visits b.visits;
}

pub can_same : (s t : Host) → t.plan ≡ s.plan → length t.visits.items ≡ length s.visits.items → (duty : Duty) → CanBeDone s duty
    → CanBeDone t duty
can_same s t plan many duty_.Report c = tt
can_same s t plan many (duty_.Sweep moment) c = tt
can_same s t plan many (duty_.Join from) c =
    (subst (λ (p : Plan). IsOther p from) (sym plan) c.0, many ∙ c.1 ∙ ap (λ (p : Plan). p.members) (sym plan))

can_all : (s t : Host) → t.plan ≡ s.plan → length t.visits.items ≡ length s.visits.items → (ds : List Duty)
    → AllByRecursion (CanBeDone s) ds → AllByRecursion (CanBeDone t) ds
can_all s t plan many [] all = tt
can_all s t plan many (duty ∷ ds) all = (can_same s t plan many duty all.0, can_all s t plan many ds all.1)

pub host_at : (houses : List House) (rings : List Ring) (s t : Host) → IsHostAt houses rings s → HostGoesOn s t → HasMailAt rings t
    → IsHostAt houses rings t
host_at houses rings s t a g mail = record {
  mail = mail;
  members = subst (λ (p : Plan). AreMembers p houses) (sym g.plan) a.members;
  its = λ h.
      subst (λ (p : Plan). IsPassOf (get_or houses (p.member - 1) h) t.pass) (sym g.plan)
      (pass_stays (get_or houses (s.plan.member - 1) h) s.pass t.pass (a.its h) g.stays);
  visits = λ long.
      passes_stay houses s.visits.items t.visits.items
      (a.visits (sym g.visits.many ∙ long ∙ ap (λ (p : Plan). p.members) g.plan)) g.visits;
  duties = subst (λ (ds : List Duty). AllByRecursion (CanBeDone t) ds) (sym g.duties)
      (can_all s t g.plan g.visits.many s.duties a.duties);
}

pub mail_at : (rings : List Ring) (s t : Host) → HasMailAt rings s → t.plan ≡ s.plan → t.take.table ≡ s.take.table
    → AreEnds t.take.senders t.take.taken t.ends → tables_of t.courier ≡ tables_of s.courier
    → length (passes_of t.courier) ≡ length (passes_of s.courier) → HasMailAt rings t
mail_at rings s t m plan table ends tables many = record {
  planned = subst IsPlan (sym plan) m.planned;
  takes = λ r. subst (λ (p : Plan). t.take.table ≡ (get_or rings (p.member - 1) r).table) (sym plan) (table ∙ m.takes r);
  ends = ends;
  sends = m.sends ∙ sym tables;
  many = many ∙ m.many ∙ ap (λ (p : Plan). p.members) (sym plan);
}

-- ---- what it did

-- Its pass has a place for each shard.
pub as_many : (houses : List House) (rings : List Ring) (s : Host) → IsHostAt houses rings s → length s.pass ≡ s.plan.shards
as_many houses rings s a = pass_long s.plan houses s.pass a.members a.mail.planned.some_member a.mail.planned.stated a.its

pub works_same : (s : Host) → Works s s []
works_same s = (
  [],
  record {
    did = did_none s.plan s.pass s.visits.items;
    more = [];
    took = takes_none s.take;
    mails = refl;
    posted = sym (append-nil s.courier.posted);
  },
)

pub works_trans : (s t u : Host) (ds es : List Duty) → HostGoesOn s t → Works s t ds → Works t u es → Works s u (ds ++ es)
works_trans s t u ds es g a b =
    let xs = a.0 in
    let ys = b.0 in
    let shards : is_for t.plan.shards ≡ is_for s.plan.shards = ap (λ (p : Plan). is_for p.shards) g.plan in
    let posts = posted_from (others_of s.plan) 0 in (
      a.0 ++ b.0,
      record {
        did = subst (λ (l : List Due). HasDone s.plan l s.pass u.pass s.visits.items u.visits.items (a.0 ++ b.0))
            (sym (map-append duty_is ds es))
            (did_trans s.plan (map duty_is ds) (map duty_is es) s.pass t.pass u.pass s.visits.items t.visits.items u.visits.items a.0 b.0
            a.1.did
            (subst (λ (p : Plan). HasDone p (map duty_is es) t.pass u.pass t.visits.items u.visits.items b.0) g.plan b.1.did));
        more = a.1.more ++ b.1.more;
        took = takes_trans s.take t.take u.take a.1.more b.1.more a.1.took b.1.took;
        mails = filter_map-append mail_of a.0 b.0
            ∙ ap (λ (l : List Mail). l ++ filter_map mail_of b.0) a.1.mails
            ∙ ap (λ (l : List Mail). filter (is_for s.plan.shards) (map (λ (p : Posted). p.mail) a.1.more) ++ l)
            (b.1.mails ∙ ap (λ (f : Mail → Bool). filter f (map (λ (p : Posted). p.mail) b.1.more)) shards)
            ∙ sym (ap (filter (is_for s.plan.shards)) (map-append (λ (p : Posted). p.mail) a.1.more b.1.more)
            ∙ filter-append (is_for s.plan.shards) (map (λ (p : Posted). p.mail) a.1.more) (map (λ (p : Posted). p.mail) b.1.more));
        posted = b.1.posted
            ∙ ap (λ (p : Plan). t.courier.posted ++ flat_map (posted_from (others_of p) 0) (filter_map round_of b.0)) g.plan
            ∙ ap (λ (l : List Posting). l ++ flat_map posts (filter_map round_of b.0)) a.1.posted
            ∙ append_assoc s.courier.posted (flat_map posts (filter_map round_of a.0)) (flat_map posts (filter_map round_of b.0))
            ∙ ap (λ (l : List Posting). s.courier.posted ++ l)
            (sym (ap (flat_map posts) (filter_map-append round_of a.0 b.0)
            ∙ flat_map-append posts (filter_map round_of a.0) (filter_map round_of b.0)));
      },
    )

-- where the courier alone went on, and was posted nothing
pub works_sent : (s : Host) (c : Carrying) → c.posted ≡ s.courier.posted → Works s (record s { courier = c }) []
works_sent s c same = (
  [],
  record {
    did = did_none s.plan s.pass s.visits.items;
    more = [];
    took = takes_none s.take;
    mails = refl;
    posted = same ∙ sym (append-nil s.courier.posted);
  },
)

pub works_mail : (s : Host) (q : List Place) (take : Taking) (ends : List Bool) (mail : Mail) → length s.pass ≡ s.plan.shards
    → Follows s.plan.shards mail s.pass q → TakesOne s.take mail take → Works s (record s { pass = q; take = take; ends = ends }) []
works_mail s q take ends mail many f one =
    let works = works_of s.plan.shards f.0 mail in
    let from : Posted = record { from = one.0; mail = mail } in (
      works_of s.plan.shards f.0 mail,
      record {
        did = did_mail s.plan s.pass q s.visits.items mail many f;
        more = from ∷ [];
        took = one.1;
        mails = its_mail s.plan.shards f.0 mail;
        posted = sym (ap (λ (l : List (List Report)). s.courier.posted ++ flat_map (posted_from (others_of s.plan) 0) l)
            (no_round s.plan.shards f.0 mail) ∙ append-nil s.courier.posted);
      },
    )

pub works_report : (s : Host) (q : List Place) (c : Carrying) → length s.pass ≡ s.plan.shards
    → HasReported s.plan s.pass q s.courier.posted c.posted → Works s (record s { pass = q; courier = c }) (duty_.Report ∷ [])
works_report s q c many h = (
  ReportedAll h.reports ∷ [],
  record {
    did = did_report s.plan s.pass q s.visits.items h.reports many h.turns;
    more = [];
    took = takes_none s.take;
    mails = refl;
    posted = h.posts ∙ ap (λ (l : List Posting). s.courier.posted ++ l) (sym (append-nil (posted_from (others_of s.plan) 0 h.reports)));
  },
)

pub works_sweep : (s : Host) (q : List Place) (moment : ℕ) → length s.pass ≡ s.plan.shards → HasSwept moment s.pass q
    → Works s (record s { pass = q }) (duty_.Sweep moment ∷ [])
works_sweep s q moment many h = (
  SweptAll moment h.0 ∷ [],
  record {
    did = did_sweep s.plan s.pass q s.visits.items moment many h;
    more = [];
    took = takes_none s.take;
    mails = refl;
    posted = sym (append-nil s.courier.posted);
  },
)

pub works_join : (s : Host) (q : List Place) (visits : Vec (List Place)) (from : ℕ) → IsOther s.plan from
    → Joined s.plan from s.pass q s.visits.items visits.items → Works s (record s { pass = q; visits = visits }) (duty_.Join from ∷ [])
works_join s q visits from other j = (
  j.0,
  record {
    did = did_join s.plan from s.pass q s.visits.items visits.items j.0 other j.1;
    more = [];
    took = takes_none s.take;
    mails = j.1.no_mail;
    posted = sym (ap (λ (l : List (List Report)). s.courier.posted ++ flat_map (posted_from (others_of s.plan) 0) l) j.1.no_round
        ∙ append-nil s.courier.posted);
  },
)

-- ---- while it works

-- The thread s went on to t, and did these duties.
pub record IsAtWork (houses : List House) (rings : List Ring) (s t : Host) (ds : List Duty) : Type 0 where
  pub at : IsHostAt houses rings t
  pub goes : HostGoesOn s t
  pub carries : CarriesOn s.courier t.courier
  pub worked : Works s t ds

pub work_none : (houses : List House) (rings : List Ring) (s : Host) → IsHostAt houses rings s → IsAtWork houses rings s s []
work_none houses rings s at = record { at = at; goes = goes_same s; carries = carries_same s.courier; worked = works_same s }

pub work_more : (houses : List House) (rings : List Ring) (s t u : Host) (ds es : List Duty) → IsAtWork houses rings s t ds
    → IsHostAt houses rings u → HostGoesOn t u → CarriesOn t.courier u.courier → Works t u es → IsAtWork houses rings s u (ds ++ es)
work_more houses rings s t u ds es a at goes on works = record {
  at = at;
  goes = goes_trans s t u a.goes goes;
  carries = carries_trans s.courier t.courier u.courier a.carries on;
  worked = works_trans s t u ds es a.goes a.worked works;
}

-- no duty more
pub work_on : (houses : List House) (rings : List Ring) (s t u : Host) (ds : List Duty) → IsAtWork houses rings s t ds
    → IsHostAt houses rings u → HostGoesOn t u → CarriesOn t.courier u.courier → Works t u [] → IsAtWork houses rings s u ds
work_on houses rings s t u ds a at goes on works =
    subst (λ (l : List Duty). IsAtWork houses rings s u l) (append-nil ds)
    (work_more houses rings s t u ds [] a at goes on works)

-- the line at this place more
pub work_line : (houses : List House) (rings : List Ring) (s t u : Host) (place : ℕ) → IsAtWork houses rings s t (take place s.duties)
    → IsHostAt houses rings u → HostGoesOn t u → CarriesOn t.courier u.courier → DoesLine t place u
    → IsAtWork houses rings s u (take (place + 1) s.duties)
work_line houses rings s t u place a at goes on line =
    let there : slice_get s.duties place ≡ Some line.0 =
    ap (λ (l : List Duty). slice_get l place) (sym a.goes.duties) ∙ line.1 in
    let next : place + 1 ≡ suc place = omega arith in
    subst (λ (l : List Duty). IsAtWork houses rings s u l)
    (sym (ap (λ (n : ℕ). take n s.duties) next ∙ take_next s.duties place line.0 there))
    (work_more houses rings s t u (take place s.duties) (line.0 ∷ []) a at goes on line.2)

-- ---- steps

pub works_duty : (s t : Host) (a b : Duty) → a ≡ b → Works s t (b ∷ []) → Works s t (a ∷ [])
works_duty s t a b is works = subst (λ (d : Duty). Works s t (d ∷ [])) (sym is) works

-- no mail was there
pub works_quiet : (s : Host) (take : Taking) (ends : List Bool) → take ≡ s.take → Works s (record s { take = take; ends = ends }) []
works_quiet s take ends same = (
  [],
  record {
    did = did_none s.plan s.pass s.visits.items;
    more = [];
    took = subst (λ (x : Taking). TakesMore s.take x []) (sym same) (takes_none s.take);
    mails = refl;
    posted = sym (append-nil s.courier.posted);
  },
)

-- a mail was taken, and more may have been seen
pub heard_at : (houses : List House) (rings : List Ring) (s : Host) (q : List Place) (take : Taking) (ends : List Bool) (mail : Mail)
    → IsHostAt houses rings s → StaysAll s.pass q → TakesOne s.take mail take → AreEnds take.senders take.taken ends
    → IsHostAt houses rings (record s { pass = q; take = take; ends = ends })
heard_at houses rings s q take ends mail at stays one marks =
    let t : Host = record s { pass = q; take = take; ends = ends } in
    host_at houses rings s t at (record { plan = refl; duties = refl; stays = stays; visits = at_same s.visits.items })
    (mail_at rings s t at.mail refl one.1.table marks refl refl)

-- a duty was done, or begun
pub acted_at : (houses : List House) (rings : List Ring) (s t : Host) → IsHostAt houses rings s → HostGoesOn s t
    → CarriesOn s.courier t.courier → (t.take ≡ s.take) × (t.ends ≡ s.ends) → IsHostAt houses rings t
acted_at houses rings s t at goes on same =
    let ends : AreEnds t.take.senders t.take.taken t.ends =
    subst (λ (x : Taking). AreEnds x.senders x.taken t.ends) (sym same.0)
    (subst (λ (l : List Bool). AreEnds s.take.senders s.take.taken l) (sym same.1) at.mail.ends) in
    host_at houses rings s t at goes
    (mail_at rings s t at.mail goes.plan (ap (λ (x : Taking). x.table) same.0) ends on.tables on.many)

pub goes_on : (s t : Host) (c : Carrying) → HostGoesOn s t → HostGoesOn s (record t { courier = c })
goes_on s t c g = record { plan = g.plan; duties = g.duties; stays = g.stays; visits = g.visits }

-- the courier alone went on
pub sent_at : (houses : List House) (rings : List Ring) (s : Host) (c : Carrying) → IsHostAt houses rings s → CarriesOn s.courier c
    → IsHostAt houses rings (record s { courier = c })
sent_at houses rings s c at on = acted_at houses rings s (record s { courier = c }) at (goes_on s s c (goes_same s)) on (refl, refl)

pub carries_is : (c d : Carrying) → d ≡ c → CarriesOn c d
carries_is c d is = subst (CarriesOn c) (sym is) (carries_same c)

pub carries_pushed : (c d e : Carrying) → d ≡ c → IsPushed d e → CarriesOn c e
carries_pushed c d e is pushed = carries_trans c d e (carries_is c d is) (pushed_carries d e pushed)

-- mail was taken, which is t, a duty was done, which is u, and the courier pushed
pub line_works : (s t u : Host) (c : Carrying) (duty : Duty) → HostGoesOn s t → HostGoesOn t u → Works s t [] → Works t u (duty ∷ [])
    → IsPushed u.courier c → Works s (record u { courier = c }) (duty ∷ [])
line_works s t u c duty a b first second pushed =
    works_trans s u (record u { courier = c }) (duty ∷ []) [] (goes_trans s t u a b) (works_trans s t u [] (duty ∷ []) a first second)
    (works_sent u c (pushed_posts u.courier c pushed))
