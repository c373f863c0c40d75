-- Each history of a run has integrity.
use Rattle.std.proofs.Common.{◌≡◌, ℕ, ◌+◌, ◌<◌, ◌≤◌, ◌⊎◌, ◌==◌, Bool, true, false, List, [], ◌∷◌, ◌++◌, Option, Some, None}
use Rattle.std.proofs.Common.{refl, sym, ap, ◌∙◌, subst, arith, inl, inr, ⊎_elim, reverse, if◌then◌else◌, cond, eqb-true}
use Rattle.std.specs.Prelude.{slice_get}
use Rattle.std.specs.List.{filter_map, cons_option, AllByRecursion}
use Rattle.std.proofs.lemmas.Grind.{reverse_onto}
use Rattle.std.proofs.lemmas.List.Elements.{filter_map-append}
use Rattle.gr_value.specs.Shard.{shard_of}
use Rattle.gr_stamp.specs.declared.change.Change.{Change}
use Rattle.gr_vector.specs.declared.report.Report.{Report}
use Rattle.gr_history.specs.declared.identity.Identity.{Identity}
use Rattle.gr_history.specs.declared.ask.Ask.{Ask}
use Rattle.gr_history.specs.declared.reply.Reply.{Reply}
use Rattle.gr_history.specs.declared.verdict.Verdict.{Verdict}
use Rattle.gr_history.specs.declared.deed.Deed.{Deed}
use Rattle.gr_history.specs.declared.deed.Deed.TheVariants.{Call, Asked, Taken, Gave, Imaged, Reported, Heard, Swept}
use Rattle.gr_history.specs.Asks.{key_of}
use Rattle.gr_history.specs.Deeds.{is_of_client}
use Rattle.gr_history.specs.Lawful.{IsLawful, IsLawfulDeed}
use Rattle.gr_history.specs.Made.{made}
use Rattle.gr_history.specs.Room.{bare}
use Rattle.gr_law.specs.Grids.{Among, Grid, identity}
use Rattle.gr_law.specs.Integrity.{IsMade, IsGenuine, IsGenuineDeed, IsHeardDeed, AreHeard, HasNoImage, IsImagedOnce, IsWhole}
use Rattle.gr_law.specs.Integrity.{IsGift}
use Rattle.gr_law.proofs.Images.{filter_map_has}
use Rattle.gr_law.proofs.Lists.{among_filter, among_reverse}
use Rattle.gr_law.proofs.Made.{older_lawful, made_member}
use Rattle.gr_law.proofs.Winners.{all_among}
use Rattle.gr_post.specs.declared.mail.Mail.{Mail}
use Rattle.gr_post.specs.declared.mail.Mail.TheVariants as mail
use Rattle.gr_script.specs.declared.line.Line.{Line}
use Rattle.gr_script.specs.Rules.{Heading, IsMember, IsStated, IsScript, home_of}
use Rattle.gr_script.specs.declared.line.Line.TheVariants as line
use Rattle.gr_script.specs.Steps.{joins_of, is_join_of}
use Rattle.gr_script.specs.Rules.{AllStand}
use Rattle.gr_world.specs.Grids.{Histories, grid_from}
use Rattle.gr_world.specs.Served.{Served, Called, deeds_of}
use Rattle.gr_run_law.specs.Shares.{Owner, Client, Thread, Giver}
use Rattle.gr_run_law.specs.Duties.{Duty, Reports, Sweeps, Joins, duty_in, duty_of}
use Rattle.gr_run_law.specs.Threads.{AreLeftByThreads, Work, TookIn, HeardOf, ReportedAll, SweptAll, Merged, GotFrom, work_at, deed_if}
use Rattle.gr_run_law.specs.Threads.{report_deed, sweep_deed, got_from, IsFromMember}
use Rattle.gr_run_law.proofs.Integrity.{made_key, among_older, made_in_one, flat_among, all_flat_in, given_made, IsOfClient, IsOfMember}
use Rattle.gr_run_law.proofs.Integrity.{work_from}
use Rattle.gr_run_law.proofs.Duties.{duties_done}
use Rattle.gr_run_law.proofs.Sharing.{entry_at, get_below, owned_stands}
use Rattle.gr_run_law.proofs.Lists.{count_cons, all_at, reverse_get, same_number, same_in_some}
use Rattle.gr_run_law.proofs.Delivering.{map_among}
use Rattle.gr_run_law.proofs.Owners.{client_all, giver_all}
use Rattle.gr_run_law.proofs.Clients.{client_deeds, home_is_member, key_within}

-- ---- images come once

abbrev is_join : Duty → ℕ
is_join Reports = 0
is_join (Sweeps moment) = 0
is_join (Joins provider) = 1

abbrev joins : List Duty → ℕ
joins [] = 0
joins (duty ∷ duties) = is_join duty + joins duties

joins_append : (xs ys : List Duty) → joins (xs ++ ys) ≡ joins xs + joins ys
joins_append [] ys = omega arith
joins_append (x ∷ xs) ys = let e = joins_append xs ys in omega arith

joins_cons : (o : Option Duty) (xs : List Duty) → joins (cons_option o xs) ≡ joins xs + joins (cons_option o [])
joins_cons None xs = omega arith
joins_cons (Some x) xs = omega arith

joins_turned : {D : Type 0} (f : D → Option Duty) (xs : List D) → joins (filter_map f (reverse xs)) ≡ joins (filter_map f xs)
joins_turned f [] = refl
joins_turned f (x ∷ xs) =
    let a = ap (λ l. joins (filter_map f l)) (reverse_onto xs x []) in
    let b = ap joins (filter_map-append f (reverse xs) (x ∷ [])) in
    let c = joins_append (filter_map f (reverse xs)) (filter_map f (x ∷ [])) in
    let d = joins_turned f xs in
    let e = joins_cons (f x) (filter_map f xs) in
    omega arith

no_image : (h : List Deed) → joins (filter_map duty_in h) ≡ 0 → HasNoImage h
no_image [] e = tt
no_image (Call client to seq ask reply made ∷ past) e = no_image past e
no_image (Asked client seq ask reply ∷ past) e = no_image past e
no_image (Taken change verdict ∷ past) e = no_image past e
no_image (Gave to what ∷ past) e = no_image past e
no_image (Imaged image ∷ past) e = absurd (omega arith)
no_image (Reported report ∷ past) e = no_image past (omega arith)
no_image (Heard report ∷ past) e = no_image past e
no_image (Swept moment expired ∷ past) e = no_image past (omega arith)

one_image : (h : List Deed) → joins (filter_map duty_in h) ≤ 1 → IsImagedOnce h
one_image [] e = tt
one_image (Call client to seq ask reply made ∷ past) e = one_image past e
one_image (Asked client seq ask reply ∷ past) e = one_image past e
one_image (Taken change verdict ∷ past) e = one_image past e
one_image (Gave to what ∷ past) e = one_image past e
one_image (Imaged image ∷ past) e = no_image past (omega arith)
one_image (Reported report ∷ past) e = one_image past (omega arith)
one_image (Heard report ∷ past) e = one_image past e
one_image (Swept moment expired ∷ past) e = one_image past (omega arith)

-- a member has as many joins among its duties as the lines have of it
joins_same : (member : ℕ) (past : List Line) → joins (filter_map (duty_of member) past) ≡ joins_of member past
joins_same member [] = refl
joins_same member (line.Step client number act ∷ past) = joins_same member past
joins_same member (line.Deliver to client number ∷ past) = joins_same member past
joins_same member (line.Report own ∷ past) = at_test (own == member) (joins_same member past)
  where
    at_test : (b : Bool) → joins (filter_map (duty_of member) past) ≡ joins_of member past
        → joins (cons_option (if b then Some Reports else None) (filter_map (duty_of member) past)) ≡ joins_of member past
    at_test true e = omega arith
    at_test false e = e
joins_same member (line.Hear by own number ∷ past) = joins_same member past
joins_same member (line.Sweep own moment ∷ past) = at_test (own == member) (joins_same member past)
  where
    at_test : (b : Bool) → joins (filter_map (duty_of member) past) ≡ joins_of member past
        → joins (cons_option (if b then Some (Sweeps moment) else None) (filter_map (duty_of member) past)) ≡ joins_of member past
    at_test true e = omega arith
    at_test false e = e
joins_same member (line.Depart own ∷ past) = joins_same member past
joins_same member (line.Leave client moment ∷ past) = joins_same member past
joins_same member (line.Back client moment ∷ past) = joins_same member past
joins_same member (line.Join joiner provider ∷ past) =
    at_test (joiner == member) (joins_same member past) ∙ sym (count_cons (is_join_of member) (line.Join joiner provider) past)
  where
    at_test : (b : Bool) → joins (filter_map (duty_of member) past) ≡ joins_of member past
        → joins (cons_option (if b then Some (Joins provider) else None) (filter_map (duty_of member) past))
        ≡ cond b 1 0 + joins_of member past
    at_test true e = omega arith
    at_test false e = omega arith

-- in a script each member joins at most once
pub joins_few : (h : Heading) (member : ℕ) (past : List Line) → AllStand h past → joins_of member past ≤ 1
joins_few h member [] all = omega arith
joins_few h member (line.Step client number act ∷ past) all = joins_few h member past all.1
joins_few h member (line.Deliver to client number ∷ past) all = joins_few h member past all.1
joins_few h member (line.Report own ∷ past) all = joins_few h member past all.1
joins_few h member (line.Hear by own number ∷ past) all = joins_few h member past all.1
joins_few h member (line.Sweep own moment ∷ past) all = joins_few h member past all.1
joins_few h member (line.Depart own ∷ past) all = joins_few h member past all.1
joins_few h member (line.Leave client moment ∷ past) all = joins_few h member past all.1
joins_few h member (line.Back client moment ∷ past) all = joins_few h member past all.1
joins_few h member (line.Join joiner provider ∷ past) all =
    let c = count_cons (is_join_of member) (line.Join joiner provider) past in
    let t = at_test (joiner == member) refl (joins_few h member past all.1) in omega arith
  where
    at_test : (b : Bool) → (joiner == member) ≡ b → joins_of member past ≤ 1 → cond b 1 0 + joins_of member past ≤ 1
    at_test true e le = let none : joins_of member past ≡ 0 = subst (λ m. joins_of m past ≡ 0) (eqb-true joiner member e) all.0.3 in
        omega arith
    at_test false e le = omega arith

-- ---- integrity

all_genuine : (grid : Grid) (me : ℕ) (h : List Deed) → ((d : Deed) → Among d h → IsGenuineDeed grid me d) → IsGenuine grid me h
all_genuine grid me [] each = tt
all_genuine grid me (deed ∷ past) each = (each deed (inl refl), all_genuine grid me past (λ d a. each d (inr a)))

all_heard : (grid : Grid) (h : List Deed) → ((d : Deed) → Among d h → IsHeardDeed grid d) → AreHeard grid h
all_heard grid [] each = tt
all_heard grid (deed ∷ past) each = (each deed (inl refl), all_heard grid past (λ d a. each d (inr a)))

change_mail : (s t : ℕ) (one two : Change) → mail.Change s one ≡ mail.Change t two → (s ≡ t) × (one ≡ two)
change_mail s t one two e = (cc, cc)

report_mail : (s t : ℕ) (one two : Report) → mail.Report s one ≡ mail.Report t two → (s ≡ t) × (one ≡ two)
report_mail s t one two e = (cc, cc)

not_both : (s t : ℕ) (change : Change) (report : Report) → mail.Change s change ≡ mail.Report t report → ⊥
not_both s t change report e = cc

older_deed : (id : Identity) (opening : ℕ) (deed : Deed) (h : List Deed) → Among deed h → IsLawful id opening h
    → (past : List Deed) × IsLawfulDeed id opening deed past
older_deed id opening deed h a law =
    let o = among_older deed h a in (o.0, (older_lawful id opening (deed ∷ o.0) h o.1 law).0)

module _ (heading : Heading) (lines : List Line) (histories : Histories) (served : ℕ → List Served)
    (a : AreLeftByThreads heading lines histories served) (head : IsScript heading lines) where
  -- what a client's step made stands in its member's history of the key's shard
  pub client_made : (client : ℕ) → IsStated client heading → (number : ℕ) (ask : Ask) (reply : Reply) (change : Change) (to : ℕ)
      → Among (Called number ask reply (Some change) to) (served client)
      → (shard_of change.key heading.shards ≡ shard_of (key_of ask) heading.shards)
      × Among (Call client to number ask reply (Some change)) (histories (home_of heading client) (shard_of change.key heading.shards))
  client_made client stated number ask reply change to among =
      let shard = shard_of (key_of ask) heading.shards in
      let within : shard_of (key_of ask) heading.shards < heading.shards = key_within (key_of ask) heading.shards head.heading.shards.0 in
      let is = home_is_member heading head.heading client stated in
      let deed = Call client to number ask reply (Some change) in
      let here : Among (Call client to number ask reply (Some change))
      (deeds_of client heading.shards (shard_of (key_of ask) heading.shards) (Called number ask reply (Some change) to)) =
      rw (same_number (shard_of (key_of ask) heading.shards)) (inl refl) in
      let filtered = subst (Among deed) (sym (client_deeds heading lines histories served a shard within client stated is))
      (flat_among (deeds_of client heading.shards shard) deed (Called number ask reply (Some change) to) (served client) among here) in
      let stands : Among deed (histories (home_of heading client) shard) = among_reverse deed (histories (home_of heading client) shard)
      (among_filter (is_of_client client) deed (reverse (histories (home_of heading client) shard)) filtered).0 in
      let law = older_deed (identity (grid_from heading histories shard) (home_of heading client)) heading.floor deed
      (histories (home_of heading client) shard) stands (a.lawful (home_of heading client) shard is within) in
      let key = made_key (identity (grid_from heading histories shard) (home_of heading client)) heading.floor client
      to number ask reply change law.0 law.1 in
      let same : shard_of change.key heading.shards ≡ shard_of (key_of ask) heading.shards = ap (λ k. shard_of k heading.shards) key in
      (same, subst (λ s. Among deed (histories (home_of heading client) s)) (sym same) stands)

  -- what was made in a member's history was made by the member that its stamp names
  pub is_made : (member shard : ℕ) → IsMember heading member → shard < heading.shards → (change : Change)
      → Among change (made (histories member shard)) → IsMade (grid_from heading histories shard) change
  is_made member shard is within change made_ =
      let m = (made_member (identity (grid_from heading histories shard) member) heading.floor change (histories member shard)
      (a.lawful member shard is within) made_).0 in
      subst (λ k. Among change (made (histories k shard))) (sym m) made_

  mailed_change : (m : Mail) (at : ℕ) (change : Change) → m ≡ mail.Change at change → IsOfClient heading served m
      ⊎ IsOfMember heading a.works m
      → (at ≡ shard_of change.key heading.shards) × IsMade (grid_from heading histories (shard_of change.key heading.shards)) change
  mailed_change m at change is (inl from) =
      let e = change_mail at (shard_of from.change.key heading.shards) change from.change (sym is ∙ from.mail_is) in
      let c = client_made from.client from.stated from.number from.ask from.reply from.change from.to from.among in
      let s = shard_of from.change.key heading.shards in
      let made_ : IsMade (grid_from heading histories s) from.change =
      is_made (home_of heading from.client) s (home_is_member heading head.heading from.client from.stated)
      (key_within from.change.key heading.shards head.heading.shards.0) from.change
      (made_in_one from.change (Call from.client from.to from.number from.ask from.reply (Some from.change))
      (histories (home_of heading from.client) s) c.1 (inl refl)) in
      subst (λ ch. (at ≡ shard_of ch.key heading.shards) × IsMade (grid_from heading histories (shard_of ch.key heading.shards)) ch)
      (sym e.1) (e.0, made_)
  mailed_change m at change is (inr from) = absurd (not_both at from.shard change from.report (sym is ∙ from.mail_is))

  -- a change that came by mail was made at its shard
  pub took_made : (member : ℕ) → IsMember heading member → (at : ℕ) (change : Change) (verdict : Verdict)
      → Among (TookIn at change verdict) (a.works member)
      → (at ≡ shard_of change.key heading.shards) × IsMade (grid_from heading histories (shard_of change.key heading.shards)) change
  took_made member is at change verdict among =
      mailed_change (mail.Change at change) at change refl
      (work_from heading lines histories served a head member is (TookIn at change verdict) (mail.Change at change) among refl refl)

  got_made : (member : ℕ) → IsMember heading member → (giver : ℕ) (change : Change) (verdict : Verdict)
      → Among (GotFrom giver change verdict) (a.works member)
      → IsMade (grid_from heading histories (shard_of change.key heading.shards)) change
  got_made member is giver change verdict among =
      let s = shard_of change.key heading.shards in
      let within : shard_of change.key heading.shards < heading.shards = key_within change.key heading.shards head.heading.shards.0 in
      let from : IsMember heading giver = all_among (IsFromMember heading) (GotFrom giver change verdict) (a.works member)
      (a.threads member is).members among in
      let found : got_from heading.shards s giver (GotFrom giver change verdict) ≡ Some change =
      rw (same_number (shard_of change.key heading.shards), same_number giver) refl in
      let given = subst (Among change) ((a.threads member is).given giver s from within)
      (filter_map_has (got_from heading.shards s giver) (GotFrom giver change verdict) change (a.works member) among found) in
      is_made giver s from within change (given_made change member (histories giver s) given)

  mailed_report : (m : Mail) (at : ℕ) (report : Report) → m ≡ mail.Report at report → at < heading.shards
      → IsOfClient heading served m ⊎ IsOfMember heading a.works m → Among (Reported report) (histories report.member at)
  mailed_report m at report is within (inl from) =
      absurd (not_both (shard_of from.change.key heading.shards) at from.change report (sym from.mail_is ∙ is))
  mailed_report m at report is within (inr from) =
      let e = report_mail at from.shard report from.report (sym is ∙ from.mail_is) in
      let get : slice_get from.reports at ≡ Some report = ap (slice_get from.reports) e.0 ∙ from.get ∙ ap (λ r. Some r) (sym e.1) in
      let here : Among (Reported report) (work_at heading.shards at (ReportedAll from.reports)) = rw get (inl refl) in
      let owned = subst (Among (Reported report)) (sym ((a.threads from.other from.is_member).deeds at within))
      (flat_among (work_at heading.shards at) (Reported report) (ReportedAll from.reports) (a.works from.other) from.round here) in
      let stands : Among (Reported report) (histories from.other at) = among_reverse (Reported report) (histories from.other at)
      (owned_stands (reverse (histories from.other at)) 0 (a.places from.other at Thread) (a.owned from.other at Thread)
      ((a.shared from.other at from.is_member within).stands Thread) (Reported report) owned) in
      let law = older_deed (identity (grid_from heading histories at) from.other) heading.floor (Reported report)
      (histories from.other at) stands
      (a.lawful from.other at from.is_member within) in
      subst (λ k. Among (Reported report) (histories k at)) (sym law.1.member_is) stands

  -- a deed of integrity
  abbrev Good : ℕ → ℕ → Deed → Type 0
  Good member shard d =
      IsGenuineDeed (grid_from heading histories shard) member d × IsHeardDeed (grid_from heading histories shard) d

  good_if : (member shard : ℕ) (b : Bool) (d : Deed) → (b ≡ true → Good member shard d)
      → AllByRecursion (Good member shard) (deed_if b d)
  good_if member shard true d good = (good refl, tt)
  good_if member shard false d good = tt

  work_good : (member shard : ℕ) → IsMember heading member → shard < heading.shards → (w : Work) → Among w (a.works member)
      → AllByRecursion (Good member shard) (work_at heading.shards shard w)
  work_good member shard is within (TookIn at change verdict) among =
      good_if member shard (shard == shard_of change.key heading.shards) (Taken change verdict) (λ e. (
        subst (λ s. IsMade (grid_from heading histories s) change) (sym (eqb-true shard (shard_of change.key heading.shards) e))
            (took_made member is at change verdict among).1,
        tt,
      ))
  work_good member shard is within (HeardOf at report) among =
      good_if member shard (shard == at) (Heard report) (λ e. (
        tt,
        map_among bare (Reported report) (histories report.member shard)
            (subst (λ s. Among (Reported report) (histories report.member s)) (sym (eqb-true shard at e))
            (mailed_report (mail.Report at report) at report refl (subst (λ s. s < heading.shards) (eqb-true shard at e) within)
            (work_from heading lines histories served a head member is (HeardOf at report) (mail.Report at report) among refl refl))),
      ))
  work_good member shard is within (ReportedAll reports) among = at_report (slice_get reports shard)
    where
      at_report : (o : Option Report) → AllByRecursion (Good member shard) (report_deed o)
      at_report None = tt
      at_report (Some report) = ((tt, tt), tt)
  work_good member shard is within (SweptAll moment expired) among = at_sweep (slice_get expired shard)
    where
      at_sweep : (o : Option (List (List ℕ))) → AllByRecursion (Good member shard) (sweep_deed moment o)
      at_sweep None = tt
      at_sweep (Some keys) = ((tt, tt), tt)
  work_good member shard is within (Merged at image) among =
      good_if member shard (shard == at) (Imaged image) (λ e. (
        subst (λ s. (heading.founders < member) × IsGift (grid_from heading histories s) member image) (sym (eqb-true shard at e))
            ((a.threads member is).merged at image among),
        tt,
      ))
  work_good member shard is within (GotFrom giver change verdict) among =
      good_if member shard (shard == shard_of change.key heading.shards) (Taken change verdict) (λ e. (
        subst (λ s. IsMade (grid_from heading histories s) change) (sym (eqb-true shard (shard_of change.key heading.shards) e))
            (got_made member is giver change verdict among),
        tt,
      ))

  deed_good : (member shard : ℕ) → IsMember heading member → shard < heading.shards → (d : Deed) → Among d (histories member shard)
      → Good member shard d
  deed_good member shard is within d among =
      let at = reverse_get d (histories member shard) among in
      let each = (a.shared member shard is within).each at.0 (get_below (reverse (histories member shard)) at.0 d at.1) in
      let entry = entry_at (reverse (histories member shard)) 0 (a.places member shard each.0) (a.owned member shard each.0) at.0
      (Good member shard)
      ((a.shared member shard is within).stands each.0) (all_at (Good member shard) (a.owned member shard each.0) (all_of each.0)) each.1 in
      subst (Good member shard) (same_in_some entry.0 d (sym entry.1 ∙ at.1)) entry.2
    where
      all_of : (owner : Owner) → AllByRecursion (Good member shard) (a.owned member shard owner)
      all_of (Client client) = client_all heading lines histories served a member shard is within client (Good member shard)
          record { calls = λ to n ask reply made. (tt, tt); asks = λ n ask reply. (tt, tt) }
      all_of Thread = subst (AllByRecursion (Good member shard)) (sym ((a.threads member is).deeds shard within))
          (all_flat_in (Good member shard) (work_at heading.shards shard) (a.works member) (work_good member shard is within))
      all_of (Giver joiner) = giver_all heading lines histories served a member shard is within joiner (Good member shard) (λ what. (tt, tt))

  few_images : (member shard : ℕ) → IsMember heading member → shard < heading.shards → IsImagedOnce (histories member shard)
  few_images member shard is within =
      let all : AllStand heading (reverse lines) = head.lines_stand in
      let c = ap joins (duties_done heading lines histories served a member shard is within) in
      let t = joins_turned duty_in (histories member shard) in
      let l = joins_turned (duty_of member) lines in
      let s = joins_same member (reverse lines) in
      let f = joins_few heading member (reverse lines) head.lines_stand in
      one_image (histories member shard) (omega arith)

  -- So at each shard the histories are whole.
  pub run_whole : (shard : ℕ) → shard < heading.shards → IsWhole (grid_from heading histories shard)
  run_whole shard within = record {
    sound = record {
      few = head.heading.members.1;
      lawful = λ member. at_member member (IsLawful (identity (grid_from heading histories shard) member) heading.floor)
          (λ is. a.lawful member shard is within) tt;
      genuine = λ member. at_member member (IsGenuine (grid_from heading histories shard) member)
          (λ is. all_genuine (grid_from heading histories shard) member (histories member shard)
          (λ d b. (deed_good member shard is within d b).0)) tt;
      once = λ member. at_member member IsImagedOnce (λ is. few_images member shard is within) tt;
      outside = λ member. a.outside member shard;
    };
    heard = λ member. at_member member (AreHeard (grid_from heading histories shard))
        (λ is. all_heard (grid_from heading histories shard) (histories member shard) (λ d b. (deed_good member shard is within d b).1)) tt;
  }
    where
      at_member : (member : ℕ) (P : List Deed → Type 0) → (IsMember heading member → P (histories member shard))
          → P [] → P (histories member shard)
      at_member member P there none =
          ⊎_elim there (λ (e : histories member shard ≡ []). subst P (sym e) none) (a.outside member shard)
