-- What was taken in was made, what was merged was given, and what was heard was reported.
use Rattle.std.proofs.Common.{◌≡◌, ℕ, zero, suc, ◌+◌, ◌-◌, ◌<◌, ◌≤◌, ◌⊎◌, ◌==◌, Bool, true, false, List, [], ◌∷◌, length, map, Option, Some}
use Rattle.std.proofs.Common.{None}
use Rattle.std.proofs.Common.{refl, sym, ap, ◌∙◌, subst, arith, inl, inr, ⊎_elim, flat_map, max, if◌then◌else◌, cond}
use Rattle.std.specs.Prelude.{slice_get, nat_le}
use Rattle.std.specs.List.{filter_map, AllByRecursion}
use Rattle.gr_value.specs.Shard.{shard_of}
use Rattle.gr_stamp.specs.declared.change.Change.{Change}
use Rattle.gr_stamp.specs.declared.change.Kind.{Kind}
use Rattle.gr_stamp.specs.declared.stamp.TheConstants.{LIMIT}
use Rattle.gr_vector.specs.declared.report.Report.{Report}
use Rattle.gr_history.specs.declared.identity.Identity.{Identity}
use Rattle.gr_history.specs.declared.ask.Ask.{Ask}
use Rattle.gr_history.specs.declared.reply.Reply.{Reply}
use Rattle.gr_history.specs.declared.reply.Reply.TheVariants.{Limit, NotReady}
use Rattle.gr_history.specs.declared.reply.Told.{Told}
use Rattle.gr_history.specs.declared.image.What.{What}
use Rattle.gr_history.specs.declared.image.What.TheVariants as what
use Rattle.gr_history.specs.declared.deed.Deed.{Deed}
use Rattle.gr_history.specs.declared.deed.Deed.TheVariants.{Call, Asked, Taken, Gave, Imaged, Reported, Heard, Swept}
use Rattle.gr_history.specs.Asks.{at_key, key_of, told}
use Rattle.gr_history.specs.Calls.{call_gives, given, nothing_made, made_change, reach, last_rv}
use Rattle.gr_history.specs.Gifts.{own_changes}
use Rattle.gr_history.specs.Lawful.{IsLawfulDeed}
use Rattle.gr_history.specs.Made.{made, made_at}
use Rattle.gr_history.specs.Recipients.{recipients, is_ready}
use Rattle.gr_history.specs.Standing.{there, present}
use Rattle.gr_law.specs.Grids.{Among, Older}
use Rattle.gr_law.proofs.Images.{filter_map_has}
use Rattle.gr_law.proofs.Lists.{among_either, among_left, among_right, among_filter, among_reverse}
use Rattle.gr_law.proofs.Winners.{all_among}
use Rattle.gr_post.specs.declared.mail.Mail.{Mail}
use Rattle.gr_post.specs.declared.mail.Mail.TheVariants as mail
use Rattle.gr_post.specs.declared.mail.Posted.{Posted}
use Rattle.gr_post.specs.declared.mail.Posting.{Posting}
use Rattle.gr_post.specs.Mails.{of, is_end}
use Rattle.gr_post.specs.Plan.{first_number}
use Rattle.gr_script.specs.declared.line.Line.{Line}
use Rattle.gr_script.specs.Rules.{Heading, IsMember, IsStated, IsScript}
use Rattle.gr_world.specs.Grids.{Histories}
use Rattle.gr_world.specs.Served.{Served, Called, Queried, Looked}
use Rattle.gr_run_law.specs.Duties.{given_to, own_where}
use Rattle.gr_run_law.specs.Plans.{posted_from, reports_posted, courier_of, others, changes_posted, posted_by}
use Rattle.gr_run_law.specs.Threads.{AreLeftByThreads, Work, TookIn, HeardOf, ReportedAll, SweptAll, Merged, GotFrom, mail_of, is_for}
use Rattle.gr_run_law.specs.Threads.{round_of, IsSenderOf, client_place, member_place}
use Rattle.gr_run_law.proofs.Lists.{all_append, same_number, none_isnt_some, same_in_some, true_false}
use Rattle.gr_run_law.proofs.Delivering.{among_map, was_posted}

-- ---- a lawful call's change is of its key

given_key : (id : Identity) (opening : ℕ) (past : List Deed) (key : List ℕ) (reply : Reply) (kind : Option Kind) (change : Change)
    → (given id opening past key reply kind).made ≡ Some change → change.key ≡ key
given_key id opening past key reply None change h = absurd (none_isnt_some change h)
given_key id opening past key reply (Some kind) change h = at_test (nat_le LIMIT (max (reach opening key past) (last_rv id past))) h
  where
    at_test : (b : Bool) → (if b then nothing_made Limit
        else record { reply = reply; made = Some (made_change id opening past key kind); to = recipients id past }).made ≡ Some change
        → change.key ≡ key
    at_test true h = absurd (none_isnt_some change h)
    at_test false h = sym (ap (λ c. c.key) (same_in_some (made_change id opening past key kind) change h))

gives_key : (id : Identity) (opening : ℕ) (past : List Deed) (ask : Ask) (change : Change)
    → (call_gives id opening past ask).made ≡ Some change → change.key ≡ key_of ask
gives_key id opening past ask change h = at_test (is_ready id past) h
  where
    answer : Told
    answer = told ask (at_key (there (key_of ask) past) (present (key_of ask) past))

    at_test : (b : Bool) → (if b then given id opening past (key_of ask) answer.reply answer.change else nothing_made NotReady).made
        ≡ Some change → change.key ≡ key_of ask
    at_test true h = given_key id opening past (key_of ask) answer.reply answer.change change h
    at_test false h = absurd (none_isnt_some change h)

pub made_key : (id : Identity) (opening client to number : ℕ) (ask : Ask) (reply : Reply) (change : Change) (past : List Deed)
    → IsLawfulDeed id opening (Call client to number ask reply (Some change)) past → change.key ≡ key_of ask
made_key id opening client to number ask reply change past law = gives_key id opening past ask change (sym (ap (λ d. d.made) law))

-- ---- lists

pub among_older : (deed : Deed) (h : List Deed) → Among deed h → (past : List Deed) × Older (deed ∷ past) h
among_older deed [] a = absurd a
among_older deed (first ∷ past) (inl is) = (past, inl (ap (λ d. d ∷ past) is))
among_older deed (first ∷ past) (inr a) = let r = among_older deed past a in (r.0, inr r.1)

pub made_in_one : (change : Change) (deed : Deed) (h : List Deed) → Among deed h → Among change (made_at deed) → Among change (made h)
made_in_one change deed [] a m = absurd a
made_in_one change deed (first ∷ past) (inl is) m =
    among_left change (made_at first) (made past) (subst (λ d. Among change (made_at d)) is m)
made_in_one change deed (first ∷ past) (inr a) m = among_right change (made_at first) (made past) (made_in_one change deed past a m)

pub among_flat : {W E : Type 0} (g : W → List E) (y : E) (ws : List W) → Among y (flat_map g ws) → (w : W) × Among w ws × Among y (g w)
among_flat g y [] a = absurd a
among_flat g y (w ∷ ws) a = ⊎_elim (λ here. (w, inl refl, here)) (λ there. let r = among_flat g y ws there in (r.0, inr r.1, r.2))
    (among_either y (g w) (flat_map g ws) a)

pub flat_among : {W E : Type 0} (g : W → List E) (y : E) (w : W) (ws : List W) → Among w ws → Among y (g w) → Among y (flat_map g ws)
flat_among g y w [] a b = absurd a
flat_among g y w (first ∷ ws) (inl is) b = among_left y (g first) (flat_map g ws) (subst (λ v. Among y (g v)) is b)
flat_among g y w (first ∷ ws) (inr a) b = among_right y (g first) (flat_map g ws) (flat_among g y w ws a b)

pub all_flat_in : {W E : Type 0} (P : E → Type 0) (g : W → List E) (ws : List W) → ((w : W) → Among w ws → AllByRecursion P (g w))
    → AllByRecursion P (flat_map g ws)
all_flat_in P g [] each = tt
all_flat_in P g (w ∷ ws) each = all_append P (g w) (flat_map g ws) (each w (inl refl)) (all_flat_in P g ws (λ v a. each v (inr a)))

-- what a history gave of its own it had made
pub given_made : (change : Change) (joiner : ℕ) (h : List Deed) → Among change (given_to joiner h) → Among change (made h)
given_made change joiner [] a = absurd a
given_made change joiner (Call client to seq ask reply own ∷ past) a =
    among_right change (made_at (Call client to seq ask reply own)) (made past) (given_made change joiner past a)
given_made change joiner (Asked client seq ask reply ∷ past) a = given_made change joiner past a
given_made change joiner (Taken one verdict ∷ past) a = given_made change joiner past a
given_made change joiner (Gave to gave ∷ past) a =
    at_gift (given_made change joiner past)
    (among_either change (given_to joiner past) (own_where (to == joiner) gave (own_changes past)) a)
  where
    own : (b : Bool) (w : What) → Among change (own_where b w (own_changes past)) → Among change (made past)
    own true what.Own a = among_reverse change (made past) a
    own true what.Image a = absurd a
    own false w a = absurd a

    at_gift : (Among change (given_to joiner past) → Among change (made past))
        → Among change (given_to joiner past) ⊎ Among change (own_where (to == joiner) gave (own_changes past)) → Among change (made past)
    at_gift next (inl b) = next b
    at_gift next (inr b) = own (to == joiner) gave b
given_made change joiner (Imaged image ∷ past) a = given_made change joiner past a
given_made change joiner (Reported report ∷ past) a = given_made change joiner past a
given_made change joiner (Heard report ∷ past) a = given_made change joiner past a
given_made change joiner (Swept moment expired ∷ past) a = given_made change joiner past a

-- a mail that was taken is among those of its sender
of_has : (p : Posted) (taken : List Posted) → Among p taken → Among p.mail (of p.from taken)
of_has p [] a = absurd a
of_has p (first ∷ rest) (inl is) =
    let same : (first.from == p.from) ≡ true = rw (ap (λ (q : Posted). q.from) is) (same_number first.from) in
    rw same (inl (ap (λ (q : Posted). q.mail) is))
of_has p (first ∷ rest) (inr a) = at_test (first.from == p.from) (of_has p rest a)
  where
    at_test : (b : Bool) → Among p.mail (of p.from rest) → Among p.mail (cond b (first.mail ∷ of p.from rest) (of p.from rest))
    at_test true n = inr n
    at_test false n = n

reports_at : (to from : ℕ) (q : Posting) (reports : List Report) → Among q (posted_from to from reports)
    → (k : ℕ) × (report : Report) × (slice_get reports k ≡ Some report) × (q.mail ≡ mail.Report (from + k) report)
reports_at to from q [] a = absurd a
reports_at to from q (report ∷ reports) (inl is) =
    let e : from ≡ from + 0 = omega arith in
    (zero, report, refl, ap (λ (p : Posting). p.mail) is ∙ ap (λ k. mail.Report k report) e)
reports_at to from q (report ∷ reports) (inr a) =
    let r = reports_at to (suc from) q reports a in
    let e : suc from + r.0 ≡ from + suc r.0 = omega arith in
    (suc r.0, r.1, r.2, r.3 ∙ ap (λ k. mail.Report k r.1) e)

-- ---- where a mail came from

pub record IsOfClient (heading : Heading) (served : ℕ → List Served) (m : Mail) : Type 0 where
  pub client : ℕ
  pub stated : IsStated client heading
  pub number : ℕ
  pub ask : Ask
  pub reply : Reply
  pub change : Change
  pub to : ℕ
  pub among : Among (Called number ask reply (Some change) to) (served client)
  pub mail_is : m ≡ mail.Change (shard_of change.key heading.shards) change

pub record IsOfMember (heading : Heading) (works : ℕ → List Work) (m : Mail) : Type 0 where
  pub other : ℕ
  pub is_member : IsMember heading other
  pub reports : List Report
  pub round : Among (ReportedAll reports) (works other)
  pub shard : ℕ
  pub report : Report
  pub get : slice_get reports shard ≡ Some report
  pub mail_is : m ≡ mail.Report shard report

round_in : (works : List Work) (reports : List Report) → Among reports (filter_map round_of works) → Among (ReportedAll reports) works
round_in [] reports a = absurd a
round_in (TookIn at change verdict ∷ works) reports a = inr (round_in works reports a)
round_in (HeardOf at report ∷ works) reports a = inr (round_in works reports a)
round_in (ReportedAll more ∷ works) reports (inl is) = inl (ap (λ r. ReportedAll r) is)
round_in (ReportedAll more ∷ works) reports (inr a) = inr (round_in works reports a)
round_in (SweptAll moment expired ∷ works) reports a = inr (round_in works reports a)
round_in (Merged at image ∷ works) reports a = inr (round_in works reports a)
round_in (GotFrom giver change verdict ∷ works) reports a = inr (round_in works reports a)

end_or : (m : Mail) → is_end m ≡ false → m ≡ mail.End → ⊥
end_or m h e = true_false (sym (ap is_end e) ∙ h)

module _ (heading : Heading) (lines : List Line) (histories : Histories) (served : ℕ → List Served)
    (a : AreLeftByThreads heading lines histories served) (head : IsScript heading lines) where
  pub client_posting : (client : ℕ) → IsStated client heading → (m : Mail)
      → Among m (map (λ (p : Posting). p.mail) (changes_posted heading.shards (served client))) → IsOfClient heading served m
  client_posting client stated m among =
      let p = among_map (λ (p : Posting). p.mail) m (changes_posted heading.shards (served client)) among in
      let w = among_flat (posted_by heading.shards) p.0 (served client) p.1 in
      at_step w.0 w.1 p.0 w.2 p.2
    where
      at_step : (w : Served) → Among w (served client) → (q : Posting) → Among q (posted_by heading.shards w) → m
          ≡ q.mail → IsOfClient heading served m
      at_step (Called number ask reply None to) in_ q b e = absurd b
      at_step (Called number ask reply (Some change) to) in_ q (inl is) e = record {
        client = client;
        stated = stated;
        number = number;
        ask = ask;
        reply = reply;
        change = change;
        to = to;
        among = in_;
        mail_is = e ∙ ap (λ (p : Posting). p.mail) is;
      }
      at_step (Called number ask reply (Some change) to) in_ q (inr b) e = absurd b
      at_step (Queried number ask replies) in_ q b e = absurd b
      at_step (Looked number peek) in_ q b e = absurd b

  pub member_posting : (other : ℕ) → IsMember heading other → (m : Mail)
      → Among m (map (λ (p : Posting). p.mail) (reports_posted heading other (filter_map round_of (a.works other))))
      → IsOfMember heading a.works m
  member_posting other is m among =
      let p = among_map (λ (p : Posting). p.mail) m (reports_posted heading other (filter_map round_of (a.works other))) among in
      let w = among_flat (posted_from (others heading other) 0) p.0 (filter_map round_of (a.works other)) p.1 in
      let r = reports_at (others heading other) 0 p.0 w.0 w.2 in
      let e : 0 + r.0 ≡ r.0 = omega arith in
      record {
        other = other;
        is_member = is;
        reports = w.0;
        round = round_in (a.works other) w.0 w.1;
        shard = r.0;
        report = r.1;
        get = r.2;
        mail_is = p.2 ∙ r.3 ∙ ap (λ k. mail.Report k r.1) e;
      }

  -- a mail that is no End came of a client's change, or of a member's reports
  pub mail_from : (member : ℕ) → IsMember heading member → (p : Posted) → Among p (a.taken member) → is_end p.mail ≡ false
      → IsOfClient heading served p.mail ⊎ IsOfMember heading a.works p.mail
  mail_from member is p among not_end = at_sender (below p.from (length heading.clients))
    where
      below : (x y : ℕ) → (x < y) ⊎ (y ≤ x)
      below x y = grind arith

      sender : p.from < length heading.clients + heading.members
      sender = all_among (IsSenderOf heading) p (a.taken member) (a.mailed member is).senders among

      at_sender : (p.from < length heading.clients) ⊎ (length heading.clients ≤ p.from)
          → IsOfClient heading served p.mail ⊎ IsOfMember heading a.works p.mail
      at_sender (inl less) =
          let c = p.from + 1 in
          let stated : IsStated (p.from + 1) heading = (omega arith, omega arith) in
          let e : p.from ≡ client_place (p.from + 1) = omega arith in
          let came = subst (Among p.mail) (ap (λ k. of k (a.taken member)) e ∙ (a.mailed member is).of_clients (p.from + 1) stated)
          (of_has p (a.taken member) among) in
          ⊎_elim (λ b. inl (client_posting (p.from + 1) stated p.mail b)) (λ e'. absurd (end_or p.mail not_end e'))
          (was_posted p.mail heading.members (first_number heading.trouble (p.from + 1)) (member - 1)
          (changes_posted heading.shards (served (p.from + 1))) came)
      at_sender (inr more) =
          let o = p.from - length heading.clients + 1 in
          let is_member : IsMember heading (p.from - length heading.clients + 1) = (omega arith, omega (arith, sender)) in
          let e : p.from ≡ member_place heading (p.from - length heading.clients + 1) = omega arith in
          let came = subst (Among p.mail) (ap (λ k. of k (a.taken member)) e
          ∙ (a.mailed member is).of_members (p.from - length heading.clients + 1) is_member)
          (of_has p (a.taken member) among) in
          ⊎_elim (λ b. inr (member_posting (p.from - length heading.clients + 1) is_member p.mail b))
          (λ e'. absurd (end_or p.mail not_end e'))
          (was_posted p.mail heading.members (first_number heading.trouble (courier_of (p.from - length heading.clients + 1))) (member - 1)
          (reports_posted heading (p.from - length heading.clients + 1)
          (filter_map round_of (a.works (p.from - length heading.clients + 1)))) came)

  -- what a thread took in came by such a mail
  pub work_from : (member : ℕ) → IsMember heading member → (w : Work) (m : Mail) → Among w (a.works member)
      → mail_of w ≡ Some m → is_end m ≡ false → IsOfClient heading served m ⊎ IsOfMember heading a.works m
  work_from member is w m among came not_end =
      let kept = subst (Among m) (a.threads member is).mails (filter_map_has mail_of w m (a.works member) among came) in
      let p = among_map (λ (p : Posted). p.mail) m (a.taken member)
      (among_filter (is_for heading.shards) m (map (λ (p : Posted). p.mail) (a.taken member)) kept).0 in
      subst (λ x. IsOfClient heading served x ⊎ IsOfMember heading a.works x) (sym p.2)
      (mail_from member is p.0 p.1 (subst (λ x. is_end x ≡ false) p.2 not_end))
