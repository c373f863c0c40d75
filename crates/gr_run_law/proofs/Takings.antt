-- How often changes are taken in, and reports are heard.
use Rattle.std.proofs.Common.{◌≡◌, ℕ, ◌+◌, ◌<◌, ◌-◌, ◌==◌, ◌&&◌, Bool, true, false, List, [], ◌∷◌, ◌++◌, length, map, Option, Some, None}
use Rattle.std.proofs.Common.{refl, ap, ◌∙◌, arith, inl, inr, filter, flat_map, if◌then◌else◌, cond}
use Rattle.std.specs.Prelude.{slice_get, count_by, nat_lt}
use Rattle.std.specs.List.{filter_map, cons_option, AllByRecursion}
use Rattle.std.proofs.lemmas.Bool.Decides.{nat_tests}
use Rattle.std.proofs.lemmas.List.Sums.{length-filter}
use Rattle.gr_value.specs.Shard.{shard_of}
use Rattle.gr_stamp.specs.declared.change.Change.{Change}
use Rattle.gr_vector.specs.declared.report.Report.{Report}
use Rattle.gr_history.specs.declared.deed.Deed.{Deed}
use Rattle.gr_history.specs.declared.deed.Deed.TheVariants.{Taken, Imaged, Reported, Heard, Swept}
use Rattle.gr_history.specs.Deeds.{taken_in}
use Rattle.gr_law.specs.Grids.{Among}
use Rattle.gr_post.specs.declared.mail.Mail.{Mail}
use Rattle.gr_post.specs.declared.mail.Mail.TheVariants as mail
use Rattle.gr_post.specs.declared.mail.Posted.{Posted}
use Rattle.gr_post.specs.Mails.{of}
use Rattle.gr_post.specs.Plan.{Draw, delivered, first_number}
use Rattle.gr_post.specs.Laws.{owed}
use Rattle.gr_post.proofs.Counting.{delivers_each}
use Rattle.gr_script.specs.declared.line.Line.{Line}
use Rattle.gr_script.specs.Rules.{Heading, IsMember, IsScript}
use Rattle.gr_world.specs.Grids.{Histories}
use Rattle.gr_world.specs.Served.{Served}
use Rattle.gr_run_law.specs.Duties.{heard_in, given_to}
use Rattle.gr_run_law.specs.Plans.{total_to, courier_of, draws_for, brings_change, brings_report, reports_posted, changes_posted}
use Rattle.gr_run_law.specs.Runs.{TakesChanges, HearsReports}
use Rattle.gr_run_law.specs.Threads.{AreLeftByThreads, Work, TookIn, HeardOf, ReportedAll, SweptAll, Merged, GotFrom, work_at, deed_if}
use Rattle.gr_run_law.specs.Threads.{report_deed, sweep_deed, mail_of, is_for, round_of, got_from, IsFromMember}
use Rattle.gr_run_law.proofs.Lists.{count_cons, count_append, true_false}
use Rattle.gr_run_law.proofs.Owners.{only_thread}
use Rattle.gr_run_law.proofs.Delivering.{drawn_posted}
use Rattle.gr_run_law.proofs.Integrity.{IsOfClient, IsOfMember, client_posting, member_posting}
use Rattle.gr_run_law.proofs.Genuine.{took_made}
use Rattle.gr_run_law.proofs.Totals.{total_same, total_plus, total_none, total_one, by_senders}

turned : (a b : ℕ) → (a == b) ≡ (b == a)
turned a b = grind (arith, nat_tests)

not_counted : (b : Bool) → b ≡ false → cond {A = ℕ} b 1 0 ≡ 0
not_counted b none = rw none refl

-- ---- what couriers deliver, in number

pub delivered_count : (test : Mail → Bool) → test mail.End ≡ false → (ds : List Draw) → count_by test (delivered ds) ≡ owed test ds
delivered_count test none ds =
    let d = delivers_each ds in
    let a = ap (count_by test) d.1 in
    let b = count_append test d.0 (mail.End ∷ []) in
    let c = count_cons test mail.End [] in
    let e = not_counted (test mail.End) none in
    let f = length-filter test d.0 in
    let g = d.2 test in
    omega arith

owed_nothing : (test : Mail → Bool) (ds : List Draw) → ((m : Mail) → Among m (map (λ (d : Draw). d.mail) ds) → test m ≡ false)
    → owed test ds ≡ 0
owed_nothing test [] none = refl
owed_nothing test (d ∷ ds) none =
    let a = owed_nothing test ds (λ m b. none m (inr b)) in
    rw (none d.mail (inl refl)) (omega arith)

kept_count : (test : Mail → Bool) (kept : Mail → Bool) → ((m : Mail) → kept m ≡ false → test m ≡ false) → (ms : List Mail)
    → count_by test (filter kept ms) ≡ count_by test ms
kept_count test kept none [] = refl
kept_count test kept none (m ∷ ms) = at_test (kept m) refl (kept_count test kept none ms)
  where
    at_test : (b : Bool) → kept m ≡ b → count_by test (filter kept ms) ≡ count_by test ms
        → count_by test (cond b (m ∷ filter kept ms) (filter kept ms)) ≡ count_by test (m ∷ ms)
    at_test true e next =
        let a = count_cons test m (filter kept ms) in
        let b = count_cons test m ms in omega arith
    at_test false e next =
        let b = count_cons test m ms in
        let z = not_counted (test m) (none m e) in omega arith

-- what a thread does nothing about isn't of a shard
other_change : (shards shard : ℕ) (test : Change → Bool) (m : Mail) → is_for shards m ≡ false → brings_change shard test m ≡ false
other_change shards shard test (mail.Change at change) e = absurd (true_false e)
other_change shards shard test (mail.Report at report) e = refl
other_change shards shard test mail.End e = refl

other_report : (shards shard : ℕ) → shard < shards → (test : Report → Bool) (m : Mail) → is_for shards m ≡ false
    → brings_report shard test m ≡ false
other_report shards shard within test (mail.Change at change) e = refl
other_report shards shard within test (mail.Report at report) e =
    ap (λ b. b && test report) (apart at shard shards e within)
  where
    apart : (a s n : ℕ) → nat_lt a n ≡ false → s < n → (a == s) ≡ false
    apart a s n e less = grind (arith, nat_tests)
other_report shards shard within test mail.End e = refl

all_in : {A : Type 0} (P : A → Type 0) (xs : List A) → ((x : A) → Among x xs → P x) → AllByRecursion P xs
all_in P [] each = tt
all_in P (x ∷ xs) each = (each x (inl refl), all_in P xs (λ y a. each y (inr a)))

-- ---- what a thread takes in, in number

abbrev one_if : Bool → Bool → ℕ
one_if here passes = cond here (cond passes 1 0) 0

one_and : (here passes : Bool) → cond (here && passes) 1 0 ≡ one_if here passes
one_and true passes = refl
one_and false passes = refl

count_deed : {B : Type 0} (f : Deed → Option B) (test : B → Bool) (b : Bool) (deed : Deed) (x : B) (rest : List Deed) → f deed ≡ Some x
    → count_by test (filter_map f (deed_if b deed ++ rest)) ≡ one_if b (test x) + count_by test (filter_map f rest)
count_deed f test true deed x rest is = rw is (count_cons test x (filter_map f rest))
count_deed f test false deed x rest is = omega arith

no_deed : {B : Type 0} (f : Deed → Option B) (b : Bool) (deed : Deed) (rest : List Deed) → f deed ≡ None
    → filter_map f (deed_if b deed ++ rest) ≡ filter_map f rest
no_deed f true deed rest is = rw is refl
no_deed f false deed rest is = refl

no_report : {B : Type 0} (f : Deed → Option B) (o : Option Report) (rest : List Deed) → ((report : Report) → f (Reported report) ≡ None)
    → filter_map f (report_deed o ++ rest) ≡ filter_map f rest
no_report f None rest is = refl
no_report f (Some report) rest is = rw (is report) refl

no_sweep : {B : Type 0} (f : Deed → Option B) (moment : ℕ) (o : Option (List (List ℕ))) (rest : List Deed)
    → ((expired : List (List ℕ)) → f (Swept moment expired) ≡ None) → filter_map f (sweep_deed moment o ++ rest) ≡ filter_map f rest
no_sweep f moment None rest is = refl
no_sweep f moment (Some expired) rest is = rw (is expired) refl

abbrev IsAtShard : ℕ → Work → Type 0
IsAtShard shards (TookIn at change verdict) = at ≡ shard_of change.key shards
IsAtShard shards (HeardOf at report) = Unit {0}
IsAtShard shards (ReportedAll reports) = Unit {0}
IsAtShard shards (SweptAll moment expired) = Unit {0}
IsAtShard shards (Merged at image) = Unit {0}
IsAtShard shards (GotFrom giver change verdict) = Unit {0}

module _ (heading : Heading) (shard : ℕ) (test : Change → Bool) where
  abbrev Gifts : List Work → ℕ → ℕ
  Gifts works giver = count_by test (filter_map (got_from heading.shards shard giver) works)

  gift_cons : (giver : ℕ) (change : Change) (k : ℕ) (rest : List Change) → count_by test
      (cons_option (if shard == shard_of change.key heading.shards && giver == k then Some change else None) rest)
      ≡ cond (giver == k) (one_if (shard == shard_of change.key heading.shards) (test change)) 0 + count_by test rest
  gift_cons giver change k rest = at_tests (shard == shard_of change.key heading.shards) (giver == k)
    where
      at_tests : (here same : Bool) → count_by test (cons_option (if here && same then Some change else None) rest)
          ≡ cond same (one_if here (test change)) 0 + count_by test rest
      at_tests true true = count_cons test change rest
      at_tests true false = omega arith
      at_tests false true = omega arith
      at_tests false false = omega arith

  takes_split : (works : List Work) → AllByRecursion (IsAtShard heading.shards) works → AllByRecursion (IsFromMember heading) works
      → count_by test (filter_map taken_in (flat_map (work_at heading.shards shard) works))
      ≡ total_to heading.members (λ giver. count_by test (filter_map (got_from heading.shards shard giver) works))
      + count_by (brings_change shard test) (filter_map mail_of works)
  takes_split [] at from = let a = total_none heading.members (λ giver. 0) (λ k low high. refl) in omega arith
  takes_split (TookIn place change verdict ∷ works) at from =
      let rest = takes_split works at.1 from.1 in
      let a = count_deed taken_in test (shard == shard_of change.key heading.shards) (Taken change verdict) change
      (flat_map (work_at heading.shards shard) works) refl in
      let b = count_cons (brings_change shard test) (mail.Change place change) (filter_map mail_of works) in
      let c = one_and (place == shard) (test change) in
      let d : (place == shard) ≡ (shard == shard_of change.key heading.shards) =
      ap (λ p. p == shard) at.0 ∙ turned (shard_of change.key heading.shards) shard in
      let e = ap (λ t. one_if t (test change)) d in
      omega arith
  takes_split (HeardOf place report ∷ works) at from =
      let rest = takes_split works at.1 from.1 in
      let a = ap (count_by test) (no_deed taken_in (shard == place) (Heard report) (flat_map (work_at heading.shards shard) works) refl) in
      let b = count_cons (brings_change shard test) (mail.Report place report) (filter_map mail_of works) in
      omega arith
  takes_split (ReportedAll reports ∷ works) at from =
      ap (count_by test) (no_report taken_in (slice_get reports shard) (flat_map (work_at heading.shards shard) works) (λ r. refl))
      ∙ takes_split works at.1 from.1
  takes_split (SweptAll moment expired ∷ works) at from =
      ap (count_by test) (no_sweep taken_in moment (slice_get expired shard) (flat_map (work_at heading.shards shard) works) (λ e. refl))
      ∙ takes_split works at.1 from.1
  takes_split (Merged place image ∷ works) at from =
      ap (count_by test) (no_deed taken_in (shard == place) (Imaged image) (flat_map (work_at heading.shards shard) works) refl)
      ∙ takes_split works at.1 from.1
  takes_split (GotFrom giver change verdict ∷ works) at from =
      let rest = takes_split works at.1 from.1 in
      let a = count_deed taken_in test (shard == shard_of change.key heading.shards) (Taken change verdict) change
      (flat_map (work_at heading.shards shard) works) refl in
      let n = one_if (shard == shard_of change.key heading.shards) (test change) in
      let b = total_same heading.members
      (λ k. count_by test (filter_map (got_from heading.shards shard k) (GotFrom giver change verdict ∷ works)))
      (λ k. cond (giver == k) (one_if (shard == shard_of change.key heading.shards) (test change)) 0
      + count_by test (filter_map (got_from heading.shards shard k) works))
      (λ k low high. gift_cons giver change k (filter_map (got_from heading.shards shard k) works)) in
      let c = total_plus heading.members (λ k. cond (giver == k) (one_if (shard == shard_of change.key heading.shards) (test change)) 0)
      (λ k. count_by test (filter_map (got_from heading.shards shard k) works)) in
      let d = total_one heading.members giver (one_if (shard == shard_of change.key heading.shards) (test change)) from.0.0 from.0.1 in
      omega arith

module _ (heading : Heading) (shard : ℕ) (test : Report → Bool) where
  hears_split : (works : List Work)
      → count_by test (filter_map heard_in (flat_map (work_at heading.shards shard) works))
      ≡ count_by (brings_report shard test) (filter_map mail_of works)
  hears_split [] = refl
  hears_split (TookIn place change verdict ∷ works) =
      let rest = hears_split works in
      let a = ap (count_by test) (no_deed heard_in (shard == shard_of change.key heading.shards) (Taken change verdict)
      (flat_map (work_at heading.shards shard) works) refl) in
      let b = count_cons (brings_report shard test) (mail.Change place change) (filter_map mail_of works) in
      omega arith
  hears_split (HeardOf place report ∷ works) =
      let rest = hears_split works in
      let a = count_deed heard_in test (shard == place) (Heard report) report (flat_map (work_at heading.shards shard) works) refl in
      let b = count_cons (brings_report shard test) (mail.Report place report) (filter_map mail_of works) in
      let c = one_and (place == shard) (test report) in
      let e = ap (λ t. one_if t (test report)) (turned place shard) in
      omega arith
  hears_split (ReportedAll reports ∷ works) =
      ap (count_by test) (no_report heard_in (slice_get reports shard) (flat_map (work_at heading.shards shard) works) (λ r. refl))
      ∙ hears_split works
  hears_split (SweptAll moment expired ∷ works) =
      ap (count_by test) (no_sweep heard_in moment (slice_get expired shard) (flat_map (work_at heading.shards shard) works) (λ e. refl))
      ∙ hears_split works
  hears_split (Merged place image ∷ works) =
      ap (count_by test) (no_deed heard_in (shard == place) (Imaged image) (flat_map (work_at heading.shards shard) works) refl)
      ∙ hears_split works
  hears_split (GotFrom giver change verdict ∷ works) =
      ap (count_by test) (no_deed heard_in (shard == shard_of change.key heading.shards) (Taken change verdict)
      (flat_map (work_at heading.shards shard) works) refl) ∙ hears_split works

module _ (heading : Heading) (lines : List Line) (histories : Histories) (served : ℕ → List Served)
    (a : AreLeftByThreads heading lines histories served) (head : IsScript heading lines) where
  -- the mails that a thread took in, by their couriers
  mails_counted : (member : ℕ) → IsMember heading member → (test : Mail → Bool) → test mail.End ≡ false
      → ((m : Mail) → is_for heading.shards m ≡ false → test m ≡ false)
      → count_by test (filter_map mail_of (a.works member))
      ≡ total_to (length heading.clients)
      (λ client. owed test (draws_for heading client member (changes_posted heading.shards (served client))))
      + total_to heading.members (λ other. owed test (draws_for heading (courier_of other) member
      (reports_posted heading other (filter_map round_of (a.works other)))))
  mails_counted member is test none others =
      let m = a.mailed member is in
      let e = ap (count_by test) (a.threads member is).mails in
      let f = kept_count test (is_for heading.shards) others (map (λ (p : Posted). p.mail) (a.taken member)) in
      let g = by_senders test (length heading.clients) heading.members (a.taken member) m.senders in
      let h = total_same (length heading.clients) (λ c. count_by test (of (c - 1) (a.taken member)))
      (λ c. owed test (draws_for heading c member (changes_posted heading.shards (served c))))
      (λ c low high. ap (count_by test) (m.of_clients c (low, high))
      ∙ delivered_count test none (draws_for heading c member (changes_posted heading.shards (served c)))) in
      let i = total_same heading.members (λ o. count_by test (of (length heading.clients + (o - 1)) (a.taken member)))
      (λ o. owed test (draws_for heading (courier_of o) member (reports_posted heading o (filter_map round_of (a.works o)))))
      (λ o low high. ap (count_by test) (m.of_members o (low, high))
      ∙ delivered_count test none (draws_for heading (courier_of o) member (reports_posted heading o (filter_map round_of (a.works o))))) in
      omega arith

  -- clause 4
  pub takings_counted : TakesChanges heading histories served
  takings_counted member shard test is within =
      let h = ap (count_by test) (only_thread heading lines histories served a member shard is within taken_in
      (λ client. record { calls = λ to n ask reply made. refl; asks = λ n ask reply. refl }) (λ joiner what. refl)) in
      let s = takes_split heading shard test (a.works member) (all_in (IsAtShard heading.shards) (a.works member) at_shard)
      (a.threads member is).members in
      let g = total_same heading.members (λ giver. count_by test (filter_map (got_from heading.shards shard giver) (a.works member)))
      (λ giver. count_by test (given_to member (histories giver shard)))
      (λ giver low high. ap (count_by test) ((a.threads member is).given giver shard (low, high) within)) in
      let m = mails_counted member is (brings_change shard test) refl (other_change heading.shards shard test) in
      let z = total_none heading.members
      (λ o. owed (brings_change shard test)
      (draws_for heading (courier_of o) member (reports_posted heading o (filter_map round_of (a.works o)))))
      (λ o low high. owed_nothing (brings_change shard test)
      (draws_for heading (courier_of o) member (reports_posted heading o (filter_map round_of (a.works o))))
      (λ mail' among. not_change mail' (member_posting heading lines histories served a head o (low, high) mail'
      (drawn_posted mail' heading.members (first_number heading.trouble (courier_of o)) (member - 1)
      (reports_posted heading o (filter_map round_of (a.works o))) among)))) in
      omega arith
    where
      at_shard : (w : Work) → Among w (a.works member) → IsAtShard heading.shards w
      at_shard (TookIn at change verdict) among = (took_made heading lines histories served a head member is at change verdict among).0
      at_shard (HeardOf at report) among = tt
      at_shard (ReportedAll reports) among = tt
      at_shard (SweptAll moment expired) among = tt
      at_shard (Merged at image) among = tt
      at_shard (GotFrom giver change verdict) among = tt

      not_change : (m : Mail) → IsOfMember heading a.works m → brings_change shard test m ≡ false
      not_change m from = ap (brings_change shard test) from.mail_is

  -- clause 5
  pub hearings_counted : HearsReports heading histories (λ other. filter_map round_of (a.works other))
  hearings_counted member shard test is within =
      let h = ap (count_by test) (only_thread heading lines histories served a member shard is within heard_in
      (λ client. record { calls = λ to n ask reply made. refl; asks = λ n ask reply. refl }) (λ joiner what. refl)) in
      let s = hears_split heading shard test (a.works member) in
      let m = mails_counted member is (brings_report shard test) refl (other_report heading.shards shard within test) in
      let z = total_none (length heading.clients)
      (λ c. owed (brings_report shard test) (draws_for heading c member (changes_posted heading.shards (served c))))
      (λ c low high. owed_nothing (brings_report shard test) (draws_for heading c member (changes_posted heading.shards (served c)))
      (λ mail' among. not_report mail' (client_posting heading lines histories served a head c (low, high) mail'
      (drawn_posted mail' heading.members (first_number heading.trouble c) (member - 1) (changes_posted heading.shards (served c)) among))))
      in
      omega arith
    where
      not_report : (m : Mail) → IsOfClient heading served m → brings_report shard test m ≡ false
      not_report m from = ap (brings_report shard test) from.mail_is
