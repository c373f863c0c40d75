-- What members' lines ask for is done, and clients wait for an image.
use Rattle.std.proofs.Common.{◌≡◌, ◌≢◌, ℕ, ◌<◌, ◌⊎◌, ◌==◌, Bool, true, false, List, [], ◌∷◌, length, Option, Some, None}
use Rattle.std.proofs.Common.{refl, sym, ap, ◌∙◌, subst, arith, inl, inr, reverse, if◌then◌else◌, ne_eqb}
use Rattle.std.specs.Prelude.{slice_get}
use Rattle.std.specs.List.{filter_map, cons_option, AllByRecursion}
use native.Mathlib.Decide.{ℕ_discrete}
use mathlib.Core.Logic.{dite}
use Rattle.gr_value.specs.Shard.{shard_of}
use Rattle.gr_vector.specs.declared.report.Report.{Report}
use Rattle.gr_turn.specs.Views.{times}
use Rattle.gr_history.specs.declared.deed.Deed.{Deed}
use Rattle.gr_history.specs.declared.deed.Deed.TheVariants.{Call, Asked, Taken, Gave, Imaged, Reported, Heard, Swept}
use Rattle.gr_history.specs.declared.image.What.{What}
use Rattle.gr_history.specs.Recipients.{has_image}
use Rattle.gr_law.specs.Grids.{Older}
use Rattle.gr_script.specs.declared.line.Line.{Line}
use Rattle.gr_script.specs.Rules.{Heading, IsMember, IsStated, home_of}
use Rattle.gr_script.specs.Steps.{joins_of}
use Rattle.gr_world.specs.Grids.{Histories}
use Rattle.gr_world.specs.Served.{Served, all_deeds_of}
use Rattle.gr_run_law.specs.Shares.{Owner, Client, Thread, Giver}
use Rattle.gr_run_law.specs.Duties.{Joins, duty_in, gift_in, gift_due, reported_in, is_step}
use Rattle.gr_run_law.specs.Runs.{DoesDuties, GivesGifts, WaitsForImage, AreRounds}
use Rattle.gr_run_law.specs.Threads.{AreLeftByThreads, Work, TookIn, HeardOf, ReportedAll, SweptAll, Merged, GotFrom, work_at, deed_if}
use Rattle.gr_run_law.specs.Threads.{report_deed, sweep_deed, FitsShards, duty_at, round_of, IsReadyBefore}
use Rattle.gr_run_law.proofs.Sharing.{GivesNone, one_owner, entry_at, get_below}
use Rattle.gr_run_law.proofs.Lists.{all_at, filter_flat, filter_mapped, map_itself, get_some, older_get, older_below, same_number, no_item, true_false}
use Rattle.gr_run_law.proofs.Lists.{same_in_some}
use Rattle.gr_run_law.proofs.Owners.{OfSteps, client_owned, client_all, thread_all, giver_all, only_thread}

-- what f gives of a deed that is there or isn't, where it gives nothing of it
pub none_if : {B : Type 0} (f : Deed → Option B) (b : Bool) (deed : Deed) → f deed ≡ None → filter_map f (deed_if b deed) ≡ []
none_if f true deed none = rw none refl
none_if f false deed none = refl

pub no_duties : (client : ℕ) → OfSteps client (λ d. duty_in d ≡ None)
no_duties client = record { calls = λ to n ask reply made. refl; asks = λ n ask reply. refl }

duty_each : (shards shard : ℕ) → shard < shards → (w : Work) → FitsShards shards w
    → filter_map duty_in (work_at shards shard w) ≡ cons_option (duty_at shard w) []
duty_each shards shard within (TookIn at change verdict) is =
    none_if duty_in (shard == shard_of change.key shards) (Taken change verdict) refl
duty_each shards shard within (HeardOf at report) is = none_if duty_in (shard == at) (Heard report) refl
duty_each shards shard within (ReportedAll reports) is =
    let some = get_some reports shard (let l : length reports ≡ shards = is in omega arith) in rw some.1 refl
duty_each shards shard within (SweptAll moment expired) is =
    let some = get_some expired shard (let l : length expired ≡ shards = is in omega arith) in rw some.1 refl
duty_each shards shard within (Merged at image) is = at_test (shard == at)
  where
    at_test : (b : Bool) → filter_map duty_in (deed_if b (Imaged image)) ≡ cons_option (if b then Some (Joins image.from) else None) []
    at_test true = refl
    at_test false = refl
duty_each shards shard within (GotFrom giver change verdict) is =
    none_if duty_in (shard == shard_of change.key shards) (Taken change verdict) refl

-- the report at the shard, where it is a round of reports
reported_at : ℕ → Work → Option Report
reported_at shard (TookIn at change verdict) = None
reported_at shard (HeardOf at report) = None
reported_at shard (ReportedAll reports) = slice_get reports shard
reported_at shard (SweptAll moment expired) = None
reported_at shard (Merged at image) = None
reported_at shard (GotFrom giver change verdict) = None

reported_each : (shards shard : ℕ) → (w : Work) → Unit {0} → filter_map reported_in (work_at shards shard w)
    ≡ cons_option (reported_at shard w) []
unfolding reported_at
reported_each shards shard (TookIn at change verdict) is =
    none_if reported_in (shard == shard_of change.key shards) (Taken change verdict) refl
reported_each shards shard (HeardOf at report) is = none_if reported_in (shard == at) (Heard report) refl
reported_each shards shard (ReportedAll reports) is = at_report (slice_get reports shard)
  where
    at_report : (o : Option Report) → filter_map reported_in (report_deed o) ≡ cons_option o []
    at_report None = refl
    at_report (Some report) = refl
reported_each shards shard (SweptAll moment expired) is = at_sweep (slice_get expired shard)
  where
    at_sweep : (o : Option (List (List ℕ))) → filter_map reported_in (sweep_deed moment o) ≡ []
    at_sweep None = refl
    at_sweep (Some keys) = refl
reported_each shards shard (Merged at image) is = none_if reported_in (shard == at) (Imaged image) refl
reported_each shards shard (GotFrom giver change verdict) is =
    none_if reported_in (shard == shard_of change.key shards) (Taken change verdict) refl

by_rounds : (shard : ℕ) (works : List Work) → filter_map (reported_at shard) works
    ≡ filter_map (λ reports. slice_get reports shard) (filter_map round_of works)
unfolding reported_at
by_rounds shard [] = refl
by_rounds shard (TookIn at change verdict ∷ works) = by_rounds shard works
by_rounds shard (HeardOf at report ∷ works) = by_rounds shard works
by_rounds shard (ReportedAll reports ∷ works) = ap (cons_option (slice_get reports shard)) (by_rounds shard works)
by_rounds shard (SweptAll moment expired ∷ works) = by_rounds shard works
by_rounds shard (Merged at image ∷ works) = by_rounds shard works
by_rounds shard (GotFrom giver change verdict ∷ works) = by_rounds shard works

round_lengths : (shards : ℕ) (works : List Work) → AllByRecursion (FitsShards shards) works
    → AllByRecursion (λ reports. length reports ≡ shards) (filter_map round_of works)
round_lengths shards [] all = tt
round_lengths shards (TookIn at change verdict ∷ works) all = round_lengths shards works all.1
round_lengths shards (HeardOf at report ∷ works) all = round_lengths shards works all.1
round_lengths shards (ReportedAll reports ∷ works) all = (all.0, round_lengths shards works all.1)
round_lengths shards (SweptAll moment expired ∷ works) all = round_lengths shards works all.1
round_lengths shards (Merged at image ∷ works) all = round_lengths shards works all.1
round_lengths shards (GotFrom giver change verdict ∷ works) all = round_lengths shards works all.1

no_more : (works : List Work) → AllByRecursion (λ (w : Work). Unit {0}) works
no_more [] = tt
no_more (w ∷ works) = (tt, no_more works)

image_stays : (q h : List Deed) → Older q h → has_image q ≡ true → has_image h ≡ true
image_stays q [] o i = subst (λ z. has_image z ≡ true) o i
image_stays q (first ∷ past) (inl is) i = subst (λ z. has_image z ≡ true) is i
image_stays q (Call client to seq ask reply made ∷ past) (inr o) i = image_stays q past o i
image_stays q (Asked client seq ask reply ∷ past) (inr o) i = image_stays q past o i
image_stays q (Taken change verdict ∷ past) (inr o) i = image_stays q past o i
image_stays q (Gave to what ∷ past) (inr o) i = image_stays q past o i
image_stays q (Imaged image ∷ past) (inr o) i = refl
image_stays q (Reported report ∷ past) (inr o) i = image_stays q past o i
image_stays q (Heard report ∷ past) (inr o) i = image_stays q past o i
image_stays q (Swept moment expired ∷ past) (inr o) i = image_stays q past o i

module _ (heading : Heading) (lines : List Line) (histories : Histories) (served : ℕ → List Served)
    (a : AreLeftByThreads heading lines histories served) where
  -- clause 1
  pub duties_done : DoesDuties heading lines histories
  duties_done member shard is within =
      only_thread heading lines histories served a member shard is within duty_in no_duties (λ joiner what. refl)
      ∙ filter_flat duty_in (work_at heading.shards shard) (duty_at shard) (FitsShards heading.shards)
      (duty_each heading.shards shard within)
      (a.works member) (a.threads member is).shards
      ∙ (a.threads member is).duties shard within

  -- clause 2
  pub gifts_given : GivesGifts heading lines histories
  gifts_given giver joiner shard is within =
      one_owner f (reverse (histories giver shard)) (a.owned giver shard) (a.places giver shard) (Giver joiner)
      (a.shared giver shard is within) others
      ∙ ap (filter_map f) ((a.written giver shard is within).givers joiner)
      ∙ filter_mapped f (λ what. Gave joiner what) (λ what. what) (λ what. rw (same_number joiner) refl)
      (filter_map (gift_due giver joiner) lines)
      ∙ map_itself (filter_map (gift_due giver joiner) lines)
    where
      f : Deed → Option What
      f = gift_in joiner

      none_of : (owner : Owner) → AllByRecursion (λ d. f d ≡ None) (a.owned giver shard owner) → GivesNone f (a.owned giver shard owner)
      none_of owner all = all_at (λ d. f d ≡ None) (a.owned giver shard owner) all

      others : (other : Owner) → (other ≡ Giver joiner) ⊎ GivesNone f (a.owned giver shard other)
      others (Client client) = inr (none_of (Client client)
          (client_all heading lines histories served a giver shard is within client (λ d. f d ≡ None)
          record { calls = λ to n ask reply made. refl; asks = λ n ask reply. refl }))
      others Thread = inr (none_of Thread (thread_all heading lines histories served a giver shard is within (λ d. f d ≡ None)
          record { takes = λ c v. refl; hears = λ r. refl; reports = λ r. refl; sweeps = λ m e. refl; merges = λ i. refl }))
      others (Giver other) = dite (ℕ_discrete other joiner) (λ (e : other ≡ joiner). inl (ap (λ j. Giver j) e))
          (λ ne. inr (none_of (Giver other) (giver_all heading lines histories served a giver shard is within other (λ d. f d ≡ None)
          (λ what. rw (ne_eqb other joiner ne) refl))))

  -- clause 3
  pub steps_wait : WaitsForImage heading lines histories
  steps_wait member shard within joins deed past o step = at_member (a.outside member shard)
    where
      list : List Deed
      list = reverse (histories member shard)

      get : slice_get (reverse (histories member shard)) (length past) ≡ Some deed
      get = older_get deed past (histories member shard) o

      Goal : Type 0
      Goal = has_image past ≡ true

      -- the step's deed is no other's
      not_step : (is : IsMember heading member) (owner : Owner) → AllByRecursion (λ d. is_step d ≡ false) (a.owned member shard owner)
          → 0 < times (length past) (a.places member shard owner) → ⊥
      not_step is owner all t =
          let entry = entry_at list 0 (a.places member shard owner) (a.owned member shard owner) (length past) (λ d. is_step d ≡ false)
          ((a.shared member shard is within).stands owner) (all_at (λ d. is_step d ≡ false) (a.owned member shard owner) all) t in
          true_false (sym step ∙ ap is_step (same_in_some deed entry.0 (sym get ∙ entry.1)) ∙ entry.2)

      of_client : (is : IsMember heading member) (client : ℕ) → 0 < times (length past) (a.places member shard (Client client))
          → (IsStated client heading × (member ≡ home_of heading client)
          × (a.owned member shard (Client client) ≡ all_deeds_of client heading.shards shard (served client)))
          ⊎ (a.owned member shard (Client client) ≡ []) → Goal
      of_client is client t (inr none) =
          absurd (not_step is (Client client) (subst (AllByRecursion (λ d. is_step d ≡ false)) (sym none) tt) t)
      of_client is client t (inl (stated, home, owns)) =
          let joins' : joins_of (home_of heading client) lines ≢ 0 = subst (λ m. joins_of m lines ≢ 0) home joins in
          let ready : IsReadyBefore (histories member shard) (a.places member shard (Client client)) =
          subst (λ m. IsReadyBefore (histories m shard) (a.places m shard (Client client))) (sym home)
          ((a.sessions client stated).ready shard within joins') in
          image_stays ready.past past (older_below deed ready.past past (histories member shard) ready.older o
          (ready.later (length past) t)) ready.ready

      at_owner : (is : IsMember heading member) → (owner : Owner) × (0 < times (length past) (a.places member shard owner)) → Goal
      at_owner is (Client client, t) = of_client is client t (client_owned heading lines histories served a member shard is within client)
      at_owner is (Thread, t) = absurd
          (not_step is Thread (thread_all heading lines histories served a member shard is within (λ d. is_step d ≡ false)
          record { takes = λ c v. refl; hears = λ r. refl; reports = λ r. refl; sweeps = λ m e. refl; merges = λ i. refl }) t)
      at_owner is (Giver joiner, t) = absurd (not_step is (Giver joiner)
          (giver_all heading lines histories served a member shard is within joiner (λ d. is_step d ≡ false) (λ what. refl)) t)

      at_member : IsMember heading member ⊎ (histories member shard ≡ []) → Goal
      at_member (inl is) = at_owner is ((a.shared member shard is within).each (length past) (get_below list (length past) deed get))
      at_member (inr none) = absurd (no_item deed past (subst (Older (deed ∷ past)) none o))

  -- the reports of a history are those of the member's rounds
  pub rounds_reported : AreRounds heading histories (λ member. filter_map round_of (a.works member))
  rounds_reported member is = (
    round_lengths heading.shards (a.works member) (a.threads member is).shards,
    λ shard within.
        only_thread heading lines histories served a member shard is within reported_in
        (λ client. record { calls = λ to n ask reply made. refl; asks = λ n ask reply. refl }) (λ joiner what. refl)
        ∙ filter_flat reported_in (work_at heading.shards shard) (reported_at shard) (λ (w : Work). Unit {0})
        (reported_each heading.shards shard)
        (a.works member) (no_more (a.works member))
        ∙ by_rounds shard (a.works member),
  )
