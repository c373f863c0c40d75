-- Of what kind the deeds of each owner are.
use Rattle.std.proofs.Common.{◌≡◌, ℕ, ◌<◌, ◌⊎◌, ◌==◌, Bool, true, false, List, [], ◌∷◌, Option, Some, None}
use Rattle.std.proofs.Common.{refl, sym, ap, ◌∙◌, subst, inl, inr, reverse, flat_map, if◌then◌else◌}
use Rattle.std.specs.Prelude.{slice_get}
use Rattle.std.specs.List.{filter_map, AllByRecursion}
use Rattle.gr_value.specs.Shard.{shard_of}
use Rattle.gr_stamp.specs.declared.change.Change.{Change}
use Rattle.gr_vector.specs.declared.report.Report.{Report}
use Rattle.gr_history.specs.Asks.{key_of}
use Rattle.gr_history.specs.declared.ask.Ask.{Ask}
use Rattle.gr_history.specs.declared.reply.Reply.{Reply}
use Rattle.gr_history.specs.declared.query_ask.QueryAsk.{QueryAsk}
use Rattle.gr_history.specs.declared.query_reply.QueryReply.{QueryReply}
use Rattle.gr_history.specs.declared.verdict.Verdict.{Verdict}
use Rattle.gr_history.specs.declared.image.Image.{Image}
use Rattle.gr_history.specs.declared.image.What.{What}
use Rattle.gr_history.specs.declared.deed.Deed.{Deed}
use Rattle.gr_history.specs.declared.deed.Deed.TheVariants.{Call, Asked, Taken, Gave, Imaged, Reported, Heard, Swept}
use Rattle.gr_script.specs.declared.line.Line.{Line}
use Rattle.gr_script.specs.Rules.{Heading, IsMember, IsStated, home_of}
use Rattle.gr_world.specs.Grids.{Histories}
use Rattle.gr_world.specs.Served.{Served, Called, Queried, Looked, deeds_of, all_deeds_of}
use Rattle.gr_run_law.specs.Shares.{Owner, Client, Thread, Giver}
use Rattle.gr_run_law.specs.Duties.{gift_due}
use Rattle.gr_run_law.specs.Threads.{AreLeftByThreads, Work, TookIn, HeardOf, ReportedAll, SweptAll, Merged, GotFrom, work_at, deed_if}
use Rattle.gr_run_law.specs.Threads.{report_deed, sweep_deed}
use Rattle.gr_run_law.proofs.Sharing.{GivesNone, one_owner}
use Rattle.gr_run_law.proofs.Lists.{all_at, all_flat, all_map}

-- P holds of each step of the client
pub record OfSteps (client : ℕ) (P : Deed → Type 0) : Type 0 where
  pub calls : (to number : ℕ) (ask : Ask) (reply : Reply) (made : Option Change) → P (Call client to number ask reply made)
  pub asks : (number : ℕ) (ask : QueryAsk) (reply : QueryReply) → P (Asked client number ask reply)

-- and of each deed of a member's thread
pub record OfWorks (P : Deed → Type 0) : Type 0 where
  pub takes : (change : Change) (verdict : Verdict) → P (Taken change verdict)
  pub hears : (report : Report) → P (Heard report)
  pub reports : (report : Report) → P (Reported report)
  pub sweeps : (moment : ℕ) (expired : List (List ℕ)) → P (Swept moment expired)
  pub merges : (image : Image) → P (Imaged image)

pub steps_all : (client shards shard : ℕ) (P : Deed → Type 0) → OfSteps client P → (served : List Served)
    → AllByRecursion P (all_deeds_of client shards shard served)
steps_all client shards shard P of served = all_flat P (deeds_of client shards shard) each served
  where
    at_shard : (b : Bool) (number : ℕ) (ask : Ask) (reply : Reply) (made : Option Change) (to : ℕ)
        → AllByRecursion P (if b then Call client to number ask reply made ∷ [] else [])
    at_shard true number ask reply made to = (of.calls to number ask reply made, tt)
    at_shard false number ask reply made to = tt

    each : (one : Served) → AllByRecursion P (deeds_of client shards shard one)
    each (Called number ask reply made to) = at_shard (shard == shard_of (key_of ask) shards) number ask reply made to
    each (Queried number ask replies) = (of.asks number ask _, tt)
    each (Looked number peek) = tt

pub works_all : (shards shard : ℕ) (P : Deed → Type 0) → OfWorks P → (works : List Work)
    → AllByRecursion P (flat_map (work_at shards shard) works)
works_all shards shard P of works = all_flat P (work_at shards shard) each works
  where
    at_shard : (b : Bool) (deed : Deed) → P deed → AllByRecursion P (deed_if b deed)
    at_shard true deed h = (h, tt)
    at_shard false deed h = tt

    at_report : (o : Option Report) → AllByRecursion P (report_deed o)
    at_report None = tt
    at_report (Some report) = (of.reports report, tt)

    at_sweep : (moment : ℕ) (o : Option (List (List ℕ))) → AllByRecursion P (sweep_deed moment o)
    at_sweep moment None = tt
    at_sweep moment (Some expired) = (of.sweeps moment expired, tt)

    each : (one : Work) → AllByRecursion P (work_at shards shard one)
    each (TookIn at change verdict) = at_shard (shard == shard_of change.key shards) (Taken change verdict) (of.takes change verdict)
    each (HeardOf at report) = at_shard (shard == at) (Heard report) (of.hears report)
    each (ReportedAll reports) = at_report (slice_get reports shard)
    each (SweptAll moment expired) = at_sweep moment (slice_get expired shard)
    each (Merged at image) = at_shard (shard == at) (Imaged image) (of.merges image)
    each (GotFrom giver change verdict) = at_shard (shard == shard_of change.key shards) (Taken change verdict) (of.takes change verdict)

module _ (heading : Heading) (lines : List Line) (histories : Histories) (served : ℕ → List Served)
    (a : AreLeftByThreads heading lines histories served) (member shard : ℕ) (is : IsMember heading member)
    (within : shard < heading.shards) where
  -- a client's deeds at the member: those of its steps, where it is stated and is at the member, or none
  pub client_owned : (client : ℕ)
      → (IsStated client heading × (member ≡ home_of heading client)
      × (a.owned member shard (Client client) ≡ all_deeds_of client heading.shards shard (served client)))
      ⊎ (a.owned member shard (Client client) ≡ [])
  client_owned client = at_case ((a.written member shard is within).clients client)
    where
      at_case : (IsStated client heading × (member ≡ home_of heading client)) ⊎ (a.owned member shard (Client client) ≡ [])
          → (IsStated client heading × (member ≡ home_of heading client)
          × (a.owned member shard (Client client) ≡ all_deeds_of client heading.shards shard (served client)))
          ⊎ (a.owned member shard (Client client) ≡ [])
      at_case (inl (stated, home)) = inl (
        stated,
        home,
        ap (λ m. a.owned m shard (Client client)) home ∙ (a.sessions client stated).deeds shard within,
      )
      at_case (inr none) = inr none

  pub client_all : (client : ℕ) (P : Deed → Type 0) → OfSteps client P → AllByRecursion P (a.owned member shard (Client client))
  client_all client P of = at_case (client_owned client)
    where
      at_case : (IsStated client heading × (member ≡ home_of heading client)
          × (a.owned member shard (Client client) ≡ all_deeds_of client heading.shards shard (served client)))
          ⊎ (a.owned member shard (Client client) ≡ []) → AllByRecursion P (a.owned member shard (Client client))
      at_case (inl (stated, home, owns)) = subst (AllByRecursion P) (sym owns) (steps_all client heading.shards shard P of (served client))
      at_case (inr none) = subst (AllByRecursion P) (sym none) tt

  pub thread_all : (P : Deed → Type 0) → OfWorks P → AllByRecursion P (a.owned member shard Thread)
  thread_all P of = subst (AllByRecursion P) (sym ((a.threads member is).deeds shard within))
      (works_all heading.shards shard P of (a.works member))

  pub giver_all : (joiner : ℕ) (P : Deed → Type 0) → ((what : What) → P (Gave joiner what))
      → AllByRecursion P (a.owned member shard (Giver joiner))
  giver_all joiner P of =
      subst (AllByRecursion P) (sym ((a.written member shard is within).givers joiner))
      (all_map P (λ what. Gave joiner what) of (filter_map (gift_due member joiner) lines))

  -- what f gives of the history, where it gives nothing of clients' steps and gifts
  pub only_thread : {B : Type 0} (f : Deed → Option B) → ((client : ℕ) → OfSteps client (λ d. f d ≡ None))
      → ((joiner : ℕ) (what : What) → f (Gave joiner what) ≡ None)
      → filter_map f (reverse (histories member shard)) ≡ filter_map f (flat_map (work_at heading.shards shard) (a.works member))
  only_thread f steps gave =
      one_owner f (reverse (histories member shard)) (a.owned member shard) (a.places member shard) Thread
      (a.shared member shard is within) others
      ∙ ap (filter_map f) ((a.threads member is).deeds shard within)
    where
      others : (other : Owner) → (other ≡ Thread) ⊎ GivesNone f (a.owned member shard other)
      others (Client client) = inr (all_at (λ d. f d ≡ None) (a.owned member shard (Client client))
          (client_all client (λ d. f d ≡ None) (steps client)))
      others Thread = inl refl
      others (Giver joiner) = inr (all_at (λ d. f d ≡ None) (a.owned member shard (Giver joiner))
          (giver_all joiner (λ d. f d ≡ None) (gave joiner)))
