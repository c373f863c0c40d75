-- What is prepared can be committed.
use Rattle.std.proofs.Common.{◌≡◌, ◌≤◌, ◌∙◌, ap, sym, refl, subst, ℕ, ◌+◌, List, [], ◌∷◌, reverse, Bool, true, false, Option, Some}
use Rattle.std.proofs.Common.{length, map, arith}
use Rattle.std.specs.List.{AllByRecursion}
use Rattle.gr_oql.specs.declared.event.Event.{Event}
use Rattle.gr_cq.specs.Entries.{Queries}
use Rattle.gr_cq.specs.Foresight.{Foresight, Enrolling, Taking, Telling, IsWithin, longest, room_of}
use Rattle.gr_history.specs.declared.identity.Identity.{Identity}
use Rattle.gr_history.specs.declared.deed.Deed.{Deed}
use Rattle.gr_history.specs.declared.deed.Deed.TheVariants.{Asked, Gave, Heard, Reported}
use Rattle.gr_history.specs.declared.query_ask.QueryAsk.{QueryAsk}
use Rattle.gr_history.specs.declared.query_reply.QueryReply.{QueryReply}
use Rattle.gr_history.specs.Queries.{query_gives}
use Rattle.gr_history.specs.Turned.{turned, turned_at}
use Rattle.gr_law.proofs.Waiting.{none_turned}
use Rattle.gr_history.specs.declared.image.What.{What}
use Rattle.gr_history.specs.Gifts.{IsReportOf}
use Rattle.gr_vector.specs.declared.report.Report.{Report}
use Rattle.gr_shard.specs.declared.effect.SlotsAfter.{SlotsAfter}
use Rattle.gr_shard.specs.declared.effect.SlotsAfter.TheVariants as slots_
use Rattle.gr_shard.specs.declared.effect.QueriesAfter.{QueriesAfter}
use Rattle.gr_shard.specs.declared.effect.QueriesAfter.TheVariants.{Same, Told, Stopped, Closed}
use Rattle.gr_shard.specs.Effects.{IsMadeAt, IsReadyFor, IsRoomed, IsTimed, needs, queries_after, unchanged}
use Rattle.gr_shard.specs.InStep.{opened, served}
use Rattle.gr_shard.specs.Prepared.{IsFit}
use Rattle.gr_shard.specs.View.{Account, IsKept, spare_of}
use Rattle.gr_shard.proofs.Asked.{kept_answered}
use Rattle.gr_shard.proofs.Gifts.{kept_gave}
use Rattle.gr_shard.proofs.Reports.{kept_heard, kept_reported}

-- a shard as contracts see it, by what it keeps
abbrev pub account_of : Identity → ℕ → List Deed → Bool → ℕ → Account
account_of id opening deeds roomy events = record { id = id; opening = opening; deeds = deeds; spare = spare_of roomy events }

-- ---- room

pub needs_some : (after : QueriesAfter) → 1 ≤ needs after
needs_some Same = omega arith
needs_some (Told foreseen) = omega arith
needs_some (Stopped client name) = omega arith
needs_some (Closed client name) = omega arith

-- Where there is any room there is room for a deed, and for all but one of it at each query.
pub is_roomy : (roomy : Bool) (events needed : ℕ) → 1 ≤ needed → needed ≤ spare_of roomy events → roomy ≡ true
is_roomy true events needed some within = refl
is_roomy false events needed some within = absurd (omega (arith, some, within))

pub has_events : (roomy : Bool) (events needed : ℕ) → needed ≤ spare_of roomy events → needed ≤ 1 + events
has_events true events needed within = within
has_events false events needed within = omega (arith, within)

longest_some : (lists : List (List Event)) → 1 ≤ longest lists
longest_some [] = omega arith
longest_some (events ∷ lists) = let rest = longest_some lists in omega (arith, rest)

room_some : (change : Foresight) → 1 ≤ room_of change
room_some (Enrolling entry) = omega arith
room_some (Taking client name) = omega arith
room_some (Telling lists) = longest_some lists

longest_within : (most : ℕ) (lists : List (List Event)) → longest lists ≤ most
    → AllByRecursion (λ (events : List Event). length events ≤ most) lists
longest_within most [] all = tt
longest_within most (events ∷ lists) all = (omega (arith, all), longest_within most lists (omega (arith, all)))

room_within : (most : ℕ) (change : Foresight) → room_of change ≤ most → IsWithin most change
room_within most (Enrolling entry) all = tt
room_within most (Taking client name) all = tt
room_within most (Telling lists) all = longest_within most lists all

-- What was foreseen for these queries can be told to them where there is room.
pub ready_for : (queries : Queries) (after : QueriesAfter) → IsMadeAt queries.entries after → needs after ≤ 1 + queries.spare
    → IsReadyFor queries after
ready_for queries Same made room = tt
ready_for queries (Told foreseen) made room =
    let some = room_some foreseen in
    record {
      made = made;
      room = omega (arith, some, room);
      within = room_within queries.spare foreseen (omega (arith, room));
    }
ready_for queries (Stopped client name) made room = tt
ready_for queries (Closed client name) made room = tt

-- ---- deeds that turn no key

module _ (account : Account) (some : 1 ≤ account.spare) where
  pub fit_reported : (report : Report) → IsReportOf account.id (reverse account.deeds) report
      → IsFit account (Reported report) unchanged
  fit_reported report is = record {
    room = some;
    keeps = λ now ordered same kept. kept_reported account.id account.opening now (reverse account.deeds) report kept is;
    opens = refl;
    timed = tt;
    made = tt;
    given = tt;
  }

  pub fit_heard : (report : Report) → IsFit account (Heard report) (record unchanged { heard = Some report })
  fit_heard report = record {
    room = some;
    keeps = λ now ordered same kept. kept_heard account.id account.opening now (reverse account.deeds) report kept;
    opens = refl;
    timed = tt;
    made = tt;
    given = tt;
  }

  pub fit_gave : (to : ℕ) (what : What) → 1 ≤ to → to ≤ account.id.members → account.id.members ≤ 8
      → IsFit account (Gave to what) (record unchanged { to = Some to })
  fit_gave to what from stated few = record {
    room = some;
    keeps = λ now ordered same kept. kept_gave account.id account.opening now (reverse account.deeds) to what kept from stated;
    opens = refl;
    timed = tt;
    made = tt;
    given = (from, omega (arith, stated, few));
  }

-- ---- room that grows

pub spare_grows : (roomy : Bool) (before events : ℕ) → before ≤ events → spare_of roomy before ≤ spare_of roomy events
spare_grows true before events more = omega (arith, more)
spare_grows false before events more = omega arith

pub spare_is : (roomy : Bool) (before events needed : ℕ) → 1 ≤ spare_of roomy before → needed ≤ 1 + events
    → needed ≤ spare_of roomy events
spare_is true before events needed some within = within
spare_is false before events needed some within = absurd (omega (arith, some))

-- ---- a client's step on a query

pub turned_asked : (client seq : ℕ) (ask : QueryAsk) (reply : QueryReply) (past : List Deed) → turned (Asked client seq ask reply) past ≡ []
turned_asked client seq ask reply past =
    ap (map (turned_at (Asked client seq ask reply) past)) (none_turned (Asked client seq ask reply) past (λ key. refl))

pub fit_asked : (account : Account) (client seq : ℕ) (ask : QueryAsk) (reply : QueryReply) (after : QueriesAfter)
    → needs after ≤ account.spare → reply ≡ query_gives client ask (reverse account.deeds)
    → queries_after after (opened (reverse account.deeds)) ≡ served client ask (opened (reverse account.deeds))
    → IsMadeAt (opened (reverse account.deeds)) after
    → IsFit account (Asked client seq ask reply) (record unchanged { queries = after })
fit_asked account client seq ask reply after room is tells made = record {
  room = room;
  keeps = λ now ordered same kept.
      subst
      (λ queries. IsKept account.id account.opening (record now { queries = queries }) (Asked client seq ask reply ∷ reverse account.deeds))
      (sym (subst (λ all. queries_after after all ≡ served client ask all) (sym same) tells))
      (kept_answered account.id account.opening now (reverse account.deeds) client seq ask reply kept is);
  opens = tells;
  timed = tt;
  made = made;
  given = tt;
}

-- A slot that comes in at this clock has room where there is room for one at this clock.
pub roomed : (after : SlotsAfter) (room : Option ℕ) (clock : ℕ) → room ≡ Some clock → IsTimed clock after → IsRoomed room after
roomed slots_.Same room clock is timed = tt
roomed (slots_.With key slot) room clock is timed = is ∙ ap Some (sym timed)
roomed (slots_.New new) room clock is timed = tt
roomed (slots_.Without keys) room clock is timed = tt
