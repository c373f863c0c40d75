-- A call and a change that is taken in, once prepared, can be committed.
use Rattle.std.proofs.Common.{◌≡◌, ◌≤◌, ◌∙◌, ap, sym, refl, subst, ℕ, List, ◌∷◌, reverse, Option, Some, None}
use Rattle.gr_value.specs.Shard.{shard_of}
use Rattle.gr_stamp.specs.declared.change.Change.{Change}
use Rattle.gr_cq.specs.Entries.{Entry, noted}
use Rattle.gr_history.specs.declared.identity.Identity.{Identity}
use Rattle.gr_history.specs.declared.ask.Ask.{Ask}
use Rattle.gr_history.specs.declared.reply.Reply.{Reply}
use Rattle.gr_history.specs.declared.verdict.Verdict.{Verdict}
use Rattle.gr_history.specs.declared.deed.Deed.{Deed}
use Rattle.gr_history.specs.declared.deed.Deed.TheVariants.{Call, Taken}
use Rattle.gr_history.specs.Asks.{key_of}
use Rattle.gr_history.specs.Calls.{call_gives}
use Rattle.gr_history.specs.Clock.{clock as clock_of}
use Rattle.gr_history.specs.Ids.{id_of}
use Rattle.gr_history.specs.Turned.{turned}
use Rattle.gr_history.specs.Verdicts.{verdict}
use Rattle.gr_law.proofs.Turns.{turned_call, turned_unmade}
use Rattle.gr_slots.specs.Slots.{Entries}
use Rattle.gr_vector.specs.Ids.{Id}
use Rattle.gr_vector.specs.Order.{with_id}
use Rattle.gr_shard.specs.declared.effect.IdsAfter.TheVariants as ids_
use Rattle.gr_shard.specs.declared.effect.QueriesAfter.{QueriesAfter}
use Rattle.gr_shard.specs.Asking.{Hold}
use Rattle.gr_shard.specs.Effects.{IsMadeAt, IsTimed, arriving, ids_after, needs, noting, queries_after, slots_after, unchanged}
use Rattle.gr_shard.specs.Entries.{applied, with_change, with_made}
use Rattle.gr_shard.specs.InStep.{opened}
use Rattle.gr_shard.specs.Prepared.{IsFit}
use Rattle.gr_shard.specs.Telling.{turned_by_change}
use Rattle.gr_shard.specs.View.{Account, IsKept, Kept}
use Rattle.gr_shard.proofs.Kept.{kept_called, kept_taken, turned_change}
use Rattle.gr_shard.proofs.Stocked.{opened_called, opened_taken}
use Rattle.gr_shard.proofs.Turning.{noted_nothing}

arrives : (came : Option Change) (clock : ℕ) (slots : Entries) → with_change came clock slots ≡ slots_after (arriving came clock) slots
arrives None clock slots = refl
arrives (Some change) clock slots = refl

arriving_timed : (came : Option Change) (clock now : ℕ) → clock ≡ now → IsTimed now (arriving came clock)
arriving_timed None clock now is = tt
arriving_timed (Some change) clock now is = is

notes : (made : Option Change) (ids : List Id) → with_made made ids ≡ ids_after (noting made) ids
notes None ids = refl
notes (Some change) ids = refl

-- what a call turns, by the slots before
pub turned_made : (id : Identity) (opening client seq : ℕ) (ask : Ask) (reply : Reply) (made : Option Change) (to : ℕ) (past : List Deed)
    (slots : Entries) → Hold slots past → record { reply = reply; made = made; to = to } ≡ call_gives id opening past ask
    → turned (Call client to seq ask reply made) past ≡ turned_by_change slots made
turned_made id opening client seq ask reply None to past slots stands gives = turned_unmade client seq ask reply to past
turned_made id opening client seq ask reply (Some change) to past slots stands gives =
    turned_call id opening client seq ask reply change to past gives ∙ turned_change change past slots stands

pub opened_made : (id : Identity) (opening client seq : ℕ) (ask : Ask) (reply : Reply) (made : Option Change) (to : ℕ) (past : List Deed)
    (slots : Entries) (queries : List Entry) → Hold slots past → queries ≡ opened past
    → record { reply = reply; made = made; to = to } ≡ call_gives id opening past ask
    → noted (turned_by_change slots made) queries ≡ opened (Call client to seq ask reply made ∷ past)
opened_made id opening client seq ask reply None to past slots queries stands is gives = noted_nothing queries ∙ is
opened_made id opening client seq ask reply (Some change) to past slots queries stands is gives =
    opened_called past slots queries id opening client seq ask reply change to stands is gives

module _ (account : Account) (after : QueriesAfter) (clock : ℕ) (room : needs after ≤ account.spare)
    (clock_is : clock ≡ clock_of (reverse account.deeds)) (made_at : IsMadeAt (opened (reverse account.deeds)) after) where
  -- What changes slots, ids and queries alone.
  keeps_by : (now : Kept) (deed : Deed) (came : Option Change) (ids : List Id) (queries : List Entry)
      → now.clock ≡ clock_of (reverse account.deeds) → queries ≡ queries_after after now.queries
      → IsKept account.id account.opening (record now { slots = with_change came now.clock now.slots; vector = ids; queries = queries })
      (deed ∷ reverse account.deeds)
      → IsKept account.id account.opening (record now {
        slots = slots_after (arriving came clock) now.slots;
        vector = ids;
        queries = queries_after after now.queries;
      })
      (deed ∷ reverse account.deeds)
  keeps_by now deed came ids queries clocked queries_is kept =
      subst (λ slots. IsKept account.id account.opening (record now {
        slots = slots;
        vector = ids;
        queries = queries_after after now.queries;
      })
      (deed ∷ reverse account.deeds))
      (ap (λ n. with_change came n now.slots) (clocked ∙ sym clock_is) ∙ arrives came clock now.slots)
      (subst (λ all. IsKept account.id account.opening (record now {
        slots = with_change came now.clock now.slots;
        vector = ids;
        queries = all;
      })
      (deed ∷ reverse account.deeds)) queries_is kept)

  pub fit_taken : (change : Change) (told : Verdict) → shard_of change.key account.id.shards ≡ account.id.shard
      → told ≡ verdict (reverse account.deeds) change
      → queries_after after (opened (reverse account.deeds)) ≡ opened (Taken change told ∷ reverse account.deeds)
      → IsFit account (Taken change told) (record unchanged {
        slots = arriving (applied told change) clock;
        ids = ids_.With change.stamp;
        queries = after;
      })
  fit_taken change told here is tells = record {
    room = room;
    keeps = λ now ordered same kept.
        keeps_by now (Taken change told) (applied told change) (with_id (id_of change) now.vector)
        (noted (turned_by_change now.slots (applied told change)) now.queries) kept.clocked
        (opened_taken (reverse account.deeds) now.slots now.queries change told kept.stands same is
        ∙ sym (ap (queries_after after) same ∙ tells))
        (kept_taken account.id account.opening now (reverse account.deeds) change told kept here is);
    opens = tells;
    timed = arriving_timed (applied told change) clock (clock_of (reverse account.deeds)) clock_is;
    made = made_at;
    given = tt;
  }

  pub fit_called : (client seq : ℕ) (ask : Ask) (reply : Reply) (made : Option Change) (to : ℕ)
      → shard_of (key_of ask) account.id.shards ≡ account.id.shard
      → record { reply = reply; made = made; to = to } ≡ call_gives account.id account.opening (reverse account.deeds) ask
      → queries_after after (opened (reverse account.deeds)) ≡ opened (Call client to seq ask reply made ∷ reverse account.deeds)
      → IsFit account (Call client to seq ask reply made) (record unchanged {
        slots = arriving made clock;
        ids = noting made;
        queries = after;
      })
  fit_called client seq ask reply made to here gives tells = record {
    room = room;
    keeps = λ now ordered same kept.
        subst (λ ids. IsKept account.id account.opening (record now {
          slots = slots_after (arriving made clock) now.slots;
          vector = ids;
          queries = queries_after after now.queries;
        })
        (Call client to seq ask reply made ∷ reverse account.deeds)) (notes made now.vector)
        (keeps_by now (Call client to seq ask reply made) made (with_made made now.vector)
        (noted (turned_by_change now.slots made) now.queries) kept.clocked
        (opened_made account.id account.opening client seq ask reply made to (reverse account.deeds) now.slots now.queries kept.stands same
        gives ∙ sym (ap (queries_after after) same ∙ tells))
        (kept_called account.id account.opening now (reverse account.deeds) client seq ask reply made to kept here gives));
    opens = tells;
    timed = arriving_timed made clock (clock_of (reverse account.deeds)) clock_is;
    made = made_at;
    given = tt;
  }
