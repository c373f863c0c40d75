use Rattle.std.proofs.Common.{◌≡◌, ◌∙◌, ap, sym, subst, refl, reverse, Option}
use Rattle.gr_value.specs.Shard.{shard_of}
use Rattle.gr_stamp.specs.declared.change.Change.{Change}
use Rattle.gr_cq.specs.Entries.{noted}
use Rattle.gr_history.specs.declared.done.Done.{Done}
use Rattle.gr_history.specs.Asks.{key_of}
use Rattle.gr_history.specs.Calls.{call_gives}
use Rattle.gr_history.specs.Made.{made_in}
use Rattle.gr_shard.specs.declared.next.Came.TheVariants as came
use Rattle.gr_shard.specs.Calls.{call_with, done_in}
use Rattle.gr_shard.specs.Effects.{IsMadeAt, arriving, noting, queries_after}
use Rattle.gr_shard.specs.InStep.{opened}
use Rattle.gr_shard.specs.Prepared.{IsFit}
use Rattle.gr_shard.specs.Telling.{turned_by_change}
use Rattle.gr_shard.specs.View.{with_spare}
use Rattle.gr_shard.proofs.Coming.{fit_called, opened_made, turned_made}
use Rattle.gr_shard.proofs.Prepares.{account_of}
use Rattle.gr_shard.proofs.shard.Shard.prepare_call.Goals as goal

pub returns-clause-prepared : goal.returns-clause-prepared
returns-clause-prepared c =
    let was = c.self.inside in
    let past = reverse was.history.deeds in
    let ask = c.args.ask.now in
    let done : Done = call_gives was.id was.opening past ask in
    let is : c.in_ok-deed.deed ≡ call_with c.args.client c.args.seq ask done =
    (rw (← c.self.view_is) at c.in_ok-deed.ensures)
    ∙ ap (λ asked. call_with c.args.client c.args.seq asked (call_gives was.id was.opening past asked)) c.in_ok-asked.ensures in
    rw (← c.self.view_is, is) record {
      gives = (ap came.Done (c.in_ok-done.ensures ∙ ap done_in is), refl);
      turned_are = c.in_ok-turned.ensures
          ∙ ap (turned_by_change was.slots.entries) (c.lent-made.ensures ∙ c.made.ensures ∙ ap made_in is)
          ∙ sym (turned_made was.id was.opening c.args.client c.args.seq ask done.reply done.made done.to past was.slots.entries
          c.self.invariant.0.stands refl);
    }

pub returns-clause-made : goal.returns-clause-made
returns-clause-made c =
    let was = c.self.inside in
    let past = reverse was.history.deeds in
    let ask = c.args.ask.now in
    let account = account_of was.id was.opening was.history.deeds was.roomy was.queries.spare in
    let done : Done = call_gives was.id was.opening past ask in
    let is : c.in_ok-deed.deed ≡ call_with c.args.client c.args.seq ask done =
    (rw (← c.self.view_is) at c.in_ok-deed.ensures)
    ∙ ap (λ asked. call_with c.args.client c.args.seq asked (call_gives was.id was.opening past asked)) c.in_ok-asked.ensures in
    let made_is = c.lent-made.ensures ∙ c.made.ensures ∙ ap made_in is in
    let here : shard_of (key_of ask) was.id.shards ≡ was.id.shard = rw (← c.self.view_is) at c.requires in
    let turned_is : c.as_slice.result.now ≡ turned_by_change was.slots.entries done.made = c.as_slice.ensures.value
    ∙ c.in_ok-turned.ensures ∙ ap (turned_by_change was.slots.entries) made_is in
    let after : queries_after c.in_ok-queries.queries (opened past) ≡ noted c.as_slice.result.now (opened past) =
    rw (← c.self.view_is) at c.in_ok-queries.ensures.after in
    let made : IsMadeAt (opened past) c.in_ok-queries.queries = rw (← c.self.view_is) at c.in_ok-queries.ensures.made in
    let tells = after ∙ ap (λ all. noted all (opened past)) turned_is
    ∙ opened_made was.id was.opening c.args.client c.args.seq ask done.reply done.made done.to past was.slots.entries (opened past)
    c.self.invariant.0.stands refl refl in
    let slots_are = c.arriving-slots.ensures ∙ ap (λ (m : Option Change). arriving m was.clock) (c.in_ok-arrival.ensures ∙ made_is) in
    let ids_are = c.noting-ids.ensures ∙ ap noting made_is in
    subst (λ a. IsFit a c.in_ok-deed.deed (record c.none.result {
      slots = c.arriving-slots.result;
      ids = c.noting-ids.result;
      queries = c.in_ok-queries.queries;
    })) (sym c.in_ok-queries.ensures.same)
    (rw (← c.self.view_is, is, c.none.ensures, slots_are, ids_are)
    (fit_called (with_spare c.tell_ahead.new.self.spare account) c.in_ok-queries.queries was.clock c.in_ok-queries.ensures.room
    c.self.invariant.0.clocked made c.args.client c.args.seq ask done.reply done.made done.to here refl tells))
