use Rattle.std.proofs.Common.{◌≡◌, ◌∙◌, ap, sym, subst, refl, reverse, Option}
use Rattle.gr_value.specs.Shard.{shard_of}
use Rattle.gr_stamp.specs.declared.change.Change.{Change}
use Rattle.gr_cq.specs.Entries.{noted}
use Rattle.gr_history.specs.Turned.{turned}
use Rattle.gr_history.specs.declared.deed.Deed.TheVariants.{Taken}
use Rattle.gr_history.specs.Verdicts.{verdict}
use Rattle.gr_shard.specs.declared.effect.IdsAfter.TheVariants as ids_
use Rattle.gr_shard.specs.declared.next.Came.TheVariants as came
use Rattle.gr_shard.specs.Effects.{IsMadeAt, arriving, queries_after}
use Rattle.gr_shard.specs.Entries.{applied}
use Rattle.gr_shard.specs.InStep.{opened}
use Rattle.gr_shard.specs.Prepared.{IsFit}
use Rattle.gr_shard.specs.Telling.{turned_by_change}
use Rattle.gr_shard.specs.View.{with_spare}
use Rattle.gr_shard.proofs.Coming.{fit_taken}
use Rattle.gr_shard.proofs.Kept.{turned_taken}
use Rattle.gr_shard.proofs.Stocked.{opened_taken}
use Rattle.gr_shard.proofs.Prepares.{account_of}
use Rattle.gr_shard.proofs.shard.Shard.prepare_taking.Goals as goal

pub returns-clause-prepared : goal.returns-clause-prepared
returns-clause-prepared c =
    let was = c.self.inside in
    let past = reverse was.history.deeds in
    let change = c.args.change.now in
    let told = c.verdict-verdict.result in
    let lent = c.get-coming.ensures in
    let is : told ≡ verdict past change = (rw (← c.self.view_is) at c.verdict-verdict.ensures) ∙ ap (verdict past) lent in
    let came_is = c.applied-came.ensures ∙ ap (applied told) lent in
    let turned_is : c.in_ok-turned.turned.items ≡ turned (Taken change told) past =
    c.in_ok-turned.ensures ∙ ap (turned_by_change was.slots.entries) came_is
    ∙ sym (turned_taken change told past was.slots.entries is c.self.invariant.0.stands) in
    rw (← c.self.view_is, c.taken_in.ensures, c.in_ok-taken.ensures) record {
      gives = (ap came.Verdict is, ap (Taken change) is);
      turned_are = turned_is;
    }

pub returns-clause-made : goal.returns-clause-made
returns-clause-made c =
    let was = c.self.inside in
    let past = reverse was.history.deeds in
    let change = c.args.change.now in
    let told = c.verdict-verdict.result in
    let account = account_of was.id was.opening was.history.deeds was.roomy was.queries.spare in
    let lent = c.get-coming.ensures in
    let is : told ≡ verdict past change = (rw (← c.self.view_is) at c.verdict-verdict.ensures) ∙ ap (verdict past) lent in
    let came_is = c.applied-came.ensures ∙ ap (applied told) lent in
    let here : shard_of change.key was.id.shards ≡ was.id.shard = rw (← c.self.view_is) at c.requires in
    let turned_is : c.as_slice.result.now ≡ turned_by_change was.slots.entries (applied told change) = c.as_slice.ensures.value
    ∙ c.in_ok-turned.ensures ∙ ap (turned_by_change was.slots.entries) came_is in
    let after : queries_after c.in_ok-queries.queries (opened past) ≡ noted c.as_slice.result.now (opened past) =
    rw (← c.self.view_is) at c.in_ok-queries.ensures.after in
    let made : IsMadeAt (opened past) c.in_ok-queries.queries = rw (← c.self.view_is) at c.in_ok-queries.ensures.made in
    let tells = after ∙ ap (λ all. noted all (opened past)) turned_is
    ∙ opened_taken past was.slots.entries (opened past) change told c.self.invariant.0.stands refl is in
    let slots_are = c.arriving-slots.ensures ∙ ap (λ (m : Option Change). arriving m was.clock) (c.in_ok-arrival.ensures ∙ came_is) in
    subst (λ a. IsFit a c.taken_in.result (record c.none.result {
      slots = c.arriving-slots.result;
      ids = ids_.With c.get-coming.result.now.stamp;
      queries = c.in_ok-queries.queries;
    })) (sym c.in_ok-queries.ensures.same)
    (rw (← c.self.view_is, c.taken_in.ensures, c.in_ok-taken.ensures, c.none.ensures, lent, slots_are)
    (fit_taken (with_spare c.tell_ahead.new.self.spare account) c.in_ok-queries.queries was.clock c.in_ok-queries.ensures.room
    c.self.invariant.0.clocked made change told here is tells))
