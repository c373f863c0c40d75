use Rattle.std.proofs.Common.{◌≡◌, ◌∙◌, ap, [], ◌∷◌, ◌++◌, reverse}
use Rattle.gr_value.specs.Shard.{shard_of}
use Rattle.gr_stamp.specs.declared.change.Change.{Change}
use Rattle.gr_vector.specs.Order.{with_id}
use Rattle.gr_cq.specs.Entries.{noted}
use Rattle.gr_history.specs.declared.deed.Deed.TheVariants.{Taken}
use Rattle.gr_history.specs.Ids.{id_of}
use Rattle.gr_history.specs.Verdicts.{verdict}
use Rattle.gr_shard.specs.Entries.{with_change, applied}
use Rattle.gr_shard.specs.Telling.{turned_by_change}
use Rattle.gr_shard.specs.View.{kept}
use Rattle.gr_shard.proofs.Entered.{behind_taken}
use Rattle.gr_shard.proofs.Pushed.{on_ok}
use Rattle.gr_shard.proofs.shard.Shard.take_in.Goals as goal

pub invariant_of-self-2 : goal.invariant_of-self-2
invariant_of-self-2 c =
    let was = c.self.inside in
    let change = c.args.change.now in
    let told = c.verdict-verdict.result in
    let lent = c.get-coming.ensures in
    let is : told ≡ verdict (reverse was.history.deeds) change = (rw (← c.self.view_is) at c.verdict-verdict.ensures)
    ∙ ap (verdict (reverse was.history.deeds)) lent in
    let here : shard_of change.key was.id.shards ≡ was.id.shard = rw (← c.self.view_is) at c.requires in
    let came_is = c.applied-came.ensures ∙ ap (applied told) lent in
    behind_taken was.id was.opening 0 (kept was.slots.entries was.vector.ids was.floor was.clock was.joined was.to was.heard
    was.queries.entries)
    was.history.deeds c.push.new.self.deeds _ _ _ _ _ _ c.self.invariant.0 c.self.invariant.1.open_are change told here is
    (on_ok c.push.result (c.push.ensures.room c.in_ok-reserve.ensures.room) c.push.ensures.ok
    ∙ ap (λ deeds. deeds ++ c.taken_in.result ∷ []) c.in_ok-reserve.ensures.deeds
    ∙ ap (λ deed. was.history.deeds ++ deed ∷ []) c.taken_in.ensures
    ∙ ap (λ copy. was.history.deeds ++ Taken copy told ∷ []) c.in_ok-taken.ensures)
    (c.in_ok-come_in.ensures.slots ∙ ap (λ m. with_change m was.clock was.slots.entries) came_is)
    (c.note.ensures ∙ ap (λ (one : Change). with_id (id_of one) c.reserve-2.new.self.ids) lent
    ∙ ap (λ v. with_id (id_of change) v.ids) c.in_ok-reserve-2.ensures.room)
    (c.in_ok-come_in.ensures.told ∙ ap (λ m. noted (turned_by_change was.slots.entries m) was.queries.entries) came_is)
