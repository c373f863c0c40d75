use Rattle.std.proofs.Common.{◌≡◌, ◌∙◌, ap, [], ◌∷◌, ◌++◌, reverse, Option}
use Rattle.gr_value.specs.Shard.{shard_of}
use Rattle.gr_stamp.specs.declared.change.Change.{Change}
use Rattle.gr_cq.specs.Entries.{noted}
use Rattle.gr_history.specs.Asks.{key_of}
use Rattle.gr_history.specs.Calls.{call_gives}
use Rattle.gr_history.specs.Made.{made_in}
use Rattle.gr_shard.specs.Calls.{call_with}
use Rattle.gr_shard.specs.Entries.{with_made, with_change}
use Rattle.gr_shard.specs.Telling.{turned_by_change}
use Rattle.gr_shard.specs.View.{kept}
use Rattle.gr_shard.proofs.Entered.{behind_call}
use Rattle.gr_shard.proofs.Pushed.{on_ok}
use Rattle.gr_shard.proofs.shard.Shard.enter_call.Goals as goal

pub invariant_of-self-2 : goal.invariant_of-self-2
invariant_of-self-2 c =
    let was = c.self.inside in
    let call = c.requires in
    let here : shard_of (key_of call.ask) was.id.shards ≡ was.id.shard = rw (← c.self.view_is) at call.here in
    let is : c.args.deed ≡ call_with call.client call.seq call.ask (call_gives was.id was.opening (reverse was.history.deeds) call.ask) =
    rw (← c.self.view_is) at call.gives in
    let made_is = c.lent-made.ensures ∙ c.made.ensures in
    behind_call was.id was.opening was.looked (kept was.slots.entries was.vector.ids was.floor was.clock was.joined was.to was.heard
    was.queries.entries)
    was.history.deeds c.push.new.self.deeds _ _ _ _ _ _ c.self.invariant.0 c.self.invariant.1.open_are call.client call.seq call.ask c.args.deed
    c.self.invariant.2 here is
    (on_ok c.push.result (c.push.ensures.room c.in_ok-reserve.ensures.room) c.push.ensures.ok
    ∙ ap (λ deeds. deeds ++ c.args.deed ∷ []) c.in_ok-reserve.ensures.deeds)
    (c.in_ok-come_in.ensures.slots ∙ ap (λ (m : Option Change). with_change m was.clock was.slots.entries) made_is)
    (c.note.ensures ∙ ap (λ (m : Option Change). with_made m c.reserve-2.new.self.ids) made_is
    ∙ ap (λ v. with_made (made_in c.args.deed) v.ids) c.in_ok-reserve-2.ensures.room)
    (c.in_ok-come_in.ensures.told
    ∙ ap (λ (m : Option Change). noted (turned_by_change was.slots.entries m) was.queries.entries) made_is)
