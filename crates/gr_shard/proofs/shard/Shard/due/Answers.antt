use Rattle.std.proofs.Common.{◌∙◌, reverse}
use Rattle.gr_shard.specs.View.{kept}
use Rattle.gr_shard.proofs.Sweeps.{expired_is}
use Rattle.gr_shard.proofs.shard.Shard.due.Goals as goal

pub returns-clause-due : goal.returns-clause-due
returns-clause-due c =
    let was = c.self.inside in
    let past = reverse was.history.deeds in
    let now = kept was.slots.entries was.vector.ids was.floor was.clock was.joined was.to was.heard was.queries.entries in
    rw (← c.self.view_is)
    (expired_is was.id was.opening c.args.moment c.max-clock.result was.looked now past c.as_slice.result.now c.in_ok-stable_among.field-0
    c.self.invariant.0 c.self.invariant.2 c.has_keys_in_order.ensures c.max-clock.ensures (c.as_slice.ensures ∙ c.in_ok-late.ensures.keys)
    c.in_ok-stable_among.ensures)
