use Rattle.std.proofs.Common.{◌∙◌, ap, reverse}
use Rattle.gr_history.specs.Gifts.{own_changes}
use Rattle.gr_shard.specs.View.{kept}
use Rattle.gr_shard.proofs.Fits.{own_fits}
use Rattle.gr_shard.proofs.shard.Shard.gift.Goals as goal

pub returns-in_ok-own_changes-in-Own-clause-fits : goal.returns-in_ok-own_changes-in-Own-clause-fits
returns-in_ok-own_changes-in-Own-clause-fits c =
    let was = c.self.inside in
    let past = reverse was.history.deeds in
    rw (← c.self.view_is)
    (own_fits was.id was.opening (kept was.slots.entries was.vector.ids was.floor was.clock was.joined was.to was.heard
    was.queries.entries) past
    c.in_ok-own_changes-in-Own.field-0 c.self.invariant.0
    (c.in_ok-own_changes-in-Own.ensures ∙ ap (λ deeds. own_changes (reverse deeds)) c.as_slice.ensures))
