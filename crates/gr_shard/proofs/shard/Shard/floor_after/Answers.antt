use Rattle.std.proofs.Common.{◌≡◌, ◌∙◌, ◌∷◌, reverse, subst}
use Rattle.gr_history.specs.declared.deed.Deed.TheVariants.{Swept}
use Rattle.gr_history.specs.Floor.{floor}
use Rattle.gr_history.specs.Stable.{due}
use Rattle.gr_shard.specs.View.{Account, kept}
use Rattle.gr_shard.proofs.Sweeps.{floor_swept}
use Rattle.gr_shard.proofs.shard.Shard.floor_after.Goals as goal

pub returns-clause-floor : goal.returns-clause-floor
returns-clause-floor c =
    let was = c.self.inside in
    let past = reverse was.history.deeds in
    let now = kept was.slots.entries was.vector.ids was.floor was.clock was.joined was.to was.heard was.queries.entries in
    let is : c.args.expired.now ≡ due was.id c.args.moment past = rw (← c.self.view_is) at c.requires in
    subst (λ (a : Account). c.risen.result ≡ floor a.opening (Swept c.args.moment c.args.expired.now ∷ reverse a.deeds)) c.self.view_is
    (c.risen.ensures.risen ∙ floor_swept was.id was.opening c.args.moment now past c.args.expired.now c.self.invariant.0 is)
