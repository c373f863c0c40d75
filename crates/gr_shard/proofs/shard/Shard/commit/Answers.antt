use Rattle.std.proofs.Common.{◌≡◌, ◌∙◌, ap, sym, subst, true, [], ◌∷◌, ◌++◌, reverse}
use Rattle.std.proofs.lemmas.List.{reverse-append}
use Rattle.gr_shard.specs.Effects.{IsMadeAt, IsTimed, needs, queries_after}
use Rattle.gr_shard.specs.Prepared.{IsFit}
use Rattle.gr_shard.specs.View.{kept}
use Rattle.gr_shard.proofs.Looked.{looked_on}
use Rattle.gr_shard.proofs.Prepares.{account_of, has_events, is_roomy, needs_some, ready_for, roomed}
use Rattle.gr_shard.proofs.Pushed.{on_ok}
use Rattle.gr_shard.proofs.Stocked.{unstocked}
use Rattle.gr_shard.proofs.shard.Shard.commit.Goals as goal

pub invariant_of-self : goal.invariant_of-self
invariant_of-self c =
    let was = c.self.inside in
    let past = reverse was.history.deeds in
    let deed = c.args.prepared.deed in
    let effect = c.args.prepared.effect in
    let fit : IsFit (account_of was.id was.opening was.history.deeds was.roomy was.queries.spare) deed effect = rw (← c.self.view_is) at c.requires in
    let roomy : was.roomy ≡ true = is_roomy was.roomy was.queries.spare (needs effect.queries) (needs_some effect.queries) fit.room in
    let pushed : c.push.new.self.deeds ≡ was.history.deeds ++ deed ∷ [] =
    on_ok c.push.result (c.push.ensures.room (c.self.invariant.1.a_deed roomy)) c.push.ensures.ok in
    let behind =
    fit.keeps (kept was.slots.entries was.vector.ids was.floor was.clock was.joined was.to was.heard was.queries.entries)
    c.has_keys_in_order.ensures c.self.invariant.1.open_are c.self.invariant.0 in
    rw (
      pushed,
      reverse-append,
      c.looked_after-self-inside.ensures,
      c.settle.ensures,
      c.know.ensures,
      c.carry_out.ensures,
      c.keep.ensures,
      c.aimed-self-inside.ensures,
      c.moved-self-inside.ensures,
      c.moved-self-inside-2.ensures,
      c.either-self-inside.ensures,
    ) (
      behind,
      unstocked _ _ _ _ _ _ (ap (queries_after effect.queries) c.self.invariant.1.open_are ∙ fit.opens),
      looked_on was.id was.opening was.looked _ deed past behind c.self.invariant.2,
    )

pub carry_out-requires : goal.carry_out-requires
carry_out-requires c =
    let was = c.self.inside in
    let effect = c.args.prepared.effect in
    let fit : IsFit (account_of was.id was.opening was.history.deeds was.roomy was.queries.spare) c.args.prepared.deed effect = rw (← c.self.view_is) at c.requires in
    ready_for was.queries effect.queries (subst (λ all. IsMadeAt all effect.queries) (sym c.self.invariant.1.open_are) fit.made)
    (has_events was.roomy was.queries.spare (needs effect.queries) fit.room)

pub settle-requires : goal.settle-requires
settle-requires c =
    let was = c.self.inside in
    let effect = c.args.prepared.effect in
    let fit : IsFit (account_of was.id was.opening was.history.deeds was.roomy was.queries.spare) c.args.prepared.deed effect = rw (← c.self.view_is) at c.requires in
    let roomy : was.roomy ≡ true = is_roomy was.roomy was.queries.spare (needs effect.queries) (needs_some effect.queries) fit.room in
    roomed effect.slots was.slots.room was.clock (c.self.invariant.1.a_slot roomy)
    (subst (λ n. IsTimed n effect.slots) (sym c.self.invariant.0.clocked) fit.timed)
