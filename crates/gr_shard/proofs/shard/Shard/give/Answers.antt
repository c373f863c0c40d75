use Rattle.std.proofs.Common.{◌≡◌, ◌≤◌, ◌∙◌, ap, [], ◌∷◌, ◌++◌, reverse}
use Rattle.std.proofs.lemmas.List.{reverse-append}
use Rattle.gr_history.specs.declared.deed.Deed.TheVariants.{Gave}
use Rattle.gr_shard.specs.View.{kept}
use Rattle.gr_shard.proofs.Gifts.{kept_gave}
use Rattle.gr_shard.proofs.Looked.{looked_nothing}
use Rattle.gr_shard.proofs.Pushed.{on_ok}
use Rattle.gr_shard.proofs.Stocked.{unstocked}
use Rattle.gr_shard.proofs.shard.Shard.give.Goals as goal

pub invariant_of-self-2 : goal.invariant_of-self-2
invariant_of-self-2 c =
    let was = c.self.inside in
    let past = reverse was.history.deeds in
    let stated : c.args.to ≤ was.id.members = rw (← c.self.view_is) at c.requires.stated in
    let pushed : c.push.new.self.deeds ≡ was.history.deeds ++ Gave c.args.to c.args.what ∷ [] =
    on_ok c.push.result (c.push.ensures.room c.in_ok-reserve.ensures.room) c.push.ensures.ok
    ∙ ap (λ deeds. deeds ++ c.in_ok-deed.deed ∷ []) c.in_ok-reserve.ensures.deeds
    ∙ ap (λ deed. was.history.deeds ++ deed ∷ []) c.in_ok-deed.ensures in
    rw (pushed, reverse-append, c.with_recipient-self-inside.ensures) (
      kept_gave was.id was.opening (kept was.slots.entries was.vector.ids was.floor was.clock was.joined was.to was.heard
          was.queries.entries) past c.args.to
          c.args.what c.self.invariant.0 c.requires.from stated,
      unstocked _ _ _ _ _ _ c.self.invariant.1.open_are,
      looked_nothing _ _,
    )
