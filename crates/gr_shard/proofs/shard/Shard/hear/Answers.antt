use Rattle.std.proofs.Common.{◌≡◌, ◌∙◌, ap, [], ◌∷◌, ◌++◌, reverse}
use Rattle.std.proofs.lemmas.List.{reverse-append}
use Rattle.gr_history.specs.declared.deed.Deed.TheVariants.{Heard}
use Rattle.gr_shard.specs.View.{kept}
use Rattle.gr_shard.proofs.Reports.{kept_heard}
use Rattle.gr_shard.proofs.Looked.{looked_nothing}
use Rattle.gr_shard.proofs.Pushed.{on_ok}
use Rattle.gr_shard.proofs.Stocked.{unstocked}
use Rattle.gr_shard.proofs.shard.Shard.hear.Goals as goal

pub invariant_of-self-2 : goal.invariant_of-self-2
invariant_of-self-2 c =
    let was = c.self.inside in
    let past = reverse was.history.deeds in
    let pushed : c.push.new.self.deeds ≡ was.history.deeds ++ Heard c.args.report.now ∷ [] =
    on_ok c.push.result (c.push.ensures.room c.in_ok-reserve.ensures.room) c.push.ensures.ok
    ∙ ap (λ deeds. deeds ++ c.in_ok-deed.deed ∷ []) c.in_ok-reserve.ensures.deeds
    ∙ ap (λ deed. was.history.deeds ++ deed ∷ []) c.in_ok-deed.ensures
    ∙ ap (λ copy. was.history.deeds ++ Heard copy ∷ []) c.in_ok-noted.ensures in
    rw (pushed, reverse-append, c.in_ok-hear.ensures.ok) (
      kept_heard was.id was.opening (kept was.slots.entries was.vector.ids was.floor was.clock was.joined was.to was.heard
          was.queries.entries) past c.args.report.now
          c.self.invariant.0,
      unstocked _ _ _ _ _ _ c.self.invariant.1.open_are,
      looked_nothing _ _,
    )
