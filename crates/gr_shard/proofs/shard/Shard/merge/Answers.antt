use Rattle.std.proofs.Common.{◌≡◌, ◌∙◌, ap, [], ◌∷◌, ◌++◌, reverse}
use Rattle.std.proofs.lemmas.List.{reverse-append}
use Rattle.gr_history.specs.declared.deed.Deed.TheVariants.{Imaged}
use Rattle.gr_shard.specs.Merges.{IsImageFor, merged}
use Rattle.gr_cq.specs.Entries.{noted}
use Rattle.gr_shard.specs.Telling.{turned_between}
use Rattle.gr_shard.specs.View.{kept}
use Rattle.gr_shard.proofs.Merges.{kept_merged, stands_merged}
use Rattle.gr_shard.proofs.Looked.{looked_nothing}
use Rattle.gr_shard.proofs.Pushed.{on_ok}
use Rattle.gr_shard.proofs.Stocked.{opened_merged, unstocked}
use Rattle.gr_shard.proofs.shard.Shard.merge.Goals as goal

pub invariant_of-self-2 : goal.invariant_of-self-2
invariant_of-self-2 c =
    let was = c.self.inside in
    let past = reverse was.history.deeds in
    let image = c.args.image.now in
    let fits : IsImageFor was.id image = rw (← c.self.view_is) at c.requires in
    let pushed : c.push.new.self.deeds ≡ was.history.deeds ++ Imaged image ∷ [] =
    on_ok c.push.result (c.push.ensures.room c.in_ok-reserve.ensures.room) c.push.ensures.ok
    ∙ ap (λ deeds. deeds ++ c.in_ok-deed.deed ∷ []) c.in_ok-reserve.ensures.deeds
    ∙ ap (λ deed. was.history.deeds ++ deed ∷ []) c.in_ok-deed.ensures
    ∙ ap (λ copy. was.history.deeds ++ Imaged copy ∷ []) c.in_ok-noted.ensures in
    let left = merged was.vector.ids was.clock image was.slots.entries in
    let slots_are : c.take_over.new.slots.entries ≡ left = c.in_ok-take_over.ensures.slots ∙ c.in_ok-slots.ensures.merged in
    let told : c.take_over.new.queries.entries ≡ noted (turned_between was.slots.entries left) was.queries.entries =
    c.in_ok-take_over.ensures.told
    ∙ ap (λ slots. noted (turned_between was.slots.entries slots) was.queries.entries) c.in_ok-slots.ensures.merged in
    rw (pushed, reverse-append, c.in_ok-take_over.ensures.ids, slots_are, told, c.max-self-inside.ensures) (
      kept_merged was.id was.opening (kept was.slots.entries was.vector.ids was.floor was.clock was.joined was.to was.heard
          was.queries.entries) past image
          c.self.invariant.0 c.in_ok-slots.ensures.ordered fits,
      unstocked _ _ _ _ _ _
          (opened_merged past was.slots.entries was.queries.entries image left c.self.invariant.0.stands
          (stands_merged image past was.slots.entries was.vector.ids was.clock fits.in_order c.in_ok-slots.ensures.ordered c.self.invariant.0.noted
          c.self.invariant.0.clocked c.self.invariant.0.stands) c.self.invariant.1.open_are),
      looked_nothing _ _,
    )
