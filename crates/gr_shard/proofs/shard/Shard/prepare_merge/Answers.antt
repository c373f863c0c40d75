use Rattle.std.proofs.Common.{◌≡◌, ◌≤◌, ◌∙◌, ap, sym, subst, refl, reverse, true, max, Some, ◌∷◌, arith}
use Rattle.gr_stamp.specs.declared.stamp.TheConstants.{LIMIT}
use Rattle.gr_cq.specs.Entries.{noted}
use Rattle.gr_history.specs.declared.deed.Deed.TheVariants.{Imaged}
use Rattle.gr_history.specs.Turned.{turned}
use Rattle.gr_history.specs.Floor.{floor as floor_of}
use Rattle.std.specs.Prelude.{box_value}
use Rattle.gr_slots.specs.Slots.{HeldSlots}
use Rattle.gr_vector.specs.Ids.{Ids}
use Rattle.gr_vector.specs.Order.{united}
use Rattle.gr_shard.specs.declared.effect.IdsAfter.TheVariants as ids_
use Rattle.gr_shard.specs.declared.effect.SlotsAfter.TheVariants as slots_
use Rattle.gr_shard.specs.Asking.{Hold}
use Rattle.gr_shard.specs.Effects.{IsMadeAt, queries_after}
use Rattle.gr_shard.specs.InStep.{opened}
use Rattle.gr_shard.specs.Merges.{IsImageFor}
use Rattle.gr_shard.specs.Prepared.{IsFit}
use Rattle.gr_shard.specs.View.{kept, with_spare}
use Rattle.gr_shard.proofs.Imaging.{fit_imaged, known_built, stands_built, turned_built}
use Rattle.gr_shard.proofs.Prepares.{account_of}
use Rattle.gr_shard.proofs.shard.Shard.prepare_merge.Goals as goal

pub returns-clause-prepared : goal.returns-clause-prepared
returns-clause-prepared c =
    let was = c.self.inside in
    let past = reverse was.history.deeds in
    let now = kept was.slots.entries was.vector.ids was.floor was.clock was.joined was.to was.heard was.queries.entries in
    let image = c.args.image.now in
    let fits : IsImageFor was.id image = rw (← c.self.view_is) at c.requires in
    let stands : Hold c.in_ok-slots.slots.entries (Imaged image ∷ past) = stands_built was.id was.opening now past image c.self.invariant.0
    c.in_ok-slots.ensures.ordered fits c.in_ok-slots.slots.entries c.in_ok-slots.ensures.merged in
    rw (← c.self.view_is, c.in_ok-deed.ensures, c.in_ok-kept.ensures) record {
      gives = (refl, refl);
      turned_are = c.in_ok-turned.ensures ∙ turned_built was.id was.opening now past image c.self.invariant.0 c.in_ok-slots.slots.entries stands;
    }

pub returns-clause-made : goal.returns-clause-made
returns-clause-made c =
    let was = c.self.inside in
    let past = reverse was.history.deeds in
    let now = kept was.slots.entries was.vector.ids was.floor was.clock was.joined was.to was.heard was.queries.entries in
    let image = c.args.image.now in
    let account = account_of was.id was.opening was.history.deeds was.roomy was.queries.spare in
    let fits : IsImageFor was.id image = rw (← c.self.view_is) at c.requires in
    let stands : Hold c.in_ok-slots.slots.entries (Imaged image ∷ past) = stands_built was.id was.opening now past image c.self.invariant.0
    c.in_ok-slots.ensures.ordered fits c.in_ok-slots.slots.entries c.in_ok-slots.ensures.merged in
    let turned_is : c.as_slice.result.now ≡ turned (Imaged image) past = c.as_slice.ensures.value ∙ c.in_ok-turned.ensures
    ∙ turned_built was.id was.opening now past image c.self.invariant.0 c.in_ok-slots.slots.entries stands in
    let after : queries_after c.in_ok-queries.queries (opened past) ≡ noted c.as_slice.result.now (opened past) =
    rw (← c.self.view_is) at c.in_ok-queries.ensures.after in
    let made : IsMadeAt (opened past) c.in_ok-queries.queries = rw (← c.self.view_is) at c.in_ok-queries.ensures.made in
    let floor_is : c.max-floor.result ≡ floor_of was.opening (Imaged image ∷ past) =
    c.max-floor.ensures ∙ ap (max image.floor) c.self.invariant.0.floored in
    let low : c.max-floor.result ≤ LIMIT = omega (arith, c.max-floor.ensures, fits.low, c.self.invariant.0.low) in
    let slots = c.in_ok-new_slots.new_slots in
    let slots_are : Hold (box_value slots).entries (Imaged image ∷ past) =
    subst (λ (s : HeldSlots). Hold s.entries (Imaged image ∷ past)) (sym c.in_ok-new_slots.ensures.ok) stands in
    let ids = c.in_ok-new_ids.new_ids in
    subst (λ a. IsFit a c.in_ok-deed.deed (record c.none.result {
      slots = slots_.New slots;
      ids = ids_.New ids;
      queries = c.in_ok-queries.queries;
      floor = Some c.max-floor.result;
      joined = true;
    })) (sym c.in_ok-queries.ensures.same)
    (rw (← c.self.view_is, c.in_ok-deed.ensures, c.in_ok-kept.ensures, c.none.ensures)
    (fit_imaged (with_spare c.tell_ahead.new.self.spare account) image slots ids c.max-floor.result
    c.in_ok-queries.queries c.in_ok-queries.ensures.room fits slots_are
    (known_built was.id was.opening now past image c.self.invariant.0 (box_value ids)
    (ap (λ (v : Ids). v.ids) c.in_ok-new_ids.ensures.ok ∙ c.in_ok-unite.ensures.ids ∙ ap (λ v. united v.ids image.vector.ids) c.in_ok-ids.ensures))
    floor_is low (after ∙ ap (λ all. noted all (opened past)) turned_is) made))
