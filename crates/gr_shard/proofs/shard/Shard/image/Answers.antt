use Rattle.std.proofs.Common.{◌∙◌, ap, sym, refl, reverse}
use Rattle.std.proofs.lemmas.List.{length-reverse}
use Rattle.gr_history.specs.declared.image.Image.{Image as ImageOf}
use Rattle.gr_history.specs.Gifts.{IsImageOf}
use Rattle.gr_shard.specs.View.{kept}
use Rattle.gr_shard.proofs.Fits.{image_fits}
use Rattle.gr_shard.proofs.Left.{changes_in-kept}
use Rattle.gr_shard.proofs.shard.Shard.image.Goals as goal

pub returns-clause-image : goal.returns-clause-image
returns-clause-image c =
    let was = c.self.inside in
    rw (← c.self.view_is) record {
      giver_is = refl;
      at_is = c.len.ensures ∙ sym (length-reverse was.history.deeds);
      rows_are = c.in_ok-new.ensures ∙ c.in_ok-standing.ensures.changes
          ∙ changes_in-kept was.id was.opening
          (kept was.slots.entries was.vector.ids was.floor was.clock was.joined was.to was.heard was.queries.entries)
          (reverse was.history.deeds)
          c.self.invariant.0 c.in_ok-standing.ensures.ordered;
      vector_is = ap (λ v. v.ids) c.in_ok-copy.ensures ∙ c.self.invariant.0.noted;
      floor_is = c.self.invariant.0.floored;
    }

pub returns-clause-fits : goal.returns-clause-fits
returns-clause-fits c =
    let was = c.self.inside in
    let past = reverse was.history.deeds in
    let now = kept was.slots.entries was.vector.ids was.floor was.clock was.joined was.to was.heard was.queries.entries in
    let image : ImageOf = record {
      from = was.id.member;
      at = c.len.result;
      rows = c.in_ok-new.field-0;
      vector = c.in_ok-copy.field-0;
      floor = was.floor;
    } in
    let is : IsImageOf was.id.member was.opening past image = record {
      giver_is = refl;
      at_is = c.len.ensures ∙ sym (length-reverse was.history.deeds);
      rows_are = c.in_ok-new.ensures ∙ c.in_ok-standing.ensures.changes
          ∙ changes_in-kept was.id was.opening now past c.self.invariant.0 c.in_ok-standing.ensures.ordered;
      vector_is = ap (λ v. v.ids) c.in_ok-copy.ensures ∙ c.self.invariant.0.noted;
      floor_is = c.self.invariant.0.floored;
    } in
    rw (← c.self.view_is) (image_fits was.id was.opening now past was.id.member image c.self.invariant.0 is)
