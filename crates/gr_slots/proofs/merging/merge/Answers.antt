use Rattle.std.proofs.Common.{◌≡◌, ◌∙◌, ap, sym, subst, map, take, drop, ◌++◌, ◌∷◌}
use Rattle.std.specs.Map.Iter.{deref_pair}
use Rattle.gr_slots.specs.Slots.{with_slot}
use Rattle.gr_slots.specs.Late.{with_late}
use Rattle.gr_slots.proofs.Merged.{read-insert}
use Rattle.gr_slots.proofs.merging.merge.Goals as goal

pub returns-in_ok-insert : goal.returns-in_ok-insert
returns-in_ok-insert c =
    let rows = c.args.rows.now.items in
    let key = c.in-Some.key in
    let slot = c.in-Some.slot in
    let place = c.place_among-place.result in
    ap (map deref_pair) c.in_ok-insert.ensures.items
    ∙ read-insert deref_pair rows place _
    ∙ sym (subst (λ items. with_slot key slot (map deref_pair items)
    ≡ take place (map deref_pair items) ++ (key, slot) ∷ drop place (map deref_pair items)) c.deref.ensures.value
    (c.place_among-place.ensures.place slot))
    ∙ sym (ap (λ late. with_late late (map deref_pair rows)) c.in-Some.is)
