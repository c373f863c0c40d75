use Rattle.std.proofs.Common.{◌∙◌, ◌+◌, ◌-◌, ap, arith, drop, length, reverse}
use Rattle.std.proofs.lemmas.List.{length-drop, length-reverse, length-take}
use Rattle.gr_route.proofs.Lists.{as_many}
use Rattle.gr_route.proofs.openings.events.Goals as goal

pub opened_by-requires : goal.opened_by-requires
opened_by-requires c =
    let deeds = c.as_slice-deeds.result.now in
    let behind = drop (c.loop-place.place + 1) deeds in
    let many = ap length (c.deref.ensures.value ∙ c.in_ok-lists.ensures) ∙ as_many (reverse deeds) ∙ length-reverse deeds in
    omega (arith, many, length-take (length deeds - (c.loop-place.place + 1)) behind, length-drop (c.loop-place.place + 1) deeds, c.loop-place-test.true)
