use Rattle.std.proofs.Common.{◌≡◌, ◌∙◌, length, map, Some, ap, arith, reverse}
use Rattle.std.specs.Prelude.{vec_len}
use Rattle.std.proofs.lemmas.List.{length-reverse}
use Rattle.gr_runner.specs.declared.gathering.Left.{Left}
use Rattle.gr_runner.proofs.Conducts.{written_back}
use Rattle.gr_runner.proofs.Unpacking.{unpacked_all}
use Rattle.gr_runner.proofs.conducting.lefts_of.Goals as goal

pub returns : goal.returns
returns c =
    let ok = c.loop-slot.rest.ok in
    let empty : vec_len c.loop-slot.rest ≡ 0 = grind (arith) in
    let none : length c.loop-slot.rest.items ≡ 0 = omega arith in
    let turned : c.reverse.new.self ≡ reverse c.loop-slot.lefts.items = c.reverse.ensures.after ∙ ap reverse c.as_mut_slice.ensures.value in
    let same = ap length turned ∙ length-reverse c.loop-slot.lefts.items in
    let kept = c.loop-slot.lefts.ok in
    let long : c.loop-slot.lefts.len ≡ length c.reverse.new.self = omega arith in
    ap (map (λ (l : Left). Some l))
    (written_back c.reverse.new.self c.loop-slot.lefts.items c.loop-slot.lefts.len long ∙ turned)
    ∙ unpacked_all c.args.slots.items c.loop-slot.rest.items c.loop-slot.lefts.items c.loop-slot.invariant.unpacked none
