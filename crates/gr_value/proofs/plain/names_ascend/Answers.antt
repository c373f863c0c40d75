use Rattle.std.proofs.Common.{◌∙◌, ap, is_ge}
use Rattle.gr_value.proofs.FieldsTaken.{below_next, ascending}
use Rattle.gr_value.proofs.plain.names_ascend.Goals as goal

pub loop-place-preserved : goal.loop-place-preserved
loop-place-preserved c = below_next _ _ _ _ _ _ c.loop-place.auto.place c.loop-place-test.true c.loop-place.invariant c.bytes.ensures.bytes
    c.bytes-in-loop-place.ensures.bytes (c.if-is_ge.ensures ∙ ap is_ge c.cmp.ensures)

pub returns : goal.returns
returns c = λ done. ascending _ _ c.loop-place-test.false c.loop-place.invariant
