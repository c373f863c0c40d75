use Rattle.std.proofs.Common.{List, reverse, subst, arith}
use Rattle.std.proofs.lemmas.List.{take_all}
use Rattle.gr_script.specs.declared.line.Line.{Line}
use Rattle.gr_durable.proofs.Plain.{ArePlain, same_lines}
use Rattle.gr_durable.proofs.expanded.are_plain.Goals as goal

pub returns : goal.returns
returns c = λ yes.
    let lines = c.args.lines.now in
    let all = take_all c.loop-line.line-index lines (omega (arith, c.loop-line-test.false)) in
    same_lines lines (subst (λ (ls : List Line). ArePlain (reverse ls)) all c.loop-line.invariant)
