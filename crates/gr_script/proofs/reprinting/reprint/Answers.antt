use Rattle.std.proofs.Common.{Option, subst}
use Rattle.gr_script.specs.declared.line.Line.{Line}
use Rattle.gr_script.proofs.PrintedAsRead.{IsReprinting, all_printed, prints_on}
use Rattle.gr_script.proofs.reprinting.reprint.Goals as goal

pub loop-next-preserved : goal.loop-next-preserved
loop-next-preserved c =
    let text = c.args.text.now in
    let loop = c.loop-next in
    prints_on text loop.feed c.next-in-Some.new.self c.in-Some.line c.in_ok-next-2.next loop.out.items c.put_last.new.out.items
    (subst (λ (next : Option Line). IsReprinting text loop.feed next loop.out.items) c.in-Some.is loop.invariant)
    c.in_ok-next-2.ensures c.in_ok-put_last.ensures

pub returns : goal.returns
returns c =
    let text = c.args.text.now in
    let loop = c.loop-next in
    all_printed text loop.feed loop.out.items
    (subst (λ (next : Option Line). IsReprinting text loop.feed next loop.out.items) c.in_default.is loop.invariant)
