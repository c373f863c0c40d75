use Rattle.gr_script.specs.Printed.{line_text, IsLineKept}
use Rattle.gr_script.proofs.PrintLemmas.{printed_more, each_more}
use Rattle.gr_script.proofs.print_line.put_lines.Goals as goal

pub loop-line-preserved : goal.loop-line-preserved
loop-line-preserved c =
    let item = c.line-item.result in
    let within = c.loop-line-test.true in
    let lines = c.args.lines.now in
    let place = c.loop-line.line-index in
    let printed = c.in_ok-put_line.ensures.printed in
    let kept : IsLineKept item = c.in_ok-put_line.ensures.kept in
    record {
      printed =
          printed_more lines place item item within c.line-item.is line_text c.args.out.now.items
          c.loop-line.out.items c.put_line.new.out.items c.loop-line.invariant.printed printed;
      kept = each_more lines place item item within c.line-item.is IsLineKept c.loop-line.invariant.kept kept;
    }
