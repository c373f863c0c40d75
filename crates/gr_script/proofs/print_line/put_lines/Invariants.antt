use Rattle.std.proofs.Common.{◌≡◌, ◌++◌, take, flat_map, All}
use Rattle.gr_script.specs.Printed.{line_text, IsLineKept}
use Rattle.gr_script.proofs.print_line.put_lines.Given as goal

abbrev pub invariant-loop-line : goal.invariant-loop-line
invariant-loop-line l = record {
  printed : l.out.items ≡ l.initial.out.items ++ flat_map line_text (take l.line-index l.lines);
  kept : All IsLineKept (take l.line-index l.lines);
}
