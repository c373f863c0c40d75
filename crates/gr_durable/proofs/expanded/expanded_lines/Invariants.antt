use Rattle.std.proofs.Common.{◌≡◌, ◌++◌, reverse}
use Rattle.gr_script.specs.Expanded.{expanded}
use Rattle.gr_durable.specs.Expanding.{IsExpander}
use Rattle.gr_durable.proofs.expanded.expanded_lines.Given as goal

abbrev pub invariant-loop-line : goal.invariant-loop-line
invariant-loop-line l = record {
  lines : l.fn.lines ≡ l.yielded ++ l.line-iterator.rest.items;
  kept : IsExpander l.clients l.expander (reverse l.yielded);
  all : l.all ≡ reverse (expanded (reverse l.yielded));
}
