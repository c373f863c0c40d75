use Rattle.std.proofs.Common.{◌≡◌, ◌≤◌, take}
use Rattle.gr_report.specs.Steps.{step_counts}
use Rattle.gr_report.proofs.steps.count_steps.Given as goal

abbrev pub invariant-loop-line : goal.invariant-loop-line
invariant-loop-line l = record {
  counted : l.counts ≡ step_counts (take l.line-index l.lines);
  gets : l.counts.gets ≤ l.line-index;
  puts : l.counts.puts ≤ l.line-index;
  puts_if_absent : l.counts.puts_if_absent ≤ l.line-index;
  replaces : l.counts.replaces ≤ l.line-index;
  destroys : l.counts.destroys ≤ l.line-index;
}
