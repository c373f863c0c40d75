use Rattle.std.proofs.Common.{◌≡◌, ◌≤◌, count_by, take}
use Rattle.gr_script.specs.Steps.{is_join_of}
use Rattle.gr_runner.proofs.kits.joins_of.Given as goal

abbrev pub invariant-loop-line : goal.invariant-loop-line
invariant-loop-line l = record {
  counted : l.count ≡ count_by (is_join_of l.member) (take l.line-index l.line-items);
  few : l.count ≤ l.line-index;
}
