use Rattle.std.proofs.Common.{◌≡◌, ◌≤◌, count_by, take}
use Rattle.gr_runner.specs.Makings.{is_peek}
use Rattle.gr_runner.proofs.making.peeks_of.Given as goal

abbrev pub invariant-loop-line : goal.invariant-loop-line
invariant-loop-line l = record {
  counted : l.count ≡ count_by is_peek (take l.line-index l.line-items);
  few : l.count ≤ l.line-index;
}
