use Rattle.std.proofs.Common.{◌≡◌, ◌==◌, ◌≤◌, count_by, take}
use Rattle.gr_runner.proofs.making.clients_at.Given as goal

abbrev pub invariant-loop-at : goal.invariant-loop-at
invariant-loop-at l = record {
  counted : l.count ≡ count_by (λ at. at == l.member) (take l.at-index l.at-items);
  few : l.count ≤ l.at-index;
}
