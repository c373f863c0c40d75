use Rattle.std.proofs.Common.{◌≡◌, ◌*◌, ◌^◌, take, pos, neg_ℤ, ◌≤ℤ◌}
use Rattle.gr_report.specs.Own.{sum_of}
use Rattle.gr_report.proofs.own.sum_of.Given as goal

abbrev pub invariant-loop-number : goal.invariant-loop-number
invariant-loop-number l =
    (l.sum ≡ sum_of (take l.number-index l.numbers)) × (neg_ℤ (pos (2 ^ 63 * l.number-index)) ≤ℤ l.sum)
    × (l.sum ≤ℤ pos (2 ^ 63 * l.number-index))
