use Rattle.std.proofs.Common.{◌≡◌, ◌≤◌, ◌<◌, ◌^◌, ◌++◌, length, decimal}
use Rattle.gr_value.proofs.numerals.number_further.Given as goal

abbrev pub invariant-digits : goal.invariant-digits
invariant-digits l = record {
  text : decimal l.first ++ l.bytes ≡ decimal l.number ++ l.rest;
  some : 1 ≤ l.number;
  fits : l.number < 2 ^ 63;
}

abbrev pub decreases-digits : goal.decreases-digits
decreases-digits l = length l.rest
