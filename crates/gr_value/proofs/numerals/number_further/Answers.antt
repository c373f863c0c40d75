use Rattle.std.proofs.Common.{arith}
use Rattle.gr_value.proofs.Decimals.{digit_taken}
use Rattle.gr_value.proofs.numerals.number_further.Goals as goal

pub digits-preserved : goal.digits-preserved
digits-preserved c = record {
  text = digit_taken _ _ _ _ _ c.digits.invariant.text c.in-Some.ensures.0 c.digits.invariant.some c.in-Some.ensures.1 (grind arith);
  some = grind arith;
  fits = grind arith;
}
