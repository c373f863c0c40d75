use Rattle.std.proofs.Common.{◌≡◌, length, drop}
use Rattle.std.specs.Cmp.Lexicographic.{pointwise}
use Rattle.gr_report.proofs.same.are_same.Given as goal

-- What is left decides.
abbrev pub invariant-loop-place : goal.invariant-loop-place
invariant-loop-place g l = record {
  as_long : length l.one ≡ length l.two;
  rest : pointwise g.T.Same.same (drop l.place l.one) (drop l.place l.two) ≡ pointwise g.T.Same.same l.one l.two;
}
