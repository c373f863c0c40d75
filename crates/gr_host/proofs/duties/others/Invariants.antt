use Rattle.std.proofs.Common.{◌≡◌, ◌^◌, ◌<◌, ◌≤◌, ◌==◌, not}
use Rattle.gr_history.specs.Recipients.{member_bits}
use Rattle.gr_host.proofs.duties.others.Given as goal

abbrev pub invariant-loop-below : goal.invariant-loop-below
invariant-loop-below l = record {
  bit : l.bit ≡ 2 ^ l.below;
  least : 1 ≤ l.bit;
  most : l.bit ≤ 256;
  small : l.to < l.bit;
  bits : l.to ≡ member_bits (λ other. not (other == l.fn.plan.member)) l.below;
}
