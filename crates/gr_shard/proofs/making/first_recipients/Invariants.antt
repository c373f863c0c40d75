use Rattle.std.proofs.Common.{[], ◌≡◌, ◌^◌, ◌<◌, ◌≤◌}
use Rattle.gr_history.specs.Recipients.{is_recipient, member_bits}
use Rattle.gr_shard.proofs.making.first_recipients.Given as goal

abbrev pub invariant-loop-below : goal.invariant-loop-below
invariant-loop-below l = record {
  bit : l.bit ≡ 2 ^ l.below;
  least : 1 ≤ l.bit;
  most : l.bit ≤ 256;
  small : l.to < l.bit;
  bits : l.to ≡ member_bits (is_recipient l.id []) l.below;
}
