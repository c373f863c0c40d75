use Rattle.std.proofs.Common.{◌≡◌, ◌≤◌, ◌^◌, ◌++◌}
use Rattle.gr_report.specs.Deeds.{members_upto, with_commas}
use Rattle.gr_report.proofs.Commas.{mark_behind}
use Rattle.gr_report.proofs.lists.put_list.Given as goal

abbrev pub invariant-loop-below : goal.invariant-loop-below
invariant-loop-below l = record {
  bit : l.bit ≡ 2 ^ l.below;
  least : 1 ≤ l.bit;
  most : l.bit ≤ 256;
  mark : l.mark ≡ mark_behind (members_upto l.to l.below);
  text : l.out.items ≡ l.initial.out.items ++ with_commas (members_upto l.to l.below);
}
