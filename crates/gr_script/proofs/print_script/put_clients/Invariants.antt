use Rattle.std.proofs.Common.{◌≡◌, ◌+◌, ◌++◌, drop}
use Rattle.gr_script.specs.Printed.{client_sayings}
use Rattle.gr_script.specs.Printing.{text_of_sayings}
use Rattle.gr_script.proofs.print_script.put_clients.Given as goal

abbrev pub invariant-loop-member : goal.invariant-loop-member
invariant-loop-member l = record {
  counted : l.client ≡ l.member-index + 1;
  printed : l.out.items ++ text_of_sayings (client_sayings l.client (drop l.member-index l.members))
      ≡ l.initial.out.items ++ text_of_sayings (client_sayings 1 l.members);
}
