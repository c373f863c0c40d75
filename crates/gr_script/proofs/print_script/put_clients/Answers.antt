use Rattle.std.proofs.Common.{arith}
use Rattle.gr_script.proofs.PrintLemmas.{clients_printed}
use Rattle.gr_script.proofs.print_script.put_clients.Goals as goal

pub loop-member-preserved : goal.loop-member-preserved
loop-member-preserved c = let l = c.loop-member in record {
  counted = omega (arith, l.invariant.counted);
  printed =
      clients_printed l.client c.args.members.now l.member-index l.out.items c.put_client.new.out.items _
      c.loop-member-test.true c.in_ok-put_client.ensures l.invariant.printed;
}
