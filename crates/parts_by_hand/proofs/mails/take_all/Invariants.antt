use Rattle.std.proofs.Common.{◌≡◌}
use Rattle.parts_by_hand.proofs.mails.take_all.Given as goal

abbrev pub invariant-loop : goal.invariant-loop
invariant-loop g l = l.taker.table ≡ l.inbox.table
