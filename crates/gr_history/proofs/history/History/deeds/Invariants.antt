use Rattle.std.proofs.Common.{◌≡◌, take}
use Rattle.gr_history.proofs.history.History.deeds.Given as goal

abbrev pub invariant-loop-deed : goal.invariant-loop-deed
invariant-loop-deed l = l.deeds.items ≡ take l.deed-index l.deed-items
