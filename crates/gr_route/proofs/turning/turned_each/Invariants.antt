use Rattle.std.proofs.Common.{◌≡◌, take, reverse}
use Rattle.gr_route.specs.Turning.{IsBehind, turned_each}
use Rattle.gr_route.proofs.turning.turned_each.Given as goal

abbrev pub invariant-loop-deed : goal.invariant-loop-deed
invariant-loop-deed l = record {
  lists : l.lists.items ≡ turned_each (reverse (take l.deed-index l.deeds));
  behind : IsBehind (reverse (take l.deed-index l.deeds)) l.standing;
}
