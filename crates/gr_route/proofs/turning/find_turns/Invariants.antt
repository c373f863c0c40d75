use Rattle.std.proofs.Common.{◌≡◌, map, filter}
use Rattle.std.specs.Map.Iter.{deref}
use Rattle.gr_route.specs.Turning.{moved_by, turned_in, turns_by}
use Rattle.gr_route.proofs.turning.find_turns.Given as goal

abbrev pub invariant-loop-key : goal.invariant-loop-key
invariant-loop-key l = record {
  turned : l.turns.turned ≡ map (turned_in l.deed l.brought.won l.standing) (filter (turns_by l.deed l.brought.won l.standing) (map deref l.yielded));
  moves : l.turns.moves.items ≡ map (moved_by l.deed l.brought.won l.standing) (filter (turns_by l.deed l.brought.won l.standing) (map deref l.yielded));
}
