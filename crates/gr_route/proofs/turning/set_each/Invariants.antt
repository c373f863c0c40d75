use Rattle.std.proofs.Common.{◌≡◌, fold}
use Rattle.gr_route.specs.Turning.{with_move}
use Rattle.gr_route.proofs.turning.set_each.Given as goal

-- those that are left give the same from here on
abbrev pub invariant-loop-item : goal.invariant-loop-item
invariant-loop-item l = fold with_move l.standing l.item-iterator.rest.items ≡ fold with_move l.initial.standing l.fn.moves.items
