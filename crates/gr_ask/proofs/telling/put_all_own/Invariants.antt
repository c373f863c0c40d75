use Rattle.std.proofs.Common.{◌≡◌, ◌++◌, take, flat_map}
use Rattle.gr_ask.specs.Told.{text_if_found}
use Rattle.gr_ask.proofs.telling.put_all_own.Given as goal

abbrev pub invariant-loop-opening : goal.invariant-loop-opening
invariant-loop-opening l =
    l.out.items ≡ l.initial.out.items ++ flat_map (text_if_found l.client l.shards) (take l.opening-index l.openings)
