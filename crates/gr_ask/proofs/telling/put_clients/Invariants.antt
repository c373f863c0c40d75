use Rattle.std.proofs.Common.{◌≡◌, ◌++◌, take, flat_map}
use Rattle.gr_ask.specs.Told.{text_if_at}
use Rattle.gr_ask.proofs.telling.put_clients.Given as goal

abbrev pub invariant-loop-client : goal.invariant-loop-client
invariant-loop-client l =
    l.out.items ≡ l.initial.out.items ++ flat_map (text_if_at l.member l.shards) (take l.client-index l.clients)
