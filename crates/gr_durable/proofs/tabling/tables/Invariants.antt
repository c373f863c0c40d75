use Rattle.std.proofs.Common.{◌≡◌, take, flat_map}
use Rattle.gr_durable.specs.Tables.{tables_by}
use Rattle.gr_durable.proofs.tabling.tables.Given as goal

abbrev pub invariant-loop-client : goal.invariant-loop-client
invariant-loop-client l =
    l.tables ≡ flat_map (tables_by l.record_of.members) (take l.client-index l.record_of.clients)
