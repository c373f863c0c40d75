use Rattle.std.proofs.Common.{◌≡◌, ◌++◌, take, map}
use Rattle.gr_durable.specs.Tables.{names_held, table_of}
use Rattle.gr_durable.proofs.tabling.add_tables.Given as goal

abbrev pub invariant-loop-name : goal.invariant-loop-name
invariant-loop-name l =
    l.tables ≡ l.initial.tables ++ map (table_of l.client l.all) (take l.name-index (names_held l.all))
