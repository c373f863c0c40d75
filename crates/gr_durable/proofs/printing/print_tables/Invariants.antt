use Rattle.std.proofs.Common.{◌≡◌, ◌++◌, take, flat_map}
use Rattle.std.specs.Prelude.{codes}
use Rattle.gr_durable.specs.Texts.{table_text}
use Rattle.gr_durable.proofs.printing.print_tables.Given as goal

abbrev pub invariant-loop-table : goal.invariant-loop-table
invariant-loop-table l =
    l.out.items ≡ l.fn.out.items ++ codes "tables\n" ++ flat_map table_text (take l.table-index l.table-items)
