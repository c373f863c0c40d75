-- The text of tables.
use Rattle.std.specs.Prelude.{ℕ, List, ◌++◌, codes, decimal, flat_map, length}
use Rattle.gr_report.specs.Queries.{row_text}
use Rattle.gr_durable.specs.declared.table.Table.{Table}

-- the client, the query's name and how many rows there are; each row stands behind them on a line of its own
abbrev pub table_text : Table → List ℕ
table_text table =
    codes "table " ++ decimal table.client ++ codes " " ++ table.name ++ codes " rows " ++ decimal (length table.rows)
    ++ flat_map row_text table.rows ++ codes "\n"

abbrev pub tables_text : List Table → List ℕ
tables_text tables = codes "tables\n" ++ flat_map table_text tables
