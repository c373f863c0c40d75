-- The text of a report.
use Rattle.std.specs.Prelude.{ℕ, List, ◌++◌, codes, true, false}
use Rattle.gr_durable.specs.Tables.{tables_of}
use Rattle.gr_durable.specs.Texts.{tables_text}
use Rattle.gr_history.specs.declared.record.Record.{Record}
use Rattle.gr_report.specs.Report.{open_text, record_text}
use Rattle.gr_top.specs.declared.words.Detail.{Detail}
use Rattle.gr_top.specs.declared.words.Detail.TheVariants.{Plain, Histories, Tables}

-- the tables of the clients' queries before the last line
abbrev pub text_with_tables : Record → List ℕ
text_with_tables left = open_text false left ++ tables_text (tables_of left) ++ codes "end\n"

-- the text of a record, with what is told besides
abbrev pub report_text : Detail → Record → List ℕ
report_text Plain left = record_text false left
report_text Histories left = record_text true left
report_text Tables left = text_with_tables left
