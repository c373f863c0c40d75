-- The text of a record.
use Rattle.std.specs.Prelude.{ℕ, List, [], ◌++◌, codes, flat_map, Bool, true, false}
use Rattle.gr_history.specs.declared.record.Record.{Record}
use Rattle.gr_report.specs.Answers.{client_text}
use Rattle.gr_report.specs.Histories.{histories_of}
use Rattle.gr_report.specs.Regions.{member_text}

-- the histories, where they are asked for
abbrev pub histories_text : Bool → Record → List ℕ
histories_text false record_of = []
histories_text true record_of = codes "histories\n" ++ flat_map histories_of record_of.members

-- all but the last line, so that more can stand before it
abbrev pub open_text : Bool → Record → List ℕ
open_text histories record_of =
    codes "replies\n" ++ flat_map client_text record_of.clients ++ codes "regions\n" ++ flat_map member_text record_of.members
    ++ histories_text histories record_of

-- with or without the histories
abbrev pub record_text : Bool → Record → List ℕ
record_text histories record_of = open_text histories record_of ++ codes "end\n"
