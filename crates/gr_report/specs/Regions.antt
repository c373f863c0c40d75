-- The text of what stands at the members.
use Rattle.std.specs.Prelude.{ℕ, List, [], ◌++◌, codes, decimal, flat_map}
use Rattle.gr_value.specs.ValueText.{value_text}
use Rattle.gr_stamp.specs.declared.change.Change.{Change}
use Rattle.gr_stamp.specs.declared.change.Kind.{Kind}
use Rattle.gr_stamp.specs.declared.change.Kind.TheVariants.{Put, Invalid, Remove}
use Rattle.gr_stamp.specs.Version.{Version}
use Rattle.gr_history.specs.declared.record.MemberRecord.{MemberRecord}
use Rattle.gr_report.specs.declared.counts.Counts.{Counts}
use Rattle.gr_report.specs.Counts.{counts_of}
use Rattle.gr_report.specs.Rows.{rows_of}

abbrev pub stamp_text : Version → List ℕ
stamp_text stamp = decimal stamp.ver ++ codes "." ++ decimal stamp.member ++ codes "." ++ decimal stamp.rv

-- A row has its value's text, or - where its key is there without one. No row is a removal.
abbrev pub put_text : Kind → List ℕ
put_text (Put value) = value_text value
put_text Invalid = codes "-"
put_text Remove = []

unfoldable pub row_line : Change → List ℕ
row_line row = row.key ++ codes " " ++ put_text row.kind ++ codes " " ++ stamp_text row.stamp ++ codes "\n"

-- a word and the number behind it
abbrev pub counted : List ℕ → ℕ → List ℕ
counted word number = word ++ decimal number

unfoldable pub member_line : ℕ → Counts → List ℕ
member_line member counts =
    counted (codes "member ") member ++ counted (codes " entries ") counts.entries ++ counted (codes " tombstones ") counts.tombstones
    ++ counted (codes " conflated ") counts.conflated ++ counted (codes " repeats ") counts.repeats ++ codes "\n"

abbrev pub member_text : MemberRecord → List ℕ
member_text member_record =
    member_line member_record.member (counts_of member_record.shards) ++ flat_map row_line (rows_of member_record.shards)
