-- The text of what happened at a shard.
use Rattle.std.specs.Prelude.{ℕ, zero, suc, ◌/◌, ◌%◌, ◌^◌, List, [], ◌∷◌, ◌++◌, length, codes, decimal, Bool, ◌==◌, flat_map}
use Rattle.std.specs.Prelude.{if◌then◌else◌, Option, Some, None}
use Rattle.gr_value.specs.ValueText.{value_text}
use Rattle.gr_stamp.specs.declared.change.Change.{Change}
use Rattle.gr_stamp.specs.declared.change.Kind.{Kind}
use Rattle.gr_stamp.specs.declared.change.Kind.TheVariants.{Put, Invalid, Remove}
use Rattle.gr_vector.specs.declared.report.Report.{Report}
use Rattle.gr_history.specs.declared.ask.Ask.{Ask}
use Rattle.gr_history.specs.declared.deed.Deed.{Deed}
use Rattle.gr_history.specs.declared.deed.Deed.TheVariants as deed
use Rattle.gr_history.specs.declared.image.Image.{Image}
use Rattle.gr_history.specs.declared.image.What.{What}
use Rattle.gr_history.specs.declared.image.What.TheVariants as what
use Rattle.gr_history.specs.declared.reply.Reply.{Reply}
use Rattle.gr_history.specs.declared.verdict.Verdict.{Verdict}
use Rattle.gr_history.specs.declared.verdict.Verdict.TheVariants.{Applied, Discarded, Repeat}
use Rattle.gr_script.specs.Printed.{ask_text}
use Rattle.gr_report.specs.Answers.{reply_text}
use Rattle.gr_report.specs.Queries.{query_step_text, shard_line}
use Rattle.gr_report.specs.Regions.{stamp_text}
use Rattle.gr_report.specs.Texts.{spaced}

abbrev pub has_bit : ℕ → ℕ → Bool
has_bit to bit = to / bit % 2 == 1

-- the members from 1 to n whose bits are set, in order; that of member m is bit m - 1
abbrev pub members_upto : ℕ → ℕ → List ℕ
members_upto to zero = []
members_upto to (suc n) = members_upto to n ++ (if has_bit to (2 ^ n) then suc n ∷ [] else [])

abbrev pub behind_comma : ℕ → List ℕ
behind_comma number = codes "," ++ decimal number

-- numbers with a comma between each two
abbrev pub with_commas : List ℕ → List ℕ
with_commas [] = []
with_commas (number ∷ numbers) = decimal number ++ flat_map behind_comma numbers

-- the numbers, or - where there is none
abbrev pub list_text : List ℕ → List ℕ
list_text [] = codes "-"
list_text (number ∷ numbers) = with_commas (number ∷ numbers)

abbrev pub members_in : ℕ → List ℕ
members_in to = members_upto to 8

abbrev pub made_text : Option Change → ℕ → List ℕ
made_text None to = []
made_text (Some change) to = codes " made " ++ stamp_text change.stamp ++ codes " to " ++ list_text (members_in to)

abbrev pub kind_text : Kind → List ℕ
kind_text (Put value) = codes " put " ++ value_text value ++ codes " "
kind_text Invalid = codes " invalid "
kind_text Remove = codes " remove "

abbrev pub verdict_text : Verdict → List ℕ
verdict_text Applied = codes " applied"
verdict_text Discarded = codes " discarded"
verdict_text Repeat = codes " repeat"

abbrev pub what_text : What → List ℕ
what_text what.Image = codes " image"
what_text what.Own = codes " own"

-- which step of which client it was, and what was asked
abbrev pub asked_text : ℕ → ℕ → Ask → List ℕ
asked_text client seq ask = codes "call " ++ decimal client ++ codes "." ++ decimal seq ++ codes " " ++ ask_text ask

-- what was replied, and what was made
abbrev pub told_text : Reply → Option Change → ℕ → List ℕ
told_text reply made to = codes " -> " ++ reply_text reply ++ made_text made to

unfoldable pub taken_text : Change → Verdict → List ℕ
taken_text change verdict = codes "take " ++ change.key ++ kind_text change.kind ++ stamp_text change.stamp ++ verdict_text verdict

unfoldable pub image_text : Image → List ℕ
image_text image =
    codes "image from " ++ decimal image.from ++ codes " at " ++ decimal image.at ++ codes " rows " ++ decimal (length image.rows)
    ++ codes " floor " ++ decimal image.floor

-- the place at which a report was made, and what its member had made by then
abbrev pub report_text : Report → List ℕ
report_text report = codes " at " ++ decimal report.at ++ codes " own " ++ decimal report.own

abbrev pub heard_text : Report → List ℕ
heard_text report = codes "heard " ++ decimal report.member ++ report_text report

abbrev pub swept_text : ℕ → List (List ℕ) → List ℕ
swept_text moment expired = codes "sweep " ++ decimal moment ++ codes " expired " ++ decimal (length expired) ++ spaced expired

abbrev pub deed_text : Deed → List ℕ
deed_text (deed.Call client to seq ask reply made) = asked_text client seq ask ++ told_text reply made to
deed_text (deed.Asked client seq ask reply) = query_step_text client seq ask ++ codes " -> " ++ shard_line reply
deed_text (deed.Taken change verdict) = taken_text change verdict
deed_text (deed.Gave to what) = codes "gave " ++ decimal to ++ what_text what
deed_text (deed.Imaged image) = image_text image
deed_text (deed.Reported report) = codes "report" ++ report_text report
deed_text (deed.Heard report) = heard_text report
deed_text (deed.Swept moment expired) = swept_text moment expired

abbrev pub deed_line : Deed → List ℕ
deed_line deed = deed_text deed ++ codes "\n"
