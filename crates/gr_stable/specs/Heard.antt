-- Of each member the report that counts, and the rule of stability over these.
use Rattle.std.specs.Prelude.{ℕ, zero, suc, ◌-◌, List, [], ◌∷◌, Bool, true, false, ◌&&◌, ◌||◌, not, ◌==◌, nat_le, slice_index_or}
use Rattle.std.specs.Prelude.{Option, Some, None, if◌then◌else◌}
use Rattle.gr_vector.specs.declared.report.Report.{Report}
use Rattle.gr_vector.specs.Ids.{Id}
use Rattle.gr_history.specs.declared.deed.Deed.{Deed}
use Rattle.gr_history.specs.declared.deed.Deed.TheVariants.{Call, Asked, Taken, Gave, Imaged, Reported, Heard, Swept}
use Rattle.gr_history.specs.Recipients.{is_in_bits}
use Rattle.gr_history.specs.Stable.{is_later, last_heard, is_covered, is_named}

-- of each member the report that counts, the first member's at the beginning
abbrev pub Reports : Type 0
Reports = List (Option Report)

-- the reports that count in a history, of so many members from one on
abbrev pub heard_from : ℕ → ℕ → List Deed → Reports
heard_from member zero past = []
heard_from member (suc n) past = last_heard member past ∷ heard_from (suc member) n past

-- those of the members from 1 to 8
unfoldable pub heard : List Deed → Reports
heard past = heard_from 1 8 past

-- what counts of a member once it reports
abbrev pub later_of : Report → Option Report → Option Report
later_of report before = if is_later report before then Some report else before

-- the reports with one more, where these are those of the members from one on
abbrev pub with_report_from : ℕ → Report → Reports → Reports
with_report_from member report [] = []
with_report_from member report (before ∷ rest) =
    (if report.member == member && is_later report before then Some report else before) ∷ with_report_from (suc member) report rest

abbrev pub with_report : Report → Reports → Reports
with_report report reports = with_report_from 1 report reports

-- the reports that count after a deed
abbrev pub heard_after : Deed → Reports → Reports
heard_after (Call client to seq ask reply made) reports = reports
heard_after (Asked client seq ask reply) reports = reports
heard_after (Taken change verdict) reports = reports
heard_after (Gave to what) reports = reports
heard_after (Imaged image) reports = reports
heard_after (Reported report) reports = reports
heard_after (Heard report) reports = with_report report reports
heard_after (Swept moment expired) reports = reports

-- whether the report that counts of one of the founders from 1 to n names the member
abbrev pub is_named_by : ℕ → ℕ → Reports → Bool
is_named_by member zero reports = false
is_named_by member (suc n) reports = is_named member (slice_index_or reports n None) || is_named_by member n reports

-- whether the member counts, where these were given something, with bit m - 1 for member m
abbrev pub is_counting_by : ℕ → ℕ → ℕ → Reports → Bool
is_counting_by founders given member reports =
    nat_le member founders || (is_in_bits member given || is_named_by member founders reports)

-- whether a member holds no tombstone back: it is this one, it doesn't count, or it is covered
abbrev pub is_passed : ℕ → ℕ → ℕ → Id → Reports → List Id → ℕ → Bool
is_passed me founders given tombstone reports ids member =
    member == me
    || (not (is_counting_by founders given member reports)
    || is_covered member tombstone (slice_index_or reports (member - 1) None) ids)

-- whether that is so of each of the members from 1 to n
abbrev pub is_stable_by : ℕ → ℕ → ℕ → ℕ → Id → Reports → List Id → Bool
is_stable_by me founders given zero tombstone reports ids = true
is_stable_by me founders given (suc n) tombstone reports ids =
    is_passed me founders given tombstone reports ids (suc n) && is_stable_by me founders given n tombstone reports ids

-- the same of the members from 1 to 8
unfoldable pub is_stable_now : ℕ → ℕ → ℕ → Id → Reports → List Id → Bool
is_stable_now me founders given tombstone reports ids = is_stable_by me founders given 8 tombstone reports ids
