-- The text of the summary of a drill that was run.
use Rattle.std.specs.Prelude.{ℕ, List, [], ◌∷◌, ◌++◌, map, codes, decimal, Bool, true, false}
use Rattle.gr_history.specs.declared.record.MemberRecord.{MemberRecord}
use Rattle.gr_history.specs.declared.record.Record.{Record}
use Rattle.gr_history.specs.declared.record.ShardRecord.{ShardRecord}
use Rattle.gr_script.specs.declared.script.Script.{Script}
use Rattle.gr_report.specs.Own.{row_number, own_rows, own_line}
use Rattle.gr_report.specs.Same.{are_equal}
use Rattle.gr_report.specs.Steps.{step_counts, steps_line}

unfoldable pub drill_line : ℕ → ℕ → List ℕ
drill_line start steps = codes "drill " ++ decimal start ++ codes " " ++ decimal steps ++ codes "\n"

-- the shards of member 1, which is the first
abbrev pub first_shards : List MemberRecord → List ShardRecord
first_shards [] = []
first_shards (first ∷ rest) = first.shards

abbrev pub members_line : Bool → List ℕ
members_line true = codes "members equal\n"
members_line false = codes "members differ\n"

-- the drill, its steps, what stands of them at member 1, and whether it stands at all members
abbrev pub summary_of : ℕ → ℕ → Script → Record → List ℕ
summary_of start steps script record_of =
    drill_line start steps ++ steps_line (step_counts script.lines) ++ own_line (map row_number (own_rows (first_shards record_of.members)))
    ++ members_line (are_equal record_of.members) ++ codes "end\n"
