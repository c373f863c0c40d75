use Rattle.std.proofs.Common.{◌≡◌, ◌++◌, take, flat_map}
use Rattle.gr_report.specs.Histories.{histories_of}
use Rattle.gr_report.proofs.histories.put_histories.Given as goal

abbrev pub invariant-loop-member_record : goal.invariant-loop-member_record
invariant-loop-member_record l =
    l.out.items ≡ l.initial.out.items ++ flat_map histories_of (take l.member_record-index l.members)
