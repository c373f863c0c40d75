-- What becomes of a change that is taken in.
use Rattle.std.specs.Prelude.{List, Bool, true, false, Option, Some, None, if◌then◌else◌}
use Rattle.gr_stamp.specs.declared.change.Change.{Change}
use Rattle.gr_stamp.specs.Version.{beats}
use Rattle.gr_vector.specs.Ids.{has_id}
use Rattle.gr_history.specs.declared.verdict.Verdict.{Verdict}
use Rattle.gr_history.specs.declared.verdict.Verdict.TheVariants.{Applied, Discarded, Repeat}
use Rattle.gr_history.specs.declared.deed.Deed.{Deed}
use Rattle.gr_history.specs.Ids.{id_of, ids}
use Rattle.gr_history.specs.Standing.{standing}

-- of a change that is known or isn't, over what stands at its key
abbrev pub verdict_over : Bool → Option Change → Change → Verdict
verdict_over true stands change = Repeat
verdict_over false None change = Applied
verdict_over false (Some stands) change = if beats change.stamp stands.stamp then Applied else Discarded

abbrev pub verdict : List Deed → Change → Verdict
verdict past change = verdict_over (has_id (id_of change) (ids past)) (standing change.key past) change
