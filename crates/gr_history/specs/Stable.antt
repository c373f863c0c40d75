-- Which tombstones are stable, and which a sweep lets expire.
use Rattle.std.specs.Prelude.{ℕ, zero, suc, ◌-◌, List, [], ◌∷◌, Bool, true, false, ◌&&◌, ◌||◌, not, ◌==◌, nat_le, nat_lt, max, filter}
use Rattle.std.specs.Prelude.{Option, Some, None, if◌then◌else◌}
use Rattle.gr_stamp.specs.declared.change.Change.{Change}
use Rattle.gr_stamp.specs.Expiry.{timeout}
use Rattle.gr_vector.specs.declared.report.Report.{Report}
use Rattle.gr_vector.specs.Ids.{Id, has_id, covers}
use Rattle.gr_history.specs.declared.identity.Identity.{Identity}
use Rattle.gr_history.specs.declared.deed.Deed.{Deed}
use Rattle.gr_history.specs.declared.deed.Deed.TheVariants.{Call, Asked, Taken, Gave, Imaged, Reported, Heard, Swept}
use Rattle.gr_history.specs.Ids.{id_of, ids}
use Rattle.gr_history.specs.Standing.{changes, standing}
use Rattle.gr_stamp.specs.Winner.{is_removal}
use Rattle.gr_history.specs.Clock.{clock, since}
use Rattle.gr_history.specs.Recipients.{gave_to, is_in_bits}
use Rattle.gr_history.specs.Regions.{keys_of}

-- whether a report was made at a later place than the one that counted so far
abbrev pub is_later : Report → Option Report → Bool
is_later report None = true
is_later report (Some before) = nat_lt before.at report.at

-- Of the reports of a member that were heard, the one with the greatest place counts, of several the first.
abbrev pub last_heard : ℕ → List Deed → Option Report
last_heard member [] = None
last_heard member (Call client to seq ask reply made ∷ past) = last_heard member past
last_heard member (Asked client seq ask reply ∷ past) = last_heard member past
last_heard member (Taken change verdict ∷ past) = last_heard member past
last_heard member (Gave to what ∷ past) = last_heard member past
last_heard member (Imaged image ∷ past) = last_heard member past
last_heard member (Reported report ∷ past) = last_heard member past
last_heard member (Heard report ∷ past) =
    if report.member == member && is_later report (last_heard member past) then Some report else last_heard member past
last_heard member (Swept moment expired ∷ past) = last_heard member past

-- whether a member reported that it knows the tombstone, and all that it had made by then is known here
abbrev pub is_covered : ℕ → Id → Option Report → List Id → Bool
is_covered member tombstone None ids = false
is_covered member tombstone (Some report) ids = has_id tombstone report.vector.ids && covers member report.own ids

-- whether a report says that changes of its member go to this one
abbrev pub is_named : ℕ → Option Report → Bool
is_named member None = false
is_named member (Some report) = is_in_bits member report.to

-- whether the report that counts of one of the founders from 1 to n names the member
abbrev pub is_named_upto : ℕ → ℕ → List Deed → Bool
is_named_upto member zero past = false
is_named_upto member (suc n) past = is_named member (last_heard (suc n) past) || is_named_upto member n past

-- The members that count are the founders, those that were given something here, and those that the reports of
-- founders name: only they can have made changes that may still come.
abbrev pub is_counting : ℕ → ℕ → List Deed → Bool
is_counting founders member past = nat_le member founders || (gave_to member past || is_named_upto member founders past)

-- whether each of the members from 1 to n but this one is covered, if it counts
abbrev pub is_stable_upto : ℕ → ℕ → ℕ → Id → List Deed → Bool
is_stable_upto me founders zero tombstone past = true
is_stable_upto me founders (suc n) tombstone past =
    (suc n == me || (not (is_counting founders (suc n) past)
    || is_covered (suc n) tombstone (last_heard (suc n) past) (ids past))) && is_stable_upto me founders n tombstone past

unfoldable pub is_stable : Identity → Id → List Deed → Bool
is_stable id tombstone past = is_stable_upto id.member id.founders 8 tombstone past

-- whether what stands, which came in at a time, is a tombstone that has timed out and is stable
abbrev pub is_due_from : Identity → ℕ → Option Change → ℕ → List Deed → Bool
is_due_from id moment None from past = false
is_due_from id moment (Some change) from past =
    is_removal change.kind && (nat_le timeout (max moment (clock past) - from) && is_stable id (id_of change) past)

-- whether a sweep at the moment lets the key's tombstone expire
abbrev pub is_due : Identity → ℕ → List Deed → List ℕ → Bool
is_due id moment past key = is_due_from id moment (standing key past) (since key past) past

-- the keys whose tombstones expire, in order
abbrev pub due : Identity → ℕ → List Deed → List (List ℕ)
due id moment past = filter (is_due id moment past) (keys_of (changes past))
