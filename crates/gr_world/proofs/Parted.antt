-- What members that depart leave: all that stay know the same, and the histories are those of a record that members left.
use Rattle.std.proofs.Common.{◌≡◌, ◌⊎◌, ℕ, ◌≤◌, ◌<◌, List, [], sym, subst, inl, inr, ⊎_elim}
use Rattle.gr_law.specs.Integrity.{IsSound, IsParted, AreHeardOrClosed}
use Rattle.gr_law.proofs.Lists.{cases_le}
use Rattle.gr_script.specs.declared.line.Line.{Line}
use Rattle.gr_script.specs.Rules.{Heading, IsHeading, AllStand, AllNameStaying}
use Rattle.gr_world.specs.Events.{Event, history}
use Rattle.gr_world.specs.Courses.{hands_over, course}
use Rattle.gr_world.specs.Causes.{grid_at}
use Rattle.gr_world.specs.Shut.{IsFromTaken, IsOne, AreShut}
use Rattle.gr_world.proofs.Lines.{AreFit}
use Rattle.gr_world.proofs.Handed.{handed_one}
use Rattle.gr_world.proofs.Departed.{course_sound, departed_shut}
use Rattle.gr_world.proofs.Closing.{course_within, all_told, heard_closed}

-- After the hand-over all members that stay know the same changes of the one that departs.
pub hand_over : (heading : Heading) (gone : List ℕ) (of shard : ℕ) (now : List Event) → IsFromTaken heading gone of shard now
    → IsOne heading gone of shard (hands_over heading gone of shard now)
hand_over = handed_one

-- After each departure all members that stay know the same of the one's changes, and no more of them comes in.
pub lines_shut : (heading : Heading) (lines : List Line) → IsHeading heading → AllStand heading lines → AllNameStaying heading lines
    → AreShut heading lines
lines_shut heading lines is stand names of past later split =
    departed_shut heading of past later
    (subst (AreFit heading) split (record { heading_is = is; stand = stand; names = names }))

-- The histories of a course are those of a record that members left.
pub parted_course : (heading : Heading) (past : List Line) → IsHeading heading → AllStand heading past → AllNameStaying heading past
    → (shard : ℕ) → IsParted (grid_at heading shard (course heading past))
parted_course heading past is stand names shard = record { sound = sound; heard = at_shard (cases_le heading.shards shard) }
  where
    fit : AreFit heading past
    fit = record { heading_is = is; stand = stand; names = names }

    sound : IsSound (grid_at heading shard (course heading past))
    sound = course_sound heading past fit shard

    at_none : (me : ℕ) → history me shard (course heading past) ≡ []
        → AreHeardOrClosed (grid_at heading shard (course heading past)) me (history me shard (course heading past))
    at_none me empty = subst (AreHeardOrClosed (grid_at heading shard (course heading past)) me) (sym empty) tt

    at_shard : (heading.shards ≤ shard) ⊎ (shard < heading.shards) → (me : ℕ)
        → AreHeardOrClosed (grid_at heading shard (course heading past)) me (history me shard (course heading past))
    at_shard (inl le) me = at_none me (course_within heading past fit me shard le)
    at_shard (inr less) me = ⊎_elim
        (λ within. heard_closed heading past fit shard less me within (history me shard (course heading past))
        (all_told heading past fit me shard))
        (at_none me)
        (sound.outside me)
