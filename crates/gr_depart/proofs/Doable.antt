-- Each line of a script can be done.
use Rattle.std.proofs.Common.{subst, refl, List, [], ◌∷◌, reverse}
use Rattle.std.specs.List.{All, AllByRecursion}
use Rattle.std.proofs.lemmas.List.{reverse-reverse}
use Rattle.std.proofs.lemmas.List.Elements.{All-from_recursion}
use Rattle.gr_script.specs.declared.line.Line.{Line}
use Rattle.gr_script.specs.declared.line.Line.TheVariants.{Step, Deliver, Hear, Sweep, Join, Depart, Leave, Back}
use Rattle.gr_script.specs.declared.line.Line.TheVariants as line
use Rattle.gr_script.specs.Rules.{AllStand, Heading, IsHeading, IsScript, StandsAfter}
use Rattle.gr_world.proofs.Playable.{all-reverse, line_playable}
use Rattle.gr_depart.specs.Lines.{CanDo}

line_doable : (heading : Heading) (line : Line) (past : List Line) → IsHeading heading → StandsAfter heading past line → CanDo heading line
line_doable heading (Step client seq act) past is stands = line_playable heading (Step client seq act) past is stands refl
line_doable heading (Deliver to client seq) past is stands = line_playable heading (Deliver to client seq) past is stands refl
line_doable heading (line.Report member) past is stands = line_playable heading (line.Report member) past is stands refl
line_doable heading (Hear by of number) past is stands = line_playable heading (Hear by of number) past is stands refl
line_doable heading (Sweep member moment) past is stands = line_playable heading (Sweep member moment) past is stands refl
line_doable heading (Join joiner provider) past is stands = line_playable heading (Join joiner provider) past is stands refl
line_doable heading (Depart member) past is stands = stands.0
line_doable heading (Leave client moment) past is stands = tt
line_doable heading (Back client moment) past is stands = tt

pub all_doable : (heading : Heading) (past : List Line) → IsHeading heading → AllStand heading past → AllByRecursion (CanDo heading) past
all_doable heading [] is all = tt
all_doable heading (line ∷ past) is all = (line_doable heading line past is all.0, all_doable heading past is all.1)

pub lines_doable : (heading : Heading) (lines : List Line) → IsScript heading lines → All (CanDo heading) lines
lines_doable heading lines is =
    All-from_recursion (CanDo heading) lines
    (subst (AllByRecursion (CanDo heading)) (reverse-reverse lines)
    (all-reverse (CanDo heading) (reverse lines) (all_doable heading (reverse lines) is.heading is.lines_stand)))

-- the line that follows those that were played
pub next_doable : (heading : Heading) (played : List Line) (line : Line) → IsScript heading (reverse (line ∷ played)) → CanDo heading line
next_doable heading played line is =
    line_doable heading line played is.heading (subst (AllStand heading) (reverse-reverse (line ∷ played)) is.lines_stand).0
