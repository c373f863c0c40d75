-- How many steps on queries stand for clients' coming back.
use Rattle.std.proofs.Common.{◌≡◌, ℕ, ◌+◌, ◌≤◌, List, [], ◌∷◌, Some, subst, arith}
use Rattle.gr_script.specs.declared.line.Line.{Line}
use Rattle.gr_script.specs.declared.line.Line.TheVariants as line
use Rattle.gr_script.specs.declared.saying.Saying.{Saying}
use Rattle.gr_script.specs.Absence.{returned, returned_on}
use Rattle.gr_script.specs.Rules.{Heading, AllStand, StandsAfter}
use Rattle.gr_script.specs.Said.{line_of}
use Rattle.gr_script.specs.Taken.{Taken, said, advanced, heading_taken, lines_taken, IsNext}
use Rattle.gr_script.proofs.Standing.{all_stand}
use Rattle.gr_script.proofs.Taking.{line_next, taken_follow}

few_on : (h : Heading) (past : List Line) (l : Line) → StandsAfter h past l → returned past ≤ 10000
    → returned_on past l + returned past ≤ 10000
few_on h past (line.Back client moment) stands few = let within = stands.2 in omega (arith, within)
few_on h past (line.Step client seq act) stands few = omega (arith, few)
few_on h past (line.Deliver to client seq) stands few = omega (arith, few)
few_on h past (line.Report member) stands few = omega (arith, few)
few_on h past (line.Hear by of number) stands few = omega (arith, few)
few_on h past (line.Sweep member moment) stands few = omega (arith, few)
few_on h past (line.Join member from) stands few = omega (arith, few)
few_on h past (line.Depart member) stands few = omega (arith, few)
few_on h past (line.Leave client moment) stands few = omega (arith, few)

-- No more than there may be steps on queries.
pub few_returned : (h : Heading) (past : List Line) → AllStand h past → returned past ≤ 10000
few_returned h [] all = omega arith
few_returned h (l ∷ past) all = few_on h past l all.0 (few_returned h past all.1)

pub next_returned : (t : Taken) (saying : Saying) (l : Line) (after : List ℕ) → IsNext t (saying ∷ said t) after
    → line_of (said t) saying ≡ Some l → returned_on (lines_taken t) l + returned (lines_taken t) ≤ 10000
next_returned t saying l after next is =
    subst (λ (ls : List Line). returned ls ≤ 10000) (line_next t saying l after next is)
    (few_returned (heading_taken (advanced t)) (lines_taken (advanced t)) (all_stand (said (advanced t)) (taken_follow (advanced t))))
