-- Several lines that are played in place of one.
use Rattle.std.proofs.Common.{◌≡◌, ◌∙◌, ℕ, List, [], ◌∷◌, ◌++◌, reverse, refl, ap, sym, subst, append_assoc, length}
use Rattle.std.specs.List.{AllByRecursion, cons_option}
use Rattle.std.proofs.lemmas.List.{reverse-append, reverse-reverse}
use Rattle.gr_script.specs.declared.line.Line.{Line}
use Rattle.gr_script.specs.Rules.{Heading, AllStand, IsHeading, IsScript}
use Rattle.gr_script.specs.Steps.{departed, departs}
use Rattle.gr_world.specs.Courses.{after, course}
use Rattle.gr_script.specs.Expanded.{expanded}
use Rattle.gr_durable.specs.Expanding.{Fits}
use Rattle.gr_durable.proofs.Fitting.{line_fits}
use Rattle.gr_durable.proofs.StillScripts.{all_stand}
use Rattle.gr_world.proofs.Playable.{all-reverse}
use Rattle.gr_depart.specs.Lines.{CanDo, after_all, gone_after}
use Rattle.gr_depart.proofs.Doable.{all_doable}

joined : (line : Line) (lines past : List Line) → reverse (line ∷ lines) ++ past ≡ reverse lines ++ (line ∷ past)
joined line lines past =
    ap (λ (ls : List Line). ls ++ past) (reverse-append (line ∷ []) lines) ∙ append_assoc (reverse lines) (line ∷ []) past

-- The course goes on by what they do,
pub course_on : (heading : Heading) (lines past : List Line)
    → course heading (reverse lines ++ past) ≡ after_all heading (departed past) lines (course heading past)
course_on heading [] past = refl
course_on heading (line ∷ lines) past = ap (course heading) (joined line lines past) ∙ course_on heading lines (line ∷ past)

-- and so do the departures.
pub gone_on : (lines past : List Line) → departed (reverse lines ++ past) ≡ gone_after lines (departed past)
gone_on [] past = refl
gone_on (line ∷ lines) past = ap (λ (ls : List Line). departed ls) (joined line lines past) ∙ gone_on lines (line ∷ past)

front_all : (P : Line → Type 0) (front rest : List Line) → AllByRecursion P (front ++ rest) → AllByRecursion P front
front_all P [] rest all = tt
front_all P (line ∷ front) rest all = (all.0, front_all P front rest all.1)

-- the next line stands behind those that were played
stands_next : (heading : Heading) (played : List Line) (line : Line) → IsScript heading (reverse (line ∷ played)) → AllStand heading (line ∷ played)
stands_next heading played line is = subst (AllStand heading) (reverse-reverse (line ∷ played)) is.lines_stand

pub next_fits : (heading : Heading) (played : List Line) (line : Line) → IsScript heading (reverse (line ∷ played))
    → Fits (length heading.clients) played line
next_fits heading played line is = line_fits heading played line (stands_next heading played line is).0

-- Each line that is played in place of the next one can be done.
pub turn_doable : (heading : Heading) (played lines : List Line) (line : Line) → IsScript heading (reverse (line ∷ played))
    → expanded (line ∷ played) ≡ reverse lines ++ expanded played → AllByRecursion (CanDo heading) lines
turn_doable heading played lines line is turned =
    subst (AllByRecursion (CanDo heading)) (reverse-reverse lines)
    (all-reverse (CanDo heading) (reverse lines) (front_all (CanDo heading) (reverse lines) (expanded played)
    (subst (AllByRecursion (CanDo heading)) turned
    (all_doable heading (expanded (line ∷ played)) is.heading (all_stand heading (line ∷ played) (stands_next heading played line is))))))
