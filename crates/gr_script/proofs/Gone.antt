-- The members that departed and the reports that are heard, by the lines and by what they say.
use Rattle.std.proofs.Common.{◌≡◌, ◌∙◌, ℕ, ◌+◌, ◌*◌, ◌^◌, ◌≤◌, ◌<◌, ◌==◌, List, [], ◌∷◌, Bool, true, false, not, ◌||◌, ◌&&◌, cond, eqb, length}
use Rattle.std.proofs.Common.{Option, Some, None, refl, sym, ap, arith}
use Rattle.std.specs.List.{cons_option, count_by}
use Rattle.std.specs.Option.{is_some, option_map_or}
use Rattle.std.proofs.lemmas.List.Sums.{sum_by-cons, count_by-le-length}
use Rattle.gr_script.specs.declared.forms.LineKind.{LineKind}
use Rattle.gr_script.specs.declared.forms.LineKind.TheVariants as kind
use Rattle.gr_script.specs.declared.line.Line.{Line}
use Rattle.gr_script.specs.declared.line.Line.TheVariants as line
use Rattle.gr_script.specs.declared.saying.Saying.{Saying}
use Rattle.gr_script.specs.declared.tally.Tallies.{Tallies}
use Rattle.gr_script.specs.Forms.{is_kind, is_step}
use Rattle.gr_script.specs.Past.{count_of, departs, heard_on, hears, number}
use Rattle.gr_script.specs.Refusals.{is_gone as is_gone_said}
use Rattle.gr_script.specs.Rules.{Heading, home_of, NamesStaying, AllNameStaying}
use Rattle.gr_script.specs.Said.{line_of, lines_said}
use Rattle.gr_script.specs.Steps as lines
use Rattle.gr_script.specs.Tallies.{AreTallied, HasRoom, count_in}
use Rattle.gr_script.specs.Limits.{most_lines}
use Rattle.gr_script.proofs.Follows.{AllFollow}
use Rattle.gr_script.proofs.Tallied.{Marks, line_marks, form_marks, said_marks, is_depart_of, says_its_kind, tallied}

-- ---- who departed

one_more : (first : Option ℕ) (rest : List ℕ) → length (cons_option first rest) ≡ cond (is_some first) 1 0 + length rest
one_more None rest = omega arith
one_more (Some first) rest = omega arith

count_departed : (all : List Line) → length (lines.departed all) ≡ count_by (λ l. is_some (lines.departs l)) all
count_departed [] = refl
count_departed (l ∷ past) =
    one_more (lines.departs l) (lines.departed past)
    ∙ ap (λ (n : ℕ). cond (is_some (lines.departs l)) 1 0 + n) (count_departed past)
    ∙ sym (sum_by-cons (λ (l : Line). cond (is_some (lines.departs l)) 1 0) l past)

-- As many as lines say so.
pub departed_said : (past : List Saying) → AllFollow past → length (lines.departed (lines_said past)) ≡ count_of kind.Depart past
departed_said past all = count_departed (lines_said past) ∙ tallied (λ m. m.depart) 0 past refl all

one_gone : (member : ℕ) (first : Option ℕ) (rest : List ℕ)
    → lines.is_gone (cons_option first rest) member ≡ (option_map_or (λ of. of == member) first false || lines.is_gone rest member)
one_gone member None rest = refl
one_gone member (Some first) rest = refl

either_counts : (test : Bool) (count : ℕ) → (test || not (eqb count 0)) ≡ not (eqb (cond test 1 0 + count) 0)
either_counts true count = grind arith
either_counts false count = grind arith

gone_counted : (member : ℕ) (all : List Line)
    → lines.is_gone (lines.departed all) member ≡ not (eqb (count_by (is_depart_of member) all) 0)
gone_counted member [] = refl
gone_counted member (l ∷ past) =
    one_gone member (lines.departs l) (lines.departed past)
    ∙ ap (λ (b : Bool). is_depart_of member l || b) (gone_counted member past)
    ∙ either_counts (is_depart_of member l) (count_by (is_depart_of member) past)
    ∙ ap (λ (n : ℕ). not (eqb n 0)) (sym (sum_by-cons (λ (l : Line). cond (is_depart_of member l) 1 0) l past))

-- A member departed by the lines where one says so.
pub gone_said : (past : List Saying) → AllFollow past → (member : ℕ)
    → lines.is_gone (lines.departed (lines_said past)) member ≡ is_gone_said member past
gone_said past all member =
    gone_counted member (lines_said past) ∙ ap (λ (n : ℕ). not (eqb n 0)) (tallied (λ m. m.depart_of) member past refl all)

-- ---- where none departs

none_left : (first : Option ℕ) (rest : List ℕ) → cons_option first rest ≡ [] → rest ≡ []
none_left None rest none = none
none_left (Some first) rest none = absurd cc

names_staying : (h : Heading) (past : List Line) (l : Line) → lines.departed past ≡ [] → NamesStaying h past l
names_staying h past (line.Step client seq act) none = ap (λ (gone : List ℕ). lines.is_gone gone (home_of h client)) none
names_staying h past (line.Deliver to client seq) none = ap (λ (gone : List ℕ). lines.is_gone gone to) none
names_staying h past (line.Report member) none = ap (λ (gone : List ℕ). lines.is_gone gone member) none
names_staying h past (line.Hear by of number) none = ap (λ (gone : List ℕ). lines.is_gone gone by) none
names_staying h past (line.Sweep member moment) none = ap (λ (gone : List ℕ). lines.is_gone gone member) none
names_staying h past (line.Join member from) none =
    (ap (λ (gone : List ℕ). lines.is_gone gone member) none, ap (λ (gone : List ℕ). lines.is_gone gone from) none)
names_staying h past (line.Depart member) none = ap (λ (gone : List ℕ). lines.is_gone gone member) none
names_staying h past (line.Leave client moment) none = ap (λ (gone : List ℕ). lines.is_gone gone (home_of h client)) none
names_staying h past (line.Back client moment) none = ap (λ (gone : List ℕ). lines.is_gone gone (home_of h client)) none

-- Lines of which none departs a member name none that departed.
pub all_staying : (h : Heading) (past : List Line) → lines.departed past ≡ [] → AllNameStaying h past
all_staying h [] none = tt
all_staying h (l ∷ past) none =
    let before = none_left (lines.departs l) (lines.departed past) none in
    (names_staying h past l before, all_staying h past before)

-- ---- how many reports are heard

abbrev heard_by : Marks → ℕ → ℕ
heard_by marks gone = cond marks.hear 1 (cond marks.sweep gone 0)

heard_on_line : (past : List Line) (l : Line) → lines.heard_on past l ≡ heard_by (line_marks 0 l) (length (lines.departed past))
heard_on_line past (line.Step client seq act) = refl
heard_on_line past (line.Deliver to client seq) = refl
heard_on_line past (line.Report member) = refl
heard_on_line past (line.Hear by of number) = refl
heard_on_line past (line.Sweep member moment) = refl
heard_on_line past (line.Join member from) = refl
heard_on_line past (line.Depart member) = refl
heard_on_line past (line.Leave client moment) = refl
heard_on_line past (line.Back client moment) = refl

heard_more : (l : Option Line) (past : List Line)
    → lines.hears (cons_option l past) ≡ heard_by (said_marks 0 l) (length (lines.departed past)) + lines.hears past
heard_more None past = omega arith
heard_more (Some l) past = ap (λ (n : ℕ). n + lines.hears past) (heard_on_line past l)

-- As many by the lines as by what they say.
pub hears_said : (past : List Saying) → AllFollow past → lines.hears (lines_said past) ≡ hears past
hears_said [] all = refl
hears_said (saying ∷ past) all =
    let gone = length (lines.departed (lines_said past)) in
    heard_more (line_of past saying) (lines_said past)
    ∙ ap (λ (m : Marks). heard_by m gone + lines.hears (lines_said past)) (says_its_kind 0 past saying all.0)
    ∙ ap (λ (n : ℕ). heard_by (form_marks 0 saying.kind saying.items) n + lines.hears (lines_said past)) (departed_said past all.1)
    ∙ ap (λ (n : ℕ). heard_on past saying.kind + n) (hears_said past all.1)

heard_few : (past : List Saying) (form : LineKind) → heard_on past form ≤ 1 + length past
heard_few past form =
    let within = count_by-le-length (λ (l : Saying). is_kind kind.Depart l.kind) past in
    at_tests (is_kind kind.Hear form) (is_kind kind.Sweep form) within
  where
    at_tests : (hear sweep : Bool) → count_of kind.Depart past ≤ length past
        → cond hear 1 (cond sweep (count_of kind.Depart past) 0) ≤ 1 + length past
    at_tests true sweep within = omega arith
    at_tests false true within = omega (arith, within)
    at_tests false false within = omega arith

-- So few that they can be counted.
pub hears_few : (past : List Saying) → length past ≤ most_lines → hears past ≤ length past * 200001
hears_few [] few = omega arith
hears_few (saying ∷ past) few =
    let rest = hears_few past (omega (arith, few)) in
    let first = heard_few past saying.kind in
    omega (arith, few, rest, first)

-- What is counted has room for one line more.
pub tallies_fit : (past : List Saying) (tallies : Tallies) → length past < most_lines → AreTallied tallies past
    → (n : ℕ) → HasRoom n tallies
tallies_fit past tallies few is n = record {
  steps = fits (λ l. is_step l.kind && eqb (number 0 l.items) n) (count_in tallies.steps n) (is.steps n);
  reports = fits (λ l. is_kind kind.Report l.kind && eqb (number 0 l.items) n) (count_in tallies.reports n) (is.reports n);
  joins = fits (λ l. is_kind kind.Join l.kind && eqb (number 0 l.items) n) (count_in tallies.joins n) (is.joins n);
  gifts = fits (λ l. is_kind kind.Join l.kind && eqb (number 1 l.items) n) (count_in tallies.gifts n) (is.gifts n);
  departs = fits (λ l. is_kind kind.Depart l.kind && eqb (number 0 l.items) n) (count_in tallies.departs n) (is.departs n);
}
  where
    fits : (holds : Saying → Bool) (count : ℕ) → count ≡ count_by holds past → count + 1 < 2 ^ 32
    fits holds count is =
        let within = count_by-le-length holds past in
        omega (arith, is, within, few)

-- ---- where no line says that a member departs

-- Where none departed at all, this one didn't.
pub none_gone : (member : ℕ) (past : List Saying) → count_of kind.Depart past ≡ 0 → is_gone_said member past ≡ false
none_gone member past none =
    ap (λ (n : ℕ). not (eqb n 0)) (no_more (departs member past) (fewer past) none)
  where
    no_more : (few : ℕ) → few ≤ count_of kind.Depart past → count_of kind.Depart past ≡ 0 → few ≡ 0
    no_more few within none = omega (arith, within, none)

    either : (one two : Bool) → cond {A = ℕ} (one && two) 1 0 ≤ cond one 1 0
    either true true = omega arith
    either true false = omega arith
    either false two = omega arith

    fewer : (past : List Saying) → departs member past ≤ count_of kind.Depart past
    fewer [] = omega arith
    fewer (saying ∷ past) =
        let first = either (is_kind kind.Depart saying.kind) (eqb (number 0 saying.items) member) in
        let rest = fewer past in
        let here = sum_by-cons (λ (l : Saying). cond (is_kind kind.Depart l.kind && eqb (number 0 l.items) member) 1 0) saying past in
        let all = sum_by-cons (λ (l : Saying). cond (is_kind kind.Depart l.kind) 1 0) saying past in
        omega (arith, first, rest, here, all)
