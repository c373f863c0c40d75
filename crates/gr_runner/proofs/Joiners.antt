-- What a script says of members that join, and what they are to be given.
use Rattle.std.proofs.Common.{◌≡◌, ◌≢◌, ℕ, ◌+◌, ◌<◌, ◌≤◌, ◌==◌, ◌&&◌, Bool, true, false, not, List, [], ◌∷◌, ◌++◌, length, Option, Some, None}
use Rattle.std.proofs.Common.{refl, sym, ap, ◌∙◌, subst, arith, inl, inr, reverse, if◌then◌else◌, eqb-true, cond, append-nil}
use Rattle.std.specs.List.{filter_map, cons_option}
use Rattle.std.proofs.lemmas.Bool.Decides.{nat_tests}
use Rattle.std.proofs.lemmas.Grind.{reverse_onto}
use Rattle.std.proofs.lemmas.List.{length-reverse, reverse-reverse}
use Rattle.std.proofs.lemmas.List.Elements.{filter_map-append}
use Rattle.gr_history.specs.declared.image.What.TheVariants as what
use Rattle.gr_law.specs.Grids.{Among}
use Rattle.gr_law.proofs.Images.{among_filter_map}
use Rattle.gr_law.proofs.Lists.{among_reverse}
use Rattle.gr_script.specs.declared.line.Line.{Line}
use Rattle.gr_script.specs.declared.line.Line.TheVariants as line
use Rattle.gr_script.specs.Rules.{AllStand, Heading, IsMember, IsScript, IsWithin, StandsAfter}
use Rattle.gr_script.specs.Steps.{is_join_of, joins_of}
use Rattle.gr_world.specs.Courses.{what_from}
use Rattle.gr_run_law.specs.Duties.{gift_due}
use Rattle.gr_run_law.proofs.Closed.{join_line}
use Rattle.gr_run_law.proofs.Genuine.{joins_few}
use Rattle.gr_run_law.proofs.Lists.{count_cons, none_isnt_some, same_in_some, same_number, true_false}

pub stands_among : (h : Heading) (past : List Line) (l : Line) → AllStand h past → Among l past → (earlier : List Line) × StandsAfter h earlier l
stands_among h [] l all a = absurd a
stands_among h (first ∷ past) l all (inl is) = (past, subst (StandsAfter h past) (sym is) all.0)
stands_among h (first ∷ past) l all (inr a) = stands_among h past l all.1 a

-- A member that a line has join isn't a founder, and the provider is one.
pub record IsJoiner (heading : Heading) (joiner provider : ℕ) : Type 0 where
  pub behind : heading.founders < joiner
  pub stated : IsMember heading joiner
  pub founder : IsWithin 1 heading.founders provider

pub line_joins : (heading : Heading) (lines : List Line) (joiner provider : ℕ) → IsScript heading lines
    → Among (line.Join joiner provider) lines → IsJoiner heading joiner provider
line_joins heading lines joiner provider script a =
    let back = subst (Among (line.Join joiner provider)) (sym (reverse-reverse lines)) a in
    let s = stands_among heading (reverse lines) (line.Join joiner provider) script.lines_stand
    (among_reverse (line.Join joiner provider) (reverse lines) back) in
    let behind = s.1.0 in
    record { behind = s.1.0; stated = (omega (arith, behind), s.1.1); founder = s.1.2 }

pub joiner_is : (heading : Heading) (lines : List Line) (joiner : ℕ) → IsScript heading lines → joins_of joiner lines ≢ 0
    → (provider : ℕ) × IsJoiner heading joiner provider
joiner_is heading lines joiner script some =
    let l = join_line joiner lines some in (l.0, line_joins heading lines joiner l.0 script l.1)

some_not : (n : ℕ) → (n == 0) ≡ false → n ≢ 0
some_not n some none = grind (arith, nat_tests)

-- No line has a founder join.
pub founder_stays : (heading : Heading) (lines : List Line) (member : ℕ) → IsScript heading lines → member ≤ heading.founders
    → false ≡ not (joins_of member lines == 0)
founder_stays heading lines member script founder = either (joins_of member lines == 0) refl
  where
    either : (none : Bool) → (joins_of member lines == 0) ≡ none → false ≡ not none
    either true e = refl
    either false e =
        let behind = (joiner_is heading lines member script (some_not (joins_of member lines) e)).1.behind in
        absurd (omega (arith, founder, behind))

-- ---- what is due

pub filter_turned : {X Y : Type 0} (f : X → Option Y) (xs : List X) → filter_map f (reverse xs) ≡ reverse (filter_map f xs)
filter_turned f [] = refl
filter_turned {Y = Y} f (x ∷ xs) =
    ap (filter_map f) (reverse_onto xs x []) ∙ filter_map-append f (reverse xs) (x ∷ [])
    ∙ ap (λ l. l ++ cons_option (f x) []) (filter_turned f xs) ∙ at_value (f x)
  where
    at_value : (o : Option Y) → reverse (filter_map f xs) ++ cons_option o [] ≡ reverse (cons_option o (filter_map f xs))
    at_value None = append-nil (reverse (filter_map f xs))
    at_value (Some y) = sym (reverse_onto (filter_map f xs) y [])

pub few_due : (giver joiner : ℕ) (past : List Line) → length (filter_map (gift_due giver joiner) past) ≤ joins_of joiner past
few_due giver joiner [] = omega arith
few_due giver joiner (line.Step client seq act ∷ past) = few_due giver joiner past
few_due giver joiner (line.Deliver to client seq ∷ past) = few_due giver joiner past
few_due giver joiner (line.Report of ∷ past) = few_due giver joiner past
few_due giver joiner (line.Hear by of number ∷ past) = few_due giver joiner past
few_due giver joiner (line.Sweep of moment ∷ past) = few_due giver joiner past
few_due giver joiner (line.Depart of ∷ past) = few_due giver joiner past
few_due giver joiner (line.Leave client moment ∷ past) = few_due giver joiner past
few_due giver joiner (line.Back client moment ∷ past) = few_due giver joiner past
few_due giver joiner (line.Join to provider ∷ past) =
    let c = count_cons (is_join_of joiner) (line.Join to provider) past in
    let t = at_test (to == joiner) (not (giver == joiner)) (few_due giver joiner past) in omega arith
  where
    at_test : (b d : Bool) → length (filter_map (gift_due giver joiner) past) ≤ joins_of joiner past
        → length (cons_option (if b && d then Some (what_from (giver == provider)) else None) (filter_map (gift_due giver joiner) past))
        ≤ cond b 1 0 + joins_of joiner past
    at_test true true le = omega arith
    at_test true false le = omega arith
    at_test false d le = omega arith

empty_list : {A : Type 0} (xs : List A) → length xs ≤ 0 → xs ≡ []
empty_list [] le = refl
empty_list (x ∷ xs) le = absurd (omega (arith, le))

pub none_due : (giver joiner : ℕ) (lines : List Line) → joins_of joiner lines ≡ 0 → filter_map (gift_due giver joiner) lines ≡ []
none_due giver joiner lines none =
    let few = few_due giver joiner lines in empty_list (filter_map (gift_due giver joiner) lines) (omega (arith, few, none))

-- to each joiner at most one gift of each member is due
pub due_once : (heading : Heading) (lines : List Line) (giver joiner : ℕ) → IsScript heading lines
    → length (filter_map (gift_due giver joiner) lines) ≤ 1
due_once heading lines giver joiner script =
    let few = few_due giver joiner (reverse lines) in
    let one = joins_few heading joiner (reverse lines) script.lines_stand in
    let same = ap length (filter_turned (gift_due giver joiner) lines) ∙ length-reverse (filter_map (gift_due giver joiner) lines) in
    omega (arith, few, one, same)

-- a joiner gives itself nothing
pub own_due : (joiner : ℕ) (lines : List Line) → filter_map (gift_due joiner joiner) lines ≡ []
own_due joiner [] = refl
own_due joiner (line.Step client seq act ∷ lines) = own_due joiner lines
own_due joiner (line.Deliver to client seq ∷ lines) = own_due joiner lines
own_due joiner (line.Report of ∷ lines) = own_due joiner lines
own_due joiner (line.Hear by of number ∷ lines) = own_due joiner lines
own_due joiner (line.Sweep of moment ∷ lines) = own_due joiner lines
own_due joiner (line.Depart of ∷ lines) = own_due joiner lines
own_due joiner (line.Leave client moment ∷ lines) = own_due joiner lines
own_due joiner (line.Back client moment ∷ lines) = own_due joiner lines
own_due joiner (line.Join to provider ∷ lines) = at_test (to == joiner) (joiner == joiner) (same_number joiner) (own_due joiner lines)
  where
    at_test : (b d : Bool) → d ≡ true → filter_map (gift_due joiner joiner) lines ≡ []
        → cons_option (if b && not d then Some (what_from (joiner == provider)) else None) (filter_map (gift_due joiner joiner) lines) ≡ []
    at_test true true e none = none
    at_test false true e none = none
    at_test b false e none = absurd (true_false (sym e))

-- an image is due of the provider alone
pub image_due : (giver joiner : ℕ) (lines : List Line) → Among what.Image (filter_map (gift_due giver joiner) lines)
    → Among (line.Join joiner giver) lines
image_due giver joiner lines a =
    let f = among_filter_map (gift_due giver joiner) what.Image lines a in
    subst (λ l. Among l lines) (at_line f.0 f.2) f.1
  where
    none : {X : Type 0} → None ≡ Some what.Image → X
    none e = absurd (none_isnt_some what.Image e)

    image_from : (b : Bool) → Some (what_from b) ≡ Some what.Image → b ≡ true
    image_from true e = refl
    image_from false e = absurd (differ (same_in_some what.Own what.Image e))
      where
        differ : what.Own ≡ what.Image → ⊥
        differ e = cc

    at_test : (to provider : ℕ) (b d : Bool) → (to == joiner) ≡ b
        → (if b && d then Some (what_from (giver == provider)) else None) ≡ Some what.Image → line.Join to provider ≡ line.Join joiner giver
    at_test to provider true true e g =
        let same = eqb-true to joiner e in
        let from = eqb-true giver provider (image_from (giver == provider) g) in
        ap (λ (n : ℕ). line.Join n provider) same ∙ ap (λ (n : ℕ). line.Join joiner n) (sym from)
    at_test to provider true false e g = none g
    at_test to provider false d e g = none g

    at_line : (l : Line) → gift_due giver joiner l ≡ Some what.Image → l ≡ line.Join joiner giver
    at_line (line.Step client seq act) g = none g
    at_line (line.Deliver to client seq) g = none g
    at_line (line.Report of) g = none g
    at_line (line.Hear by of number) g = none g
    at_line (line.Sweep of moment) g = none g
    at_line (line.Depart of) g = none g
    at_line (line.Leave client moment) g = none g
    at_line (line.Back client moment) g = none g
    at_line (line.Join to provider) g = at_test to provider (to == joiner) (not (giver == joiner)) refl g
