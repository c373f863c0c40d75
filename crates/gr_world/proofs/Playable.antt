-- Each line of a script can be played.
use Rattle.std.proofs.lemmas.Bool.{both_ways, cases_lt, eq-eqb}
use Rattle.std.proofs.Common.{◌≡◌, ◌∙◌, refl, sym, subst, ap, eqb, inl, inr, not, ℕ, ◌<◌, List, [], ◌∷◌, ◌++◌, zero, suc, ◌+◌, length, reverse, take, get_or, arith}
use Rattle.std.specs.Prelude.{Option, Some, None}
use Rattle.std.specs.List.{AllByRecursion, All, cons_option}
use Rattle.std.proofs.lemmas.Grind.{reverse_onto}
use Rattle.std.proofs.lemmas.List.{reverse-reverse, take_more}
use Rattle.std.proofs.lemmas.List.Elements.{All-from_recursion, filter_map-append}
use Rattle.gr_script.specs.declared.line.Line.{Line}
use Rattle.gr_script.specs.declared.line.Line.TheVariants.{Step, Deliver, Hear, Sweep, Join, Depart, Leave, Back}
use Rattle.gr_script.specs.declared.line.Line.TheVariants as line
use Rattle.gr_script.specs.Rules.{Heading, IsHeading, IsScript, IsWithin, Differ, StandsAfter, AllStand, home_of}
use Rattle.gr_script.specs.Steps.{departs, departed}
use Rattle.gr_world.proofs.Causal.{home_stated}
use Rattle.gr_world.specs.Worlds.{CanPlay}

-- two numbers that aren't the same aren't the one number up to 1
apart : (one two most : ℕ) → Differ one two → IsWithin 1 most one → IsWithin 1 most two → 1 < most
apart one two most differ first second =
    elim (cases_lt 1 most) [
      | inl more ↦ more
      | inr few ↦
          let same : one ≡ two = omega (arith, few, first.0, first.1, second.0, second.1) in
          absurd (both_ways (not (eqb one two)) (ap not (eq-eqb one two same)) differ)
    ]

-- Departures aside.
pub line_playable : (heading : Heading) (line : Line) (past : List Line) → IsHeading heading → StandsAfter heading past line
    → departs line ≡ None → CanPlay heading line
line_playable heading (Step client seq act) past is stands stays = stands.0
line_playable heading (Deliver to client seq) past is stands stays =
    (stands.0, apart to (home_of heading client) heading.members stands.3 stands.0 (home_stated heading client is stands.1))
line_playable heading (line.Report member) past is stands stays = stands.0
line_playable heading (Hear by of number) past is stands stays = (stands.0, stands.1)
line_playable heading (Sweep member moment) past is stands stays = stands.0
line_playable heading (Join joiner provider) past is stands stays = (omega (arith, stands.0), stands.1)
line_playable heading (Depart member) past is stands stays = absurd (no stays)
  where
    no : Some member ≡ None → ⊥
    no e = cc
line_playable heading (Leave client moment) past is stands stays = tt
line_playable heading (Back client moment) past is stands stays = tt

-- who departed on the first line, and on the others
first_stays : (one : Option ℕ) (rest : List ℕ) → cons_option one rest ≡ [] → (one ≡ None) × (rest ≡ [])
first_stays None rest none = (refl, none)
first_stays (Some member) rest none = absurd (cc)

-- Nobody departs on lines, then nobody does on them backwards.
pub none_departs : (lines : List Line) → departed lines ≡ [] → departed (reverse lines) ≡ []
none_departs [] none = refl
none_departs (line ∷ rest) none =
    let stay = first_stays (departs line) (departed rest) none in
    ap departed (reverse_onto rest line []) ∙ filter_map-append departs (reverse rest) (line ∷ [])
    ∙ ap (λ all. all ++ cons_option (departs line) []) (none_departs rest stay.1) ∙ ap (λ one. cons_option one []) stay.0

all_playable : (heading : Heading) (past : List Line) → IsHeading heading → AllStand heading past → departed past ≡ []
    → AllByRecursion (CanPlay heading) past
all_playable heading [] is all none = tt
all_playable heading (line ∷ past) is all none =
    let stay = first_stays (departs line) (departed past) none in
    (line_playable heading line past is all.0 stay.0, all_playable heading past is all.1 stay.1)

all-append : {X : Type 0} (P : X → Type 0) (xs ys : List X) → AllByRecursion P xs → AllByRecursion P ys → AllByRecursion P (xs ++ ys)
all-append P [] ys all more = more
all-append P (x ∷ xs) ys all more = (all.0, all-append P xs ys all.1 more)

pub all-reverse : {X : Type 0} (P : X → Type 0) (xs : List X) → AllByRecursion P xs → AllByRecursion P (reverse xs)
all-reverse P [] all = tt
all-reverse P (x ∷ xs) all = subst (AllByRecursion P) (sym (reverse_onto xs x []))
    (all-append P (reverse xs) (x ∷ []) (all-reverse P xs all.1) (all.0, tt))

pub lines_playable : (heading : Heading) (lines : List Line) → IsScript heading lines → departed lines ≡ [] → All (CanPlay heading) lines
lines_playable heading lines is none =
    All-from_recursion (CanPlay heading) lines
    (subst (AllByRecursion (CanPlay heading)) (reverse-reverse lines)
    (all-reverse _ (reverse lines) (all_playable heading (reverse lines) is.heading is.lines_stand (none_departs lines none))))

-- What holds of each line holds of the copy of one.
pub copied_line : (P : Line → Type 0) (lines items : List Line) (i : ℕ) (line copied : Line) → All P lines → items ≡ lines → copied ≡ line
    → i < length items → line ≡ get_or items i line → P copied
copied_line P lines items i line copied all same copy less at =
    subst P (sym copy) (subst P (sym at) (subst (All P) (sym same) all i line less))

behind_stands : (heading : Heading) (front past : List Line) → AllStand heading (front ++ past) → AllStand heading past
behind_stands heading [] past all = all
behind_stands heading (line ∷ front) past all = behind_stands heading front past all.1

-- the line that follows those that were played
pub next_playable : (heading : Heading) (played : List Line) (line : Line) → IsScript heading (reverse (line ∷ played))
    → departs line ≡ None → CanPlay heading line
next_playable heading played line is stays =
    line_playable heading line played is.heading (subst (AllStand heading) (reverse-reverse (line ∷ played)) is.lines_stand).0 stays

none_taken : (lines : List Line) (i : ℕ) → departed lines ≡ [] → departed (take i lines) ≡ []
none_taken lines zero none = refl
none_taken [] (suc i) none = refl
none_taken (line ∷ rest) (suc i) none =
    let stay = first_stays (departs line) (departed rest) none in
    ap (λ one. cons_option one (departed (take i rest))) stay.0 ∙ none_taken rest i stay.1

-- Nobody departs on lines, then nobody does on those so far.
pub none_so_far : (lines : List Line) (i : ℕ) → departed lines ≡ [] → departed (reverse (take i lines)) ≡ []
none_so_far lines i none = none_departs (take i lines) (none_taken lines i none)

-- the lines so far, the last one first, with one more
pub one_more : (lines : List Line) (i : ℕ) (line : Line) → i < length lines → line ≡ get_or lines i line
    → reverse (take (i + 1) lines) ≡ line ∷ reverse (take i lines)
one_more lines i line less is =
    ap (λ all. reverse all) (take_more lines i line less ∙ ap (λ one. take i lines ++ one ∷ []) (sym is)) ∙ behind (take i lines)
  where
    behind : (xs : List Line) → reverse (xs ++ line ∷ []) ≡ line ∷ reverse xs
    behind xs = ap (λ all. reverse (all ++ line ∷ [])) (sym (reverse-reverse xs))
        ∙ ap (λ all. reverse all) (sym (reverse_onto (reverse xs) line [])) ∙ reverse-reverse (line ∷ reverse xs)
