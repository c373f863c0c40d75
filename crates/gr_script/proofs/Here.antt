-- Lines on which no client leaves or comes back.
use Rattle.std.proofs.Common.{◌≡◌, ℕ, List, [], ◌∷◌, Bool, true, false, cond, refl, arith}
use Rattle.std.specs.List.{list_any}
use Rattle.std.proofs.lemmas.Bool.{or_parts}
use Rattle.gr_script.specs.declared.attendance.Presence.{Presence}
use Rattle.gr_script.specs.declared.line.Line.{Line}
use Rattle.gr_script.specs.declared.line.Line.TheVariants as line
use Rattle.gr_script.specs.Absence.{after_own, is_own_line, presence, returned}
use Rattle.gr_script.specs.Rules.{Attends, AllAttend}

abbrev pub is_turn : Line → Bool
is_turn (line.Leave client moment) = true
is_turn (line.Back client moment) = true
is_turn _ = false

either : (test : Bool) (after before : Presence) → after.away ≡ false → before.away ≡ false → (cond test after before).away ≡ false
either true after before one two = one
either false after before one two = two

still_here : (client : ℕ) (l : Line) (before : Presence) → is_turn l ≡ false → before.away ≡ false
    → (cond (is_own_line client l) (after_own l before) before).away ≡ false
still_here client (line.Step own seq act) before isnt here = either _ (after_own (line.Step own seq act) before) before here here
still_here client (line.Leave own moment) before isnt here = absurd cc
still_here client (line.Back own moment) before isnt here = absurd cc
still_here client (line.Deliver to of seq) before isnt here = here
still_here client (line.Report member) before isnt here = here
still_here client (line.Hear by of number) before isnt here = here
still_here client (line.Sweep member moment) before isnt here = here
still_here client (line.Join member from) before isnt here = here
still_here client (line.Depart member) before isnt here = here

pub always_here : (client : ℕ) (past : List Line) → list_any is_turn past ≡ false → (presence client past).away ≡ false
always_here client [] none = refl
always_here client (l ∷ past) none =
    let parts = or_parts (is_turn l) (list_any is_turn past) none in
    still_here client l (presence client past) parts.0 (always_here client past parts.1)

attends_here : (past : List Line) (l : Line) → is_turn l ≡ false → ((client : ℕ) → (presence client past).away ≡ false) → Attends past l
attends_here past (line.Step client seq act) isnt here = here client
attends_here past (line.Leave client moment) isnt here = absurd cc
attends_here past (line.Back client moment) isnt here = absurd cc
attends_here past (line.Deliver to client seq) isnt here = tt
attends_here past (line.Report member) isnt here = tt
attends_here past (line.Hear by of number) isnt here = tt
attends_here past (line.Sweep member moment) isnt here = tt
attends_here past (line.Join member from) isnt here = tt
attends_here past (line.Depart member) isnt here = tt

pub all_here : (past : List Line) → list_any is_turn past ≡ false → AllAttend past
all_here [] none = tt
all_here (l ∷ past) none =
    let parts = or_parts (is_turn l) (list_any is_turn past) none in
    (attends_here past l parts.0 (λ client. always_here client past parts.1), all_here past parts.1)

none_more : (l : Line) (past : List Line) → is_turn l ≡ false → returned past ≡ 0 → returned (l ∷ past) ≡ 0
none_more (line.Back client moment) past isnt none = absurd cc
none_more (line.Leave client moment) past isnt none = absurd cc
none_more (line.Step client seq act) past isnt none = omega (arith, none)
none_more (line.Deliver to client seq) past isnt none = omega (arith, none)
none_more (line.Report member) past isnt none = omega (arith, none)
none_more (line.Hear by of number) past isnt none = omega (arith, none)
none_more (line.Sweep member moment) past isnt none = omega (arith, none)
none_more (line.Join member from) past isnt none = omega (arith, none)
none_more (line.Depart member) past isnt none = omega (arith, none)

pub none_returned : (past : List Line) → list_any is_turn past ≡ false → returned past ≡ 0
none_returned [] none = refl
none_returned (l ∷ past) none =
    let parts = or_parts (is_turn l) (list_any is_turn past) none in
    none_more l past parts.0 (none_returned past parts.1)
