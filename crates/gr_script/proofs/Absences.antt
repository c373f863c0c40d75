-- How clients stand, by what is kept of each.
use Rattle.std.proofs.Common.{◌≡◌, ◌∙◌, ℕ, zero, suc, ◌<◌, List, [], ◌∷◌, ◌++◌, Bool, true, false, cond, eqb, get_or, refl, sym, ap, ◌⊎◌, inl, inr}
use Rattle.std.proofs.Common.{◌≢◌}
use Rattle.std.proofs.Common.{Option, slice_get, set, length, arith}
use Rattle.std.specs.Option.{unwrap_or}
use Rattle.std.proofs.lemmas.Bool.{cases_eq, eqb-true, eq-eqb, ne_eqb}
use Rattle.std.proofs.lemmas.Option.{unwrap_or-slice_get}
use Rattle.gr_history.specs.declared.query_ask.QueryAsk.{QueryAsk}
use Rattle.gr_script.specs.declared.attendance.Presence.{Presence}
use Rattle.gr_script.specs.declared.line.Act.{Act}
use Rattle.gr_script.specs.declared.line.Act.TheVariants as act
use Rattle.gr_script.specs.declared.line.Line.{Line}
use Rattle.gr_script.specs.declared.line.Line.TheVariants as line
use Rattle.gr_script.specs.Absence.{IsAttendance, IsSet, AreSame, after_own, at_first, is_own_line, names_after, presence, presence_of}

-- what is kept at a place
pub kept_at : (kept : List Presence) (place : ℕ) (found : Option Presence) → found ≡ slice_get kept place
    → unwrap_or found at_first ≡ get_or kept place at_first
kept_at kept place found is = ap (λ (f : Option Presence). unwrap_or f at_first) is ∙ unwrap_or-slice_get kept place at_first

-- A line of a client leaves it so, and the others as they were.
pub noted : (line : Line) (client : ℕ) (kept now : List Presence) (next : Presence) (past : List Line)
    → ((n : ℕ) → is_own_line n line ≡ eqb client n) → next ≡ after_own line (get_or kept client at_first) → IsSet kept client next now
    → IsAttendance kept past → IsAttendance now (line ∷ past)
noted line client kept now next past own next_is set before n =
    set n ∙ by_case (eqb client n) refl
    ∙ sym (ap (λ (b : Bool). cond b (after_own line (presence n past)) (presence n past)) (own n))
  where
    by_case : (test : Bool) → eqb client n ≡ test
        → cond test next (get_or kept n at_first) ≡ cond test (after_own line (presence n past)) (presence n past)
    by_case true is =
        next_is ∙ ap (after_own line) (before client)
        ∙ ap (λ (m : ℕ). after_own line (presence m past)) (eqb-true client n is)
    by_case false isnt = before n

-- A line that is no client's leaves all as they were.
pub unnoted : (line : Line) (kept : List Presence) (past : List Line) → ((n : ℕ) → is_own_line n line ≡ false)
    → IsAttendance kept past → IsAttendance kept (line ∷ past)
unnoted line kept past own before n =
    before n ∙ sym (ap (λ (b : Bool). cond b (after_own line (presence n past)) (presence n past)) (own n))

-- A step that is none on a query leaves its client as it was.
pub kept_so : (line : Line) (kept : List Presence) (past : List Line) → ((before : Presence) → after_own line before ≡ before)
    → IsAttendance kept past → IsAttendance kept (line ∷ past)
kept_so line kept past same before n = before n ∙ sym (either (is_own_line n line))
  where
    either : (test : Bool) → cond test (after_own line (presence n past)) (presence n past) ≡ presence n past
    either true = same (presence n past)
    either false = refl

pub same_attendance : (kept now : List Presence) (past : List Line) → AreSame kept now → IsAttendance kept past → IsAttendance now past
same_attendance kept now past same before n = same n ∙ before n

-- ---- what is kept, client by client

-- A client that nothing was said of stands as at first.
pub one_more : (kept : List Presence) (n : ℕ) → get_or (kept ++ at_first ∷ []) n at_first ≡ get_or kept n at_first
one_more [] zero = refl
one_more [] (suc n) = refl
one_more (first ∷ kept) zero = refl
one_more (first ∷ kept) (suc n) = one_more kept n

pub is_set : (kept : List Presence) (client : ℕ) (next : Presence) → client < length kept → IsSet kept client next (set kept client next)
is_set [] client next within n = absurd (omega (arith, within))
is_set (first ∷ kept) zero next within zero = refl
is_set (first ∷ kept) zero next within (suc n) =
    ap (λ (b : Bool). cond b next (get_or kept n at_first)) (sym (ne_eqb zero (suc n) (λ same. absurd (omega (arith, same)))))
is_set (first ∷ kept) (suc client) next within zero =
    ap (λ (b : Bool). cond b next first) (sym (ne_eqb (suc client) zero (λ same. absurd (omega (arith, same)))))
is_set (first ∷ kept) (suc client) next within (suc n) =
    is_set kept client next (omega (arith, within)) n
    ∙ ap (λ (b : Bool). cond b next (get_or kept n at_first)) (either (cases_eq client n))
  where
    either : (client ≡ n) ⊎ (client ≢ n) → eqb client n ≡ eqb (suc client) (suc n)
    either (inl same) = eq-eqb client n same ∙ sym (eq-eqb (suc client) (suc n) (ap suc same))
    either (inr apart) = ne_eqb client n apart ∙ sym (ne_eqb (suc client) (suc n) (λ same. apart (omega (arith, same))))

-- ---- the lines that change how a client stands

pub asks_so : (client seq : ℕ) (ask : QueryAsk) (kept now : List Presence) (past : List Line)
    → IsSet kept client (presence_of (get_or kept client at_first).away (get_or kept client at_first).moment
    (names_after (act.Query ask) (get_or kept client at_first).names)) now
    → IsAttendance kept past → IsAttendance now (line.Step client seq (act.Query ask) ∷ past)
asks_so client seq ask kept now past set before = noted (line.Step client seq (act.Query ask)) client kept now _ past (λ n. refl) refl set before

-- a step that is none on a query
pub step_so : (client seq : ℕ) (done : Act) (kept : List Presence) (past : List Line)
    → ((names : List (List ℕ)) → names_after done names ≡ names)
    → IsAttendance kept past → IsAttendance kept (line.Step client seq done ∷ past)
step_so client seq done kept past same before =
    kept_so (line.Step client seq done) kept past
    (λ stands. ap (λ (names : List (List ℕ)). presence_of stands.away stands.moment names) (same stands.names)) before

-- where nothing changes
pub set_so : (kept : List Presence) (client : ℕ) → IsSet kept client (get_or kept client at_first) kept
set_so kept client n = either (eqb client n) refl
  where
    either : (test : Bool) → eqb client n ≡ test
        → get_or kept n at_first ≡ cond test (get_or kept client at_first) (get_or kept n at_first)
    either true is = ap (λ (m : ℕ). get_or kept m at_first) (sym (eqb-true client n is))
    either false isnt = refl

pub both_none : (test : Bool) → cond {A = List (List ℕ)} test [] [] ≡ []
both_none true = refl
both_none false = refl
