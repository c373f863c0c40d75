-- What is kept of reports is what a history says of them.
use Rattle.std.proofs.Common.{◌≡◌, ◌∙◌, ap, sym, Bool, true, false, refl, ℕ, zero, suc, ◌+◌, ◌-◌, ◌<◌, ◌≤◌, List, [], ◌∷◌, ◌&&◌, ◌||◌, not, ◌==◌, Option, Some, None, arith}
use Rattle.std.specs.Prelude.{slice_index_or, nat_le}
use Rattle.gr_vector.specs.declared.report.Report.{Report}
use Rattle.gr_vector.specs.Ids.{Id, has_id, covers}
use Rattle.gr_vector.proofs.Order.{has_united}
use Rattle.gr_history.specs.declared.identity.Identity.{Identity}
use Rattle.gr_history.specs.declared.deed.Deed.{Deed}
use Rattle.gr_history.specs.declared.deed.Deed.TheVariants.{Call, Asked, Taken, Gave, Imaged, Reported, Heard, Swept}
use Rattle.gr_history.specs.Ids.{ids, known}
use Rattle.gr_history.specs.Recipients.{gave_to, is_in_bits}
use Rattle.gr_history.specs.Stable.{last_heard, is_covered, is_named, is_named_upto, is_counting, is_stable_upto, is_stable}
use Rattle.gr_stable.specs.Heard.{heard, heard_from, heard_after, with_report_from, Reports, is_named_by, is_counting_by, is_passed, is_stable_by, is_stable_now}

heard_more : (member n : ℕ) (report : Report) (past : List Deed)
    → heard_from member n (Heard report ∷ past) ≡ with_report_from member report (heard_from member n past)
heard_more member zero report past = refl
heard_more member (suc n) report past = ap (λ rest. last_heard member (Heard report ∷ past) ∷ rest) (heard_more (suc member) n report past)

-- the same, where a deed tells of no report
heard_as : (deed : Deed) (past : List Deed) → ((member : ℕ) → last_heard member (deed ∷ past) ≡ last_heard member past)
    → (member n : ℕ) → heard_from member n (deed ∷ past) ≡ heard_from member n past
heard_as deed past same member zero = refl
heard_as deed past same member (suc n) =
    ap (λ first. first ∷ heard_from (suc member) n (deed ∷ past)) (same member)
    ∙ ap (λ rest. last_heard member past ∷ rest) (heard_as deed past same (suc member) n)

-- The reports that count go on by the deeds.
pub heard_next : (deed : Deed) (past : List Deed) → heard (deed ∷ past) ≡ heard_after deed (heard past)
unfolding heard
heard_next (Call client to seq ask reply made) past = heard_as (Call client to seq ask reply made) past (λ member. refl) 1 8
heard_next (Asked client seq ask reply) past = heard_as (Asked client seq ask reply) past (λ member. refl) 1 8
heard_next (Taken change verdict) past = heard_as (Taken change verdict) past (λ member. refl) 1 8
heard_next (Gave to what) past = heard_as (Gave to what) past (λ member. refl) 1 8
heard_next (Imaged image) past = heard_as (Imaged image) past (λ member. refl) 1 8
heard_next (Reported report) past = heard_as (Reported report) past (λ member. refl) 1 8
heard_next (Heard report) past = heard_more 1 8 report past
heard_next (Swept moment expired) past = heard_as (Swept moment expired) past (λ member. refl) 1 8

kept_at : (member n place : ℕ) (past : List Deed) → place < n
    → slice_index_or (heard_from member n past) place None ≡ last_heard (member + place) past
kept_at member zero place past lt = absurd (omega (arith, lt))
kept_at member (suc n) zero past lt = ap (λ m. last_heard m past) (one member)
  where
    one : (m : ℕ) → m ≡ m + 0
    one m = omega arith
kept_at member (suc n) (suc place) past lt = kept_at (suc member) n place past (omega (arith, lt)) ∙ ap (λ m. last_heard m past)
    (next member place)
  where
    next : (m k : ℕ) → suc m + k ≡ m + suc k
    next m k = omega arith

-- the report of each member is kept at its place
pub report_kept : (place : ℕ) (past : List Deed) → place < 8 → slice_index_or (heard past) place None ≡ last_heard (suc place) past
unfolding heard
report_kept place past lt = kept_at 1 8 place past lt ∙ ap (λ m. last_heard m past) (one_more place)
  where
    one_more : (n : ℕ) → 1 + n ≡ suc n
    one_more n = omega arith

covers_same : (member n : ℕ) (xs ys : List Id) → ((id : Id) → has_id id xs ≡ has_id id ys) → covers member n xs ≡ covers member n ys
covers_same member zero xs ys same = refl
covers_same member (suc n) xs ys same =
    ap (λ b. b && covers member n xs) (same (record { member = member; rv = suc n }))
    ∙ ap (λ b. has_id (record { member = member; rv = suc n }) ys && b) (covers_same member n xs ys same)

covered_same : (member : ℕ) (tombstone : Id) (o : Option Report) (xs ys : List Id) → ((id : Id) → has_id id xs ≡ has_id id ys)
    → is_covered member tombstone o xs ≡ is_covered member tombstone o ys
covered_same member tombstone None xs ys same = refl
covered_same member tombstone (Some report) xs ys same =
    ap (λ b. has_id tombstone report.vector.ids && b) (covers_same member report.own xs ys same)

named_upto : (member n : ℕ) (past : List Deed) → n ≤ 8 → is_named_by member n (heard past) ≡ is_named_upto member n past
named_upto member zero past le = refl
named_upto member (suc n) past le =
    ap (λ o. is_named member o || is_named_by member n (heard past)) (report_kept n past (omega (arith, le)))
    ∙ ap (λ b. is_named member (last_heard (suc n) past) || b) (named_upto member n past (omega (arith, le)))

-- what is kept says of each member whether it was given something
abbrev pub AreGiven : ℕ → List Deed → Type 0
AreGiven given past = (member : ℕ) → 1 ≤ member → member ≤ 8 → is_in_bits member given ≡ gave_to member past

counting_is : (founders given member : ℕ) (past : List Deed) → founders ≤ 8 → AreGiven given past → 1 ≤ member → member ≤ 8
    → is_counting_by founders given member (heard past) ≡ is_counting founders member past
counting_is founders given member past few are from to =
    ap (λ b. nat_le member founders || (b || is_named_by member founders (heard past))) (are member from to)
    ∙ ap (λ b. nat_le member founders || (gave_to member past || b)) (named_upto member founders past few)

stable_upto : (me founders given n : ℕ) (tombstone : Id) (past : List Deed) → founders ≤ 8 → AreGiven given past → n ≤ 8
    → is_stable_by me founders given n tombstone (heard past) (known past) ≡ is_stable_upto me founders n tombstone past
stable_upto me founders given zero tombstone past few are le = refl
stable_upto me founders given (suc n) tombstone past few are le =
    ap (λ o. (suc n == me || (not (is_counting_by founders given (suc n) (heard past)) || is_covered (suc n) tombstone o (known past)))
    && is_stable_by me founders given n tombstone (heard past) (known past))
    (ap (λ k. slice_index_or (heard past) k None) (one_less n) ∙ report_kept n past (omega (arith, le)))
    ∙ ap (λ b. (suc n == me || (not b || is_covered (suc n) tombstone (last_heard (suc n) past) (known past)))
    && is_stable_by me founders given n tombstone (heard past) (known past))
    (counting_is founders given (suc n) past few are (omega arith) (omega (arith, le)))
    ∙ ap (λ b. (suc n == me || (not (is_counting founders (suc n) past) || b))
    && is_stable_by me founders given n tombstone (heard past) (known past))
    (covered_same (suc n) tombstone (last_heard (suc n) past) (known past) (ids past) (λ id. has_united id [] (ids past)))
    ∙ ap (λ b. (suc n == me || (not (is_counting founders (suc n) past)
    || is_covered (suc n) tombstone (last_heard (suc n) past) (ids past))) && b)
    (stable_upto me founders given n tombstone past few are (omega (arith, le)))
  where
    one_less : (n : ℕ) → suc n - 1 ≡ n
    one_less n = omega arith

-- A tombstone is stable by what is kept exactly where it is by the history.
pub stable_is : (id : Identity) (given : ℕ) (tombstone : Id) (past : List Deed) → id.founders ≤ 8 → AreGiven given past
    → is_stable_now id.member id.founders given tombstone (heard past) (known past) ≡ is_stable id tombstone past
unfolding is_stable_now is_stable
stable_is id given tombstone past few are = stable_upto id.member id.founders given 8 tombstone past few are (omega arith)

-- one member more
pub stable_step : (me founders given member : ℕ) (tombstone : Id) (reports : Reports) (ids : List Id) → 1 ≤ member
    → is_stable_by me founders given member tombstone reports ids
    ≡ (is_passed me founders given tombstone reports ids member && is_stable_by me founders given (member - 1) tombstone reports ids)
stable_step me founders given zero tombstone reports ids from = absurd (omega (arith, from))
stable_step me founders given (suc n) tombstone reports ids from =
    ap (λ k. is_passed me founders given tombstone reports ids (suc n) && is_stable_by me founders given k tombstone reports ids)
    (one_less n)
  where
    one_less : (n : ℕ) → n ≡ suc n - 1
    one_less n = omega arith

-- where a member holds it back, or doesn't
pub stable_fails : (me founders given member : ℕ) (tombstone : Id) (reports : Reports) (ids : List Id) (all : Bool) → 1 ≤ member
    → is_passed me founders given tombstone reports ids member ≡ false
    → is_stable_by me founders given member tombstone reports ids ≡ all → false ≡ all
stable_fails me founders given member tombstone reports ids all from held so_far =
    sym (stable_step me founders given member tombstone reports ids from
    ∙ ap (λ b. b && is_stable_by me founders given (member - 1) tombstone reports ids) held)
    ∙ so_far

pub stable_goes_on : (me founders given member : ℕ) (tombstone : Id) (reports : Reports) (ids : List Id) (all : Bool) → 1 ≤ member
    → is_passed me founders given tombstone reports ids member ≡ true
    → is_stable_by me founders given member tombstone reports ids ≡ all
    → is_stable_by me founders given (member - 1) tombstone reports ids ≡ all
stable_goes_on me founders given member tombstone reports ids all from passed so_far =
    sym (stable_step me founders given member tombstone reports ids from
    ∙ ap (λ b. b && is_stable_by me founders given (member - 1) tombstone reports ids) passed)
    ∙ so_far

pub stable_none : (me founders given member : ℕ) (tombstone : Id) (reports : Reports) (ids : List Id) → member ≡ 0
    → is_stable_by me founders given member tombstone reports ids ≡ true
stable_none me founders given member tombstone reports ids none =
    ap (λ k. is_stable_by me founders given k tombstone reports ids) none

pub stable_all : (me founders given : ℕ) (tombstone : Id) (reports : Reports) (ids : List Id)
    → is_stable_by me founders given 8 tombstone reports ids ≡ is_stable_now me founders given tombstone reports ids
unfolding is_stable_now
stable_all me founders given tombstone reports ids = refl
