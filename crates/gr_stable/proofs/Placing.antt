-- A report is kept at its member's place.
use Rattle.std.proofs.Common.{◌≡◌, ◌∙◌, ap, sym, refl, ℕ, zero, suc, ◌+◌, ◌<◌, ◌≤◌, ◌⊎◌, List, [], ◌∷◌, true, false}
use Rattle.std.proofs.Common.{◌&&◌, ◌==◌, length, set}
use Rattle.std.proofs.Common.{Option, Some, None, if◌then◌else◌, arith, inl, inr, replicate, get_or}
use Rattle.std.proofs.lemmas.Bool.Decides.{nat_tests}
use Rattle.std.specs.Prelude.{slice_index_or}
use Rattle.gr_vector.specs.declared.report.Report.{Report}
use Rattle.gr_history.specs.Stable.{is_later}
use Rattle.gr_stable.specs.Heard.{Reports, later_of, with_report_from, with_report, heard}

-- the numbers are two
apart : (m k : ℕ) → (m < k) ⊎ (k < m) → (m == k) ≡ false
apart m k (inl lt) = grind (arith, nat_tests)
apart m k (inr gt) = grind (arith, nat_tests)

alike : (m k : ℕ) → m ≡ k → (m == k) ≡ true
alike m k e = grind (arith, nat_tests)

-- a report of another member changes nothing
pub unplaced : (k : ℕ) (report : Report) (reports : Reports) → (report.member < k) ⊎ (k + length reports ≤ report.member)
    → with_report_from k report reports ≡ reports
unplaced k report [] other = refl
unplaced k report (before ∷ rest) other =
    ap (λ b. (if b && is_later report before then Some report else before) ∷ with_report_from (suc k) report rest)
    (apart report.member k (first other))
    ∙ ap (λ rest. before ∷ rest) (unplaced (suc k) report rest (next other))
  where
    first : (report.member < k) ⊎ (k + suc (length rest) ≤ report.member) → (report.member < k) ⊎ (k < report.member)
    first (inl lt) = inl lt
    first (inr le) = inr (omega (arith, le))

    next : (report.member < k) ⊎ (k + suc (length rest) ≤ report.member)
        → (report.member < suc k) ⊎ (suc k + length rest ≤ report.member)
    next (inl lt) = inl (omega (arith, lt))
    next (inr le) = inr (omega (arith, le))

pub placed : (k place : ℕ) (report : Report) (reports : Reports) → report.member ≡ k + place → place < length reports
    → with_report_from k report reports ≡ set reports place (later_of report (slice_index_or reports place None))
placed k place report [] is lt = absurd (omega (arith, lt))
placed k zero report (before ∷ rest) is lt =
    ap (λ b. (if b && is_later report before then Some report else before) ∷ with_report_from (suc k) report rest)
    (alike report.member k (omega (arith, is)))
    ∙ ap (λ rest. later_of report before ∷ rest) (unplaced (suc k) report rest (inl (omega (arith, is))))
placed k (suc place) report (before ∷ rest) is lt =
    ap (λ b. (if b && is_later report before then Some report else before) ∷ with_report_from (suc k) report rest)
    (apart report.member k (inr (omega (arith, is))))
    ∙ ap (λ rest. before ∷ rest) (placed (suc k) place report rest (omega (arith, is)) (omega (arith, lt)))

-- a history with no deeds heard nothing
pub no_reports : replicate 8 None ≡ heard []
unfolding heard
no_reports = refl

-- the element at a place, whatever would stand for none
any_default : {X : Type 0} → (xs : List X) (place : ℕ) (one other : X) → place < length xs → get_or xs place one ≡ get_or xs place other
any_default [] place one other lt = absurd (omega (arith, lt))
any_default (x ∷ xs) zero one other lt = refl
any_default (x ∷ xs) (suc place) one other lt = any_default xs place one other (omega (arith, lt))

-- no report of a member above eight, or below one, counts
pub outside : (report : Report) (reports : Reports) (member n : ℕ) → member ≡ report.member → n ≡ length reports
    → (n < member) ⊎ ((member ≤ n) × (member ≡ 0)) → with_report report reports ≡ reports
outside report reports member n is all (inl lt) = unplaced 1 report reports (inr (omega (arith, is, all, lt)))
outside report reports member n is all (inr none) = unplaced 1 report reports (inl (omega (arith, is, none.1)))

-- the report of a member that is kept at this place
pub placed_later : (report : Report) (reports : Reports) (member place : ℕ) (before d : Option Report) → member ≡ report.member
    → member ≡ 1 + place → member ≤ length reports → before ≡ get_or reports place d
    → with_report report reports ≡ set reports place (later_of report before)
placed_later report reports member place before d is at all found =
    placed 1 place report reports (omega (arith, is, at)) (omega (arith, at, all))
    ∙ ap (λ o. set reports place (later_of report o)) (any_default reports place None d (omega (arith, at, all)) ∙ sym found)
