-- What the drill writes is a value.
use Rattle.std.proofs.Common.{◌≡◌, ℕ, ◌+◌, ◌%◌, ◌<◌, ◌≤◌, List, [], ◌∷◌, ◌++◌, length, Ok, decimal, refl, sym, ap, ◌∙◌}
use Rattle.std.proofs.Common.{arith, length-append, append_assoc, suc, ◌-◌}
use Rattle.std.specs.Prelude.{codes}
use Rattle.std.specs.Cmp.Lexicographic.{slice_cmp}
use Rattle.std.specs.List.Sorted.{IsStrictlySortedBy}
use Rattle.std.specs.Ordering.{nat_cmp}
use Rattle.std.proofs.lemmas.List.{append-nil}
use Rattle.std.proofs.lemmas.Fmt.{length-decimal-le_wide}
use Rattle.std.proofs.lemmas.Str.{is_utf8-from_IsUtf8}
use Rattle.gr_value.proofs.RoundTrip.{value_read_back}
use Rattle.gr_value.specs.ValueReading.{read_value}
use Rattle.gr_value.specs.ValueText.{value_text, escaped}
use Rattle.gr_value.specs.Values.{IsValue}
use Rattle.gr_script.proofs.PrintedTexts.{plain_stands}
use Rattle.gr_script.specs.Drill.{drill_value, step_lines, drill_steps}
use Rattle.gr_script.specs.declared.line.Line.{Line}
use Rattle.gr_value.specs.Drawing.{drawn}

drill_text : (first : ℕ) → value_text (drill_value first) ≡ codes "{\"n\":" ++ (decimal (first % 1000) ++ codes "}")
unfolding value_text escaped
drill_text first = ap (λ (digits : List ℕ). codes "{\"n\":" ++ (digits ++ codes "}")) (append-nil (decimal (first % 1000)))

alone : IsStrictlySortedBy (slice_cmp nat_cmp) (codes "n" ∷ [])
unfolding IsStrictlySortedBy
alone = (tt, tt)

short : (first : ℕ) → length (value_text (drill_value first)) ≤ 1024
short first =
    let digits = decimal (first % 1000) in
    let text = ap (length {A = ℕ}) (drill_text first) in
    omega (
      arith,
      text,
      length-append digits (codes "}"),
      length-decimal-le_wide 3 (first % 1000) (omega arith) (omega arith) (omega arith),
    )

drill_is_value : (first : ℕ) → IsValue (drill_value first)
drill_is_value first = record {
  ascending = alone;
  readable =
      ((is_utf8-from_IsUtf8 (codes "n") (plain_stands (codes "n") (omega arith) refl).readable, record { sfits = omega arith }), tt);
  short = short first;
}

pub drill_value_read : (first : ℕ) → read_value (codes "{\"n\":" ++ (decimal (first % 1000) ++ codes "}")) ≡ Ok (drill_value first)
drill_value_read first = ap read_value (sym (drill_text first)) ∙ value_read_back (drill_value first) (drill_is_value first)

-- one step more of those that are left
pub steps_more : (steps step x first second : ℕ) (lines more whole : List Line) → step < steps + 1 → first ≡ drawn x → second ≡ drawn first
    → more ≡ lines ++ step_lines step first second → lines ++ drill_steps (steps + 1 - step) step x ≡ whole
    → more ++ drill_steps (steps + 1 - (step + 1)) (step + 1) second ≡ whole
steps_more steps step x first second lines more whole lt one two next front =
    let left = steps + 1 - (step + 1) in
    let one_more : suc left ≡ steps + 1 - step = omega (arith, lt) in
    let same : second ≡ drawn (drawn x) = two ∙ ap drawn one in
    ap (λ (ls : List Line). ls ++ drill_steps left (step + 1) second) next
    ∙ append_assoc lines (step_lines step first second) (drill_steps left (step + 1) second)
    ∙ ap (λ (n : ℕ). lines ++ (step_lines step n second ++ drill_steps left (step + 1) second)) one
    ∙ ap (λ (n : ℕ). lines ++ (step_lines step (drawn x) n ++ drill_steps left (step + 1) n)) same
    ∙ ap (λ (n : ℕ). lines ++ drill_steps n step x) one_more ∙ front
