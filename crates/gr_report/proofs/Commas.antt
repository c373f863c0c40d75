-- Numbers with commas, one more of them.
use Rattle.std.proofs.Common.{◌≡◌, ◌∙◌, ap, sym, refl, ℕ, suc, ◌+◌, ◌^◌, List, [], ◌∷◌, ◌++◌, flat_map, append_assoc, append-nil}
use Rattle.std.proofs.Common.{add-one, arith}
use Rattle.std.proofs.Common.{true, false, if◌then◌else◌}
use Rattle.std.specs.Prelude.{codes, decimal}
use Rattle.gr_report.specs.Deeds.{has_bit, members_upto, behind_comma, with_commas, list_text}

-- what stands between numbers and one more
abbrev pub mark_behind : List ℕ → List ℕ
mark_behind [] = []
mark_behind (number ∷ numbers) = codes ","

commas_more : (numbers : List ℕ) (next : ℕ)
    → flat_map behind_comma (numbers ++ next ∷ []) ≡ flat_map behind_comma numbers ++ behind_comma next
commas_more [] next = append-nil (behind_comma next)
commas_more (number ∷ numbers) next =
    ap (λ rest. behind_comma number ++ rest) (commas_more numbers next)
    ∙ sym (append_assoc (behind_comma number) (flat_map behind_comma numbers) (behind_comma next))

comma_is : (number : ℕ) (numbers text : List ℕ) → codes "," ++ text ≡ mark_behind (number ∷ numbers) ++ text
comma_is number numbers text = refl

pub with_commas-more : (numbers : List ℕ) (next : ℕ)
    → with_commas (numbers ++ next ∷ []) ≡ with_commas numbers ++ mark_behind numbers ++ decimal next
with_commas-more [] next = append-nil (decimal next)
with_commas-more (number ∷ numbers) next =
    ap (λ rest. decimal number ++ rest) (commas_more numbers next)
    ∙ sym (append_assoc (decimal number) (flat_map behind_comma numbers) (behind_comma next))
    ∙ ap (λ text. with_commas (number ∷ numbers) ++ text) (comma_is number numbers (decimal next))
    ∙ sym (append_assoc (with_commas (number ∷ numbers)) (mark_behind (number ∷ numbers)) (decimal next))

pub mark_behind-more : (numbers : List ℕ) (next : ℕ) → mark_behind (numbers ++ next ∷ []) ≡ codes ","
mark_behind-more [] next = refl
mark_behind-more (number ∷ numbers) next = refl

pub members-with : (to n bit : ℕ) → bit ≡ 2 ^ n → has_bit to bit ≡ true → members_upto to (n + 1) ≡ members_upto to n ++ (n + 1) ∷ []
members-with to n bit is has =
    ap (members_upto to) (add-one n)
    ∙ ap (λ b. members_upto to n ++ (if b then suc n ∷ [] else [])) (ap (has_bit to) (sym is) ∙ has)
    ∙ ap (λ m. members_upto to n ++ m ∷ []) (sym (add-one n))

pub members-without : (to n bit : ℕ) → bit ≡ 2 ^ n → has_bit to bit ≡ false → members_upto to (n + 1) ≡ members_upto to n
members-without to n bit is has =
    ap (members_upto to) (add-one n)
    ∙ ap (λ b. members_upto to n ++ (if b then suc n ∷ [] else [])) (ap (has_bit to) (sym is) ∙ has)
    ∙ append-nil (members_upto to n)

-- what is written at the end
pub listed_none : (numbers : List ℕ) → mark_behind numbers ≡ [] → list_text numbers ≡ with_commas numbers ++ codes "-"
listed_none [] none = refl
listed_none (number ∷ numbers) none = absurd cc

pub listed_some : (numbers : List ℕ) → (mark_behind numbers ≡ [] → ⊥) → list_text numbers ≡ with_commas numbers
listed_some [] some = absurd (some refl)
listed_some (number ∷ numbers) some = refl

pub power-one_more : (n : ℕ) → 2 ^ (n + 1) ≡ 2 ^ n + 2 ^ n
power-one_more n = rw add-one (omega arith)
