-- How many lines a text has, counted in two ways.
use Rattle.std.proofs.Common.{◌≡◌, ℕ, ◌+◌, ◌≤◌, List, [], ◌∷◌, length, Bool, cond, eqb, refl, ap, ◌∙◌, arith, inl, inr}
use Rattle.std.proofs.lemmas.Bool.{cases_Bool}
use Rattle.std.proofs.lemmas.List.Sums.{sum_by-cons}
use Rattle.std.specs.List.{onto_first, count_by}
use Rattle.gr_script.specs.Cuts.{line_count}
use Rattle.gr_script.specs.Texts.{lines_of}
use Rattle.gr_script.proofs.Texts.{lines_here, lines_there}

abbrev is_feed : ℕ → Bool
is_feed byte = eqb byte 10

feeds_more : (byte : ℕ) (bytes : List ℕ) → count_by is_feed (byte ∷ bytes) ≡ cond (is_feed byte) 1 0 + count_by is_feed bytes
feeds_more byte bytes = sum_by-cons (λ (b : ℕ). cond (is_feed b) 1 0) byte bytes

onto_some : (byte : ℕ) (lines : List (List ℕ)) → 1 ≤ length lines → length (onto_first byte lines) ≡ length lines
onto_some byte [] some = absurd (omega arith)
onto_some byte (line ∷ lines) some = refl

onto_one : (byte : ℕ) (lines : List (List ℕ)) → 1 ≤ length (onto_first byte lines)
onto_one byte [] = omega arith
onto_one byte (line ∷ lines) = omega arith

some_line : (byte : ℕ) (bytes : List ℕ) → 1 ≤ length (lines_of (byte ∷ bytes))
some_line byte bytes =
    elim (cases_Bool (eqb byte 10)) [
      | inl is ↦ rw (lines_here byte bytes is) (omega arith)
      | inr isnt ↦ rw (lines_there byte bytes isnt) (onto_one byte (lines_of bytes))
    ]

pub lines_counted : (text : List ℕ) → length (lines_of text) ≡ line_count text
lines_counted [] = refl
lines_counted (byte ∷ []) =
    elim (cases_Bool (eqb byte 10)) [
      | inl is ↦ rw (lines_here byte [] is, feeds_more byte [], is) refl
      | inr isnt ↦ rw (lines_there byte [] isnt, feeds_more byte [], isnt) refl
    ]
lines_counted (byte ∷ next ∷ bytes) =
    let rest = lines_counted (next ∷ bytes) in
    elim (cases_Bool (eqb byte 10)) [
      | inl is ↦ let feeds : count_by is_feed (byte ∷ next ∷ bytes) ≡ 1 + count_by is_feed (next ∷ bytes) =
          rw (feeds_more byte (next ∷ bytes), is) refl in
          ap (length {A = List ℕ}) (lines_here byte (next ∷ bytes) is) ∙ omega (arith, rest, feeds)
      | inr isnt ↦ let feeds : count_by is_feed (byte ∷ next ∷ bytes) ≡ 0 + count_by is_feed (next ∷ bytes) =
          rw (feeds_more byte (next ∷ bytes), isnt) refl in
          ap (length {A = List ℕ}) (lines_there byte (next ∷ bytes) isnt) ∙ onto_some byte (lines_of (next ∷ bytes)) (some_line next bytes)
          ∙ omega (arith, rest, feeds)
    ]
