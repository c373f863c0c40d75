-- Bytes that stand for themselves in a quoted text.
use Rattle.std.proofs.Common.{◌≡◌, ◌∙◌, ap, ℕ, ◌+◌, ◌-◌, ◌<◌, ◌≤◌, ◌≢◌, arith, List, [], ◌∷◌, ◌++◌, length, take, get_or, drop, true}
use Rattle.std.proofs.Common.{bytes_eq, refl, sym, length-append}
use Rattle.std.proofs.Math.Seq.{take-add}
use Rattle.std.proofs.lemmas.Slice.Eq.{bytes_eq-Decides}
use Rattle.std.proofs.lemmas.Bool.{ne_eqb, le-ltb}
use Rattle.std.proofs.lemmas.Grind.{flat_map-append}
use Rattle.std.proofs.lemmas.List.{take_more, take-append-drop, take_all, length-drop}
use Rattle.std.specs.Prelude.{flat_map}
use Rattle.gr_value.specs.ValueText.{escaped}

pub escaped_plain : (x : ℕ) → 32 ≤ x → x ≢ 34 → x ≢ 92 → escaped x ≡ x ∷ []
unfolding escaped
escaped_plain x h q b =
    rw (
      ne_eqb x 34 q,
      ne_eqb x 92 b,
      ne_eqb x 8 (λ e. omega arith),
      ne_eqb x 9 (λ e. omega arith),
      ne_eqb x 10 (λ e. omega arith),
      ne_eqb x 12 (λ e. omega arith),
      ne_eqb x 13 (λ e. omega arith),
      le-ltb x 32 h,
    ) refl

-- one more such byte
pub plain_more : (bytes : List ℕ) (i : ℕ) → i < length bytes → flat_map escaped (take i bytes) ≡ take i bytes
    → escaped (get_or bytes i 0) ≡ get_or bytes i 0 ∷ []
    → flat_map escaped (take (i + 1) bytes) ≡ take (i + 1) bytes
plain_more bytes i h so_far plain =
    let x = get_or bytes i 0 in
    let e = take_more bytes i 0 h in
    ap (flat_map escaped) e ∙ flat_map-append escaped (take i bytes) (x ∷ []) ∙ (λ k. so_far k ++ (plain k ++ []))
    ∙ sym e

-- so many more of them, with which the rest begins
pub plain_block : (bytes rest : List ℕ) (i n : ℕ) → rest ≡ take (length bytes - i) (drop i bytes)
    → flat_map escaped (take i bytes) ≡ take i bytes → flat_map escaped (take n rest) ≡ take n rest
    → flat_map escaped (take (i + n) bytes) ≡ take (i + n) bytes
plain_block bytes rest i n is so_far plain =
    let behind : rest ≡ drop i bytes = is ∙ take_all (length bytes - i) (drop i bytes) (omega (arith, length-drop i bytes)) in
    let e : take (i + n) bytes ≡ take i bytes ++ take n rest = take-add i n bytes
    ∙ ap (λ others. take i bytes ++ take n others) (sym behind) in
    ap (flat_map escaped) e ∙ flat_map-append escaped (take i bytes) (take n rest) ∙ (λ k. so_far k ++ plain k) ∙ sym e

pub front_taken : (text front rest : List ℕ) → bytes_eq (take (length front) text) front ≡ true → rest ≡ drop (length front) text
    → text ≡ front ++ rest
front_taken text front rest same is =
    sym (take-append-drop (length front) text) ∙ (λ k. (bytes_eq-Decides (take (length front) text) front).0 same k ++ sym is k)

escaped_some : (x : ℕ) → 0 < length (escaped x)
unfolding escaped
escaped_some x = grind arith

-- what is left behind an escape, or less, is shorter
pub escape_shorter : (before after rest : List ℕ) (x : ℕ) → before ≡ escaped x ++ after → length rest ≤ length after
    → length rest < length before
escape_shorter before after rest x escape less =
    omega (arith, ap length escape, length-append (escaped x) after, less, escaped_some x)
