-- Which bytes a key and a region haven't, and where a text is cut at one of them.
use Rattle.std.proofs.Common.{◌≡◌, ℕ, List, [], ◌∷◌, ◌++◌, length, true, false, eqb, leb, ◌&&◌, Some, option_map, refl, ap, ◌∙◌}
use Rattle.std.proofs.Common.{inl, inr, sym, Bool, arith}
use Rattle.std.specs.List.{list_all, list_any}
use Rattle.std.proofs.lemmas.Bool.{cases_Bool, both_ways, eqb-true, eq-eqb, or_from, or_parts, and_parts, and_from}
use Rattle.gr_value.specs.KeyBytes.{is_key_byte}
use Rattle.gr_script.specs.Rules.{is_word_byte, is_word, is_region, begins_word}
use Rattle.gr_script.specs.Texts.{cut}
use Rattle.gr_script.proofs.Texts.{cut_here, cut_there}

-- a byte that passes a test isn't one that fails it
pub other_byte : (test : ℕ → Bool) (mark byte : ℕ) → test mark ≡ false → test byte ≡ true → eqb byte mark ≡ false
other_byte test mark byte isnt is =
    elim (cases_Bool (eqb byte mark)) [
      | inl same ↦ absurd (both_ways (test mark) isnt (ap test (sym (eqb-true byte mark same)) ∙ is))
      | inr differs ↦ differs
    ]

pub unmarked : (test : ℕ → Bool) (mark : ℕ) (bytes : List ℕ) → test mark ≡ false → list_all test bytes ≡ true
    → list_any (λ byte. eqb byte mark) bytes ≡ false
unmarked test mark [] isnt all = refl
unmarked test mark (byte ∷ bytes) isnt all =
    let parts = and_parts (test byte) (list_all test bytes) all in
    or_from _ _ (other_byte test mark byte isnt parts.0) (unmarked test mark bytes isnt parts.1)

-- where no mark stands in front of it, the first mark is here
pub cut_at : (mark : ℕ) (front rest : List ℕ) → list_any (λ byte. eqb byte mark) front ≡ false
    → cut mark (front ++ mark ∷ rest) ≡ Some (front, rest)
cut_at mark [] rest none = cut_here mark mark rest (eq-eqb mark mark refl)
cut_at mark (byte ∷ front) rest none =
    let parts = or_parts (eqb byte mark) (list_any (λ byte. eqb byte mark) front) none in
    cut_there mark byte (front ++ mark ∷ rest) parts.0 ∙ ap (option_map (λ p. (byte ∷ p.0, p.1))) (cut_at mark front rest parts.1)

-- ---- a region has the bytes of a key

word_byte : (byte : ℕ) → is_word_byte byte ≡ true → is_key_byte byte ≡ true
word_byte byte is = grind arith

-- bytes that all pass a test, where a byte that does passes another
pub all_turn : (passes other : ℕ → Bool) → ((byte : ℕ) → passes byte ≡ true → other byte ≡ true) → (bytes : List ℕ)
    → list_all passes bytes ≡ true → list_all other bytes ≡ true
all_turn passes other turns [] all = refl
all_turn passes other turns (byte ∷ bytes) all =
    let parts = and_parts (passes byte) (list_all passes bytes) all in
    and_from _ _ (turns byte parts.0) (all_turn passes other turns bytes parts.1)

word_bytes : (bytes : List ℕ) → list_all is_word_byte bytes ≡ true → list_all is_key_byte bytes ≡ true
word_bytes = all_turn is_word_byte is_key_byte word_byte

pub region_bytes : (region : List ℕ) → is_region region ≡ true → list_all is_key_byte region ≡ true
region_bytes [] is = absurd cc
region_bytes (slash ∷ word) is =
    let parts = and_parts (eqb slash 0x2F) (is_word word) is in
    let sized = and_parts (begins_word word && leb (length word) 254) (list_all is_word_byte word) parts.1 in
    and_from _ _ (ap is_key_byte (eqb-true slash 0x2F parts.0)) (word_bytes word sized.1)
