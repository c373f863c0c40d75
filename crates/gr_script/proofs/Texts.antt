-- What cutting a text gives, and how lines make a text.
use Rattle.std.proofs.Common.{◌≡◌, ℕ, suc, ◌+◌, ◌-◌, slice_get, slice_index, ◌<◌, ◌≤◌, List, [], ◌∷◌, length, take, drop, Bool, true, false, not, cond}
use Rattle.std.proofs.Common.{eqb, ltb, Option, Some, None, option_map, position, refl, ap, ◌∙◌, sym, arith, inl, inr}
use Rattle.std.specs.List.{prefix_len, onto_first}
use Rattle.std.proofs.lemmas.Bool.{cases_Bool, cases_lt, lt-ltb, le-ltb, cond-true, cond-false}
use Rattle.std.proofs.lemmas.List.{take_all, length-drop}
use Rattle.std.proofs.lemmas.List.Sums.{prefix_len_stops, prefix_len_is}
use Rattle.memchr.specs.Find.{IsFirstByte, is_byte}
use Rattle.gr_script.specs.Texts.{cut, lines_of, is_ended}

-- how many bytes stand in front of the mark
abbrev before : ℕ → List ℕ → ℕ
before mark bytes = prefix_len (λ byte. not (eqb byte mark)) bytes

abbrev pub Parts : Type 0
Parts = Option (List ℕ × List ℕ)

abbrev pub with_first : ℕ → Parts → Parts
with_first byte parts = option_map (λ p. (byte ∷ p.0, p.1)) parts

abbrev parts_at : List ℕ → ℕ → Parts
parts_at bytes n = cond (ltb n (length bytes)) (Some (take n bytes, drop (suc n) bytes)) None

parts_within : (bytes : List ℕ) (n : ℕ) → n < length bytes → parts_at bytes n ≡ Some (take n bytes, drop (suc n) bytes)
parts_within bytes n lt = cond-true (ltb n (length bytes)) _ _ (lt-ltb n (length bytes) lt)

parts_beyond : (bytes : List ℕ) (n : ℕ) → length bytes ≤ n → parts_at bytes n ≡ None
parts_beyond bytes n le = cond-false (ltb n (length bytes)) _ _ (le-ltb n (length bytes) le)

next_parts : (byte : ℕ) (bytes : List ℕ) (n : ℕ) → with_first byte (parts_at bytes n) ≡ parts_at (byte ∷ bytes) (suc n)
next_parts byte bytes n =
    elim (cases_lt n (length bytes)) [
      | inl lt ↦ ap (with_first byte) (parts_within bytes n lt) ∙ sym (parts_within (byte ∷ bytes) (suc n) (omega arith))
      | inr le ↦ ap (with_first byte) (parts_beyond bytes n le) ∙ sym (parts_beyond (byte ∷ bytes) (suc n) (omega arith))
    ]

before_here : (mark byte : ℕ) (bytes : List ℕ) → eqb byte mark ≡ true → before mark (byte ∷ bytes) ≡ 0
before_here mark byte bytes is = ap (λ (b : Bool). cond (not b) (1 + before mark bytes) 0) is

before_there : (mark byte : ℕ) (bytes : List ℕ) → eqb byte mark ≡ false → before mark (byte ∷ bytes) ≡ suc (before mark bytes)
before_there mark byte bytes isnt = ap (λ (b : Bool). cond (not b) (1 + before mark bytes) 0) isnt ∙ omega arith

pub cut_there : (mark byte : ℕ) (bytes : List ℕ) → eqb byte mark ≡ false → cut mark (byte ∷ bytes) ≡ with_first byte (cut mark bytes)
cut_there mark byte bytes isnt = cond-false (eqb byte mark) _ _ isnt

pub cut_is : (mark : ℕ) (bytes : List ℕ) → cut mark bytes ≡ parts_at bytes (before mark bytes)
cut_is mark [] = refl
cut_is mark (byte ∷ bytes) =
    elim (cases_Bool (eqb byte mark)) [
      | inl is ↦ cond-true (eqb byte mark) _ _ is ∙ sym (parts_within (byte ∷ bytes) 0 (omega arith))
          ∙ ap (parts_at (byte ∷ bytes)) (sym (before_here mark byte bytes is))
      | inr isnt ↦ cut_there mark byte bytes isnt ∙ ap (with_first byte) (cut_is mark bytes) ∙ next_parts byte bytes (before mark bytes)
          ∙ ap (parts_at (byte ∷ bytes)) (sym (before_there mark byte bytes isnt))
    ]

-- the same, by the place of the mark
abbrev parts_of_place : List ℕ → Option ℕ → Parts
parts_of_place bytes place = option_map (λ n. (take n bytes, drop (suc n) bytes)) place

place_parts : (test : Bool) (bytes : List ℕ) (n : ℕ)
    → parts_of_place bytes (cond test (Some n) None) ≡ cond test (Some (take n bytes, drop (suc n) bytes)) None
place_parts true bytes n = refl
place_parts false bytes n = refl

pub cut_at : (mark : ℕ) (bytes : List ℕ) (place : Option ℕ) → place ≡ position (λ byte. eqb byte mark) bytes
    → parts_of_place bytes place ≡ cut mark bytes
cut_at mark bytes place is =
    ap (parts_of_place bytes) is ∙ place_parts (ltb (before mark bytes) (length bytes)) bytes (before mark bytes) ∙ sym (cut_is mark bytes)

-- all that stands behind a place
pub all_behind : (bytes : List ℕ) (n m : ℕ) → m ≡ suc n → take (length bytes - m) (drop m bytes) ≡ drop (suc n) bytes
all_behind bytes n m is = ap (λ (k : ℕ). take (length bytes - k) (drop k bytes)) is
    ∙ take_all _ _ (omega (arith, length-drop (suc n) bytes))

-- ---- lines

pub some_is : (one two : List ℕ × List ℕ) → Some one ≡ Some two → one ≡ two
some_is one two e = cc

-- what is cut behind a first byte
pub cut_first : (byte : ℕ) (found : Parts) (parts : List ℕ × List ℕ) → with_first byte found ≡ Some parts
    → (rest : List ℕ × List ℕ) × (found ≡ Some rest) × ((byte ∷ rest.0, rest.1) ≡ parts)
cut_first byte None parts e = absurd cc
cut_first byte (Some rest) parts e = (rest, refl, some_is (byte ∷ rest.0, rest.1) parts e)

uncut_first : (byte : ℕ) (found : Parts) → with_first byte found ≡ None → found ≡ None
uncut_first byte None e = refl
uncut_first byte (Some rest) e = absurd cc

pub lines_here : (byte : ℕ) (bytes : List ℕ) → eqb byte 10 ≡ true → lines_of (byte ∷ bytes) ≡ [] ∷ lines_of bytes
lines_here byte bytes is = cond-true (eqb byte 10) _ _ is

pub lines_there : (byte : ℕ) (bytes : List ℕ) → eqb byte 10 ≡ false → lines_of (byte ∷ bytes) ≡ onto_first byte (lines_of bytes)
lines_there byte bytes isnt = cond-false (eqb byte 10) _ _ isnt

pub cut_here : (mark byte : ℕ) (bytes : List ℕ) → eqb byte mark ≡ true → cut mark (byte ∷ bytes) ≡ Some ([], bytes)
cut_here mark byte bytes is = cond-true (eqb byte mark) _ _ is

pub lines_cut : (bytes : List ℕ) (parts : List ℕ × List ℕ) → cut 10 bytes ≡ Some parts → lines_of bytes ≡ parts.0 ∷ lines_of parts.1
lines_cut [] parts e = absurd cc
lines_cut (byte ∷ bytes) parts e =
    elim (cases_Bool (eqb byte 10)) [
      | inl is ↦
          let p : ([], bytes) ≡ parts = some_is ([], bytes) parts (sym (cut_here 10 byte bytes is) ∙ e) in
          lines_here byte bytes is ∙ ap (λ (q : List ℕ × List ℕ). q.0 ∷ lines_of q.1) p
      | inr isnt ↦
          let found = cut_first byte (cut 10 bytes) parts (sym (cut_there 10 byte bytes isnt) ∙ e) in
          lines_there byte bytes isnt ∙ ap (onto_first byte) (lines_cut bytes found.0 found.1)
          ∙ ap (λ (q : List ℕ × List ℕ). q.0 ∷ lines_of q.1) found.2
    ]

lines_uncut : (byte : ℕ) (bytes : List ℕ) → cut 10 (byte ∷ bytes) ≡ None → lines_of (byte ∷ bytes) ≡ (byte ∷ bytes) ∷ []
lines_uncut byte [] e =
    elim (cases_Bool (eqb byte 10)) [
      | inl is ↦ absurd (let h = sym (cut_here 10 byte [] is) ∙ e in cc)
      | inr isnt ↦ lines_there byte [] isnt
    ]
lines_uncut byte (next ∷ bytes) e =
    elim (cases_Bool (eqb byte 10)) [
      | inl is ↦ absurd (let h = sym (cut_here 10 byte (next ∷ bytes) is) ∙ e in cc)
      | inr isnt ↦
          lines_there byte (next ∷ bytes) isnt
          ∙ ap (onto_first byte) (lines_uncut next bytes
          (uncut_first byte (cut 10 (next ∷ bytes)) (sym (cut_there 10 byte (next ∷ bytes) isnt) ∙ e)))
    ]

number_is : (one two : ℕ) → Some one ≡ Some two → one ≡ two
number_is one two e = cc

last_ends : (byte : ℕ) (bytes : List ℕ) (last : ℕ) → slice_get (byte ∷ bytes) (length bytes) ≡ Some last
    → eqb last 10 ≡ is_ended (byte ∷ bytes)
last_ends byte [] last e = ap (λ (n : ℕ). eqb n 10) (sym (number_is byte last e))
last_ends byte (next ∷ bytes) last e = last_ends next bytes last e

-- the last byte says whether the last line is ended
pub ended_by : (bytes : List ℕ) (last : ℕ) → slice_get bytes (length bytes - 1) ≡ Some last → eqb last 10 ≡ is_ended bytes
ended_by [] last e = absurd cc
ended_by (byte ∷ bytes) last e =
    let at : length (byte ∷ bytes) - 1 ≡ length bytes = omega arith in
    last_ends byte bytes last (ap (slice_get (byte ∷ bytes)) (sym at) ∙ e)

-- a text with nothing in front of a line feed is one line
pub lines_alone : (bytes : List ℕ) → (length bytes ≡ 0 → ⊥) → cut 10 bytes ≡ None → lines_of bytes ≡ bytes ∷ lines_of []
lines_alone [] some e = absurd (some refl)
lines_alone (byte ∷ bytes) some e = lines_uncut byte bytes e

-- ---- the first mark

there : (test : Bool) → not test ≡ false → test ≡ true
there true is = refl
there false is = sym is

not_there : (test : Bool) → ¬ (test ≡ true) → not test ≡ true
not_there true isnt = absurd (isnt refl)
not_there false isnt = refl

-- The first place that holds the mark is the place of it.
pub first_place : (mark : ℕ) (bytes : List ℕ) (found : Option ℕ) → IsFirstByte (is_byte mark) bytes found
    → found ≡ position (λ byte. eqb byte mark) bytes
first_place mark bytes None none =
    elim (cases_lt (before mark bytes) (length bytes)) [
      | inl lt ↦
          absurd
          (none (before mark bytes) (omega arith) lt
          (there (eqb (slice_index bytes (before mark bytes)) mark) (prefix_len_stops (λ byte. not (eqb byte mark)) bytes 0 lt)))
      | inr le ↦ sym (cond-false (ltb (before mark bytes) (length bytes)) _ _ (le-ltb (before mark bytes) (length bytes) le))
    ]
first_place mark bytes (Some place) is =
    let earlier = is.0 in
    let all : before mark bytes ≡ place =
    prefix_len_is (λ byte. not (eqb byte mark)) bytes place 0 (omega (arith, earlier.high))
    (λ k lt. not_there (eqb (slice_index bytes k) mark) (earlier.before k (omega arith) lt)) (λ lt. ap not is.1) in
    ap Some (sym all)
    ∙ sym (cond-true (ltb (before mark bytes) (length bytes)) _ _
    (lt-ltb (before mark bytes) (length bytes) (omega (arith, all, earlier.high))))
