-- Texts that can stand on a line as they are: what is said there is the whole text.
use Rattle.std.proofs.Common.{◌≡◌, ℕ, ◌+◌, ◌-◌, ◌<◌, zero, suc, List, [], ◌∷◌, ◌++◌, length, take, drop, Bool, true, false, cond}
use Rattle.std.proofs.Common.{eqb}
use Rattle.std.proofs.Common.{get_or, refl, sym, ap, ◌∙◌, arith, length-append}
use Rattle.std.specs.List.{list_all, prefix_len, suffix_len}
use Rattle.std.specs.Option.{option_map_or}
use Rattle.std.specs.Prelude.{slice_get}
use Rattle.std.specs.Str.{IsUtf8, IsAscii}
use Rattle.std.proofs.lemmas.Bool.{and_parts, or_from, leb-true}
use Rattle.std.proofs.lemmas.List.Folds.{list_any-append}
use Rattle.std.proofs.lemmas.List.Sums.{suffix_len_is}
use Rattle.std.proofs.lemmas.Str.{IsUtf8-append, IsUtf8-from_ascii}
use Rattle.std.proofs.Math.Seq.{take-length}
use Rattle.gr_value.specs.KeyBytes.{is_key_byte}
use Rattle.gr_script.specs.Cuts.{is_space, ends_with, without_return, after_spaces, before_spaces, text_said}
use Rattle.gr_script.specs.Rests.{begins_spaced}
use Rattle.gr_script.specs.Texts.{IsLine}
use Rattle.gr_script.proofs.Marks.{other_byte, unmarked}

pub record Stands (text : List ℕ) : Type 0 where
  pub some : 0 < length text
  pub front : begins_spaced text ≡ false
  pub back : ends_with 0x20 text ≡ false
  pub no_return : ends_with 0x0D text ≡ false
  pub line : IsLine text
  pub readable : IsUtf8 text

-- ---- the last byte

ends_skip : (mark first next : ℕ) (rest : List ℕ) → ends_with mark (first ∷ next ∷ rest) ≡ ends_with mark (next ∷ rest)
ends_skip mark first next rest =
    let there : length (first ∷ next ∷ rest) - 1 ≡ suc (length (next ∷ rest) - 1) = omega arith in
    ap (λ n. option_map_or (λ last. eqb last mark) (slice_get (first ∷ next ∷ rest) n) false) there

pub ends_append : (mark : ℕ) (front : List ℕ) (next : ℕ) (rest : List ℕ)
    → ends_with mark (front ++ next ∷ rest) ≡ ends_with mark (next ∷ rest)
ends_append mark [] next rest = refl
ends_append mark (first ∷ []) next rest = ends_skip mark first next rest
ends_append mark (first ∷ second ∷ front) next rest =
    ends_skip mark first second (front ++ next ∷ rest) ∙ ends_append mark (second ∷ front) next rest

pub ends_back : (mark : ℕ) (front rest : List ℕ) → 0 < length rest → ends_with mark (front ++ rest) ≡ ends_with mark rest
ends_back mark front [] some = absurd (omega (arith, some))
ends_back mark front (next ∷ rest) some = ends_append mark front next rest

pub last_is : (mark first : ℕ) (rest : List ℕ) → ends_with mark (first ∷ rest) ≡ eqb (get_or (first ∷ rest) (length rest) 0) mark
last_is mark first [] = refl
last_is mark first (next ∷ rest) = ends_skip mark first next rest ∙ last_is mark next rest

-- ---- what is said

no_spaces_behind : (text : List ℕ) → 0 < length text → ends_with 0x20 text ≡ false → suffix_len is_space text ≡ 0
no_spaces_behind [] some back = absurd (omega (arith, some))
no_spaces_behind (first ∷ rest) some back =
    suffix_len_is is_space (first ∷ rest) (length (first ∷ rest)) 0 (omega arith) (λ k from to. absurd (omega (arith, from, to)))
    (λ _. ap (λ n. eqb (get_or (first ∷ rest) n 0) 32) (omega arith) ∙ sym (last_is 0x20 first rest) ∙ back)
    ∙ omega arith

no_spaces_before : (text : List ℕ) → begins_spaced text ≡ false → after_spaces text ≡ text
no_spaces_before [] front = refl
no_spaces_before (first ∷ rest) front = ap (λ b. drop (cond b (1 + prefix_len is_space rest) 0) (first ∷ rest)) front

pub said_whole : (text : List ℕ) → Stands text → text_said text ≡ text
said_whole text is =
    let kept : without_return text ≡ text = ap (λ b. cond b (take (length text - 1) text) text) is.no_return in
    let behind : before_spaces text ≡ text =
    ap (λ n. take n text) (omega (arith, no_spaces_behind text is.some is.back)) ∙ take-length text in
    ap (λ line. after_spaces (before_spaces line)) kept ∙ ap after_spaces behind ∙ no_spaces_before text is.front

-- ---- what such texts are put together from

-- where all bytes pass a test that the mark fails, the mark isn't the last one
pub no_end : (test : ℕ → Bool) (mark : ℕ) (text : List ℕ) → test mark ≡ false → list_all test text ≡ true → ends_with mark text ≡ false
no_end test mark [] isnt all = refl
no_end test mark (first ∷ []) isnt all = other_byte test mark first isnt (and_parts (test first) true all).0
no_end test mark (first ∷ next ∷ rest) isnt all =
    ends_skip mark first next rest ∙ no_end test mark (next ∷ rest) isnt (and_parts (test first) (list_all test (next ∷ rest)) all).1

no_space_first : (text : List ℕ) → list_all is_key_byte text ≡ true → begins_spaced text ≡ false
no_space_first [] all = refl
no_space_first (first ∷ rest) all = other_byte is_key_byte 0x20 first refl (and_parts _ _ all).0

key_byte_ascii : (byte : ℕ) → is_key_byte byte ≡ true → byte < 128
key_byte_ascii byte is = omega (arith, leb-true byte 0x7E (and_parts _ _ is).1)

key_bytes_ascii : (text : List ℕ) → list_all is_key_byte text ≡ true → IsAscii text
key_bytes_ascii [] all i = omega arith
key_bytes_ascii (first ∷ rest) all zero = key_byte_ascii first (and_parts _ _ all).0
key_bytes_ascii (first ∷ rest) all (suc i) = key_bytes_ascii rest (and_parts _ _ all).1 i

space_ascii : IsAscii (0x20 ∷ [])
space_ascii zero = omega arith
space_ascii (suc i) = omega arith

-- what has the bytes of a key
pub plain_stands : (text : List ℕ) → 0 < length text → list_all is_key_byte text ≡ true → Stands text
plain_stands text some all = record {
  some = some;
  front = no_space_first text all;
  back = no_end is_key_byte 0x20 text refl all;
  no_return = no_end is_key_byte 0x0D text refl all;
  line = unmarked is_key_byte 0x0A text refl all;
  readable = IsUtf8-from_ascii text (key_bytes_ascii text all);
}

pub front_kept : (text rest : List ℕ) → 0 < length text → begins_spaced (text ++ rest) ≡ begins_spaced text
front_kept [] rest some = absurd (omega (arith, some))
front_kept (first ∷ text) rest some = refl

pub spaced_stand : (text rest : List ℕ) → Stands text → Stands rest → Stands (text ++ 0x20 ∷ rest)
spaced_stand text rest one two = record {
  some = omega (arith, length-append text (0x20 ∷ rest));
  front = front_kept text (0x20 ∷ rest) one.some ∙ one.front;
  back = ends_append 0x20 text 0x20 rest ∙ ends_back 0x20 (0x20 ∷ []) rest two.some ∙ two.back;
  no_return = ends_append 0x0D text 0x20 rest ∙ ends_back 0x0D (0x20 ∷ []) rest two.some ∙ two.no_return;
  line = list_any-append (λ byte. eqb byte 0x0A) text (0x20 ∷ rest) ∙ or_from _ _ one.line two.line;
  readable =
      IsUtf8-append text (0x20 ∷ rest) one.readable
      (IsUtf8-append (0x20 ∷ []) rest (IsUtf8-from_ascii (0x20 ∷ []) space_ascii) two.readable);
}
