-- A value's piece ends where its first brace is closed.
use Rattle.std.proofs.Common.{◌≡◌, ℕ, ◌+◌, ◌-◌, ◌<◌, ◌≤◌, arith, suc, List, [], ◌∷◌, ◌++◌, length, take, Bool, true, false, cond, not, eqb, ltb}
use Rattle.std.proofs.Common.{◌&&◌, Some, None, refl, sym, ap, ◌∙◌, subst, append_assoc, length-append, inl, inr}
use Rattle.std.specs.Prelude.{◌⊎◌}
use Rattle.std.proofs.lemmas.Bool.{and_parts, cases_lt, not-true, ne_eqb, eqb-true, lt-ltb, le-ltb}
use Rattle.std.proofs.lemmas.List.Folds.{list_all-append}
use Rattle.std.specs.Option.{option_map_or}
use Rattle.std.specs.List.{AllByRecursion, list_all, prefix_len}
use Rattle.gr_script.specs.declared.piece.Nesting.{Nesting}
use Rattle.gr_script.specs.declared.piece.Place.{Place}
use Rattle.gr_script.specs.declared.piece.Place.TheVariants as place
use Rattle.gr_script.specs.Braces.{Mark, Plain, Escaped, marks_text, is_mark, Balanced, Ended, Byte, String, Braces, balanced_text}
use Rattle.gr_script.specs.Braces.{is_outside, is_balanced, IsBraced}
use Rattle.gr_script.specs.Pieces.{nesting_of, behind, depths, begins_braced, piece_len}

abbrev pub is_open : ℕ → Bool
is_open depth = not (eqb depth 0)

-- how many bytes come before the one that closes the first brace
abbrev opened : Nesting → List ℕ → ℕ
opened before text = prefix_len is_open (depths before text)

-- ---- one text behind another

abbrev joined : Balanced → Balanced → Balanced
joined Ended more = more
joined (Byte byte rest) more = Byte byte (joined rest more)
joined (String marks rest) more = String marks (joined rest more)
joined (Braces inner rest) more = Braces inner (joined rest more)

joined_text : (one two : Balanced) → balanced_text (joined one two) ≡ balanced_text one ++ balanced_text two
joined_text Ended two = refl
joined_text (Byte byte rest) two = ap (λ text. byte ∷ text) (joined_text rest two)
joined_text (String marks rest) two =
    ap (λ text. 34 ∷ (marks_text marks ++ 34 ∷ text)) (joined_text rest two)
    ∙ ap (λ text. 34 ∷ text) (sym (append_assoc (marks_text marks) (34 ∷ balanced_text rest) (balanced_text two)))
joined_text (Braces inner rest) two =
    ap (λ text. 123 ∷ (balanced_text inner ++ 125 ∷ text)) (joined_text rest two)
    ∙ ap (λ text. 123 ∷ text) (sym (append_assoc (balanced_text inner) (125 ∷ balanced_text rest) (balanced_text two)))

joined_balanced : (one two : Balanced) → is_balanced one ≡ true → is_balanced two ≡ true → is_balanced (joined one two) ≡ true
joined_balanced Ended two well more = more
joined_balanced (Byte byte rest) two well more =
    let parts = and_parts (is_outside byte) (is_balanced rest) well in
    rw (parts.0, joined_balanced rest two parts.1 more) refl
joined_balanced (String marks rest) two well more =
    let parts = and_parts (list_all is_mark marks) (is_balanced rest) well in
    rw (parts.0, joined_balanced rest two parts.1 more) refl
joined_balanced (Braces inner rest) two well more =
    let parts = and_parts (is_balanced inner) (is_balanced rest) well in
    rw (parts.0, joined_balanced rest two parts.1 more) refl

-- ---- a text in balance leaves as many braces open as before

-- a byte behind which a brace is open
opened_behind : (before after : Nesting) (byte : ℕ) (text : List ℕ) → behind before byte ≡ after → 1 ≤ after.depth
    → opened before (byte ∷ text) ≡ suc (opened after text)
opened_behind before after byte text is some =
    rw (is, ne_eqb after.depth 0 (λ e. omega (arith, some, e))) (omega arith)

open_behind : (depth : ℕ) → behind (nesting_of depth place.Outside) 123 ≡ nesting_of (suc depth) place.Outside
open_behind depth = let more : depth + 1 ≡ suc depth = omega arith in ap (λ n. nesting_of n place.Outside) more

close_behind : (depth : ℕ) → behind (nesting_of (suc depth) place.Outside) 125 ≡ nesting_of depth place.Outside
close_behind depth = let less : suc depth - 1 ≡ depth = omega arith in ap (λ n. nesting_of n place.Outside) less

outside_behind : (depth byte : ℕ) → is_outside byte ≡ true
    → behind (nesting_of depth place.Outside) byte ≡ nesting_of depth place.Outside
outside_behind depth byte is =
    let one = and_parts (not (eqb byte 123)) (not (eqb byte 125) && not (eqb byte 34)) is in
    let two = and_parts (not (eqb byte 125)) (not (eqb byte 34)) one.1 in
    rw (not-true _ one.0, not-true _ two.0, not-true _ two.1) refl

plain_behind : (depth byte : ℕ) → is_mark (Plain byte) ≡ true
    → behind (nesting_of depth place.Quoted) byte ≡ nesting_of depth place.Quoted
plain_behind depth byte is =
    let parts = and_parts (not (eqb byte 34)) (not (eqb byte 92)) is in
    rw (not-true _ parts.0, not-true _ parts.1) refl

marks_opened : (depth : ℕ) (marks : List Mark) (text : List ℕ) → list_all is_mark marks ≡ true
    → opened (nesting_of (suc depth) place.Quoted) (marks_text marks ++ text)
    ≡ length (marks_text marks) + opened (nesting_of (suc depth) place.Quoted) text
marks_opened depth [] text all = omega arith
marks_opened depth (Plain byte ∷ marks) text all =
    let parts = and_parts (is_mark (Plain byte)) (list_all is_mark marks) all in
    opened_behind (nesting_of (suc depth) place.Quoted) (nesting_of (suc depth) place.Quoted) byte (marks_text marks ++ text)
    (plain_behind (suc depth) byte parts.0) (omega arith)
    ∙ omega (arith, marks_opened depth marks text parts.1)
marks_opened depth (Escaped byte ∷ marks) text all =
    opened_behind (nesting_of (suc depth) place.Quoted) (nesting_of (suc depth) place.Escaped) 92 (byte ∷ (marks_text marks ++ text)) refl (omega arith)
    ∙ ap suc (opened_behind (nesting_of (suc depth) place.Escaped) (nesting_of (suc depth) place.Quoted) byte (marks_text marks ++ text) refl (omega arith))
    ∙ omega (arith, marks_opened depth marks text all)

balanced_opened : (depth : ℕ) (one : Balanced) (text : List ℕ) → is_balanced one ≡ true
    → opened (nesting_of (suc depth) place.Outside) (balanced_text one ++ text)
    ≡ length (balanced_text one) + opened (nesting_of (suc depth) place.Outside) text
balanced_opened depth Ended text well = omega arith
balanced_opened depth (Byte byte rest) text well =
    let parts = and_parts (is_outside byte) (is_balanced rest) well in
    opened_behind (nesting_of (suc depth) place.Outside) (nesting_of (suc depth) place.Outside) byte (balanced_text rest ++ text)
    (outside_behind (suc depth) byte parts.0) (omega arith)
    ∙ omega (arith, balanced_opened depth rest text parts.1)
balanced_opened depth (String marks rest) text well =
    let parts = and_parts (list_all is_mark marks) (is_balanced rest) well in
    let behind_marks = 34 ∷ (balanced_text rest ++ text) in
    let there : opened (nesting_of (suc depth) place.Outside) (34 ∷ (marks_text marks ++ behind_marks))
    ≡ suc (length (marks_text marks) + suc (length (balanced_text rest) + opened (nesting_of (suc depth) place.Outside) text)) =
    opened_behind (nesting_of (suc depth) place.Outside) (nesting_of (suc depth) place.Quoted) 34 (marks_text marks ++ behind_marks) refl (omega arith)
    ∙ ap suc (marks_opened depth marks behind_marks parts.0)
    ∙ ap (λ n. suc (length (marks_text marks) + n))
    (opened_behind (nesting_of (suc depth) place.Quoted) (nesting_of (suc depth) place.Outside) 34 (balanced_text rest ++ text) refl (omega arith)
    ∙ ap suc (balanced_opened depth rest text parts.1)) in
    ap (λ whole. opened (nesting_of (suc depth) place.Outside) (34 ∷ whole))
    (append_assoc (marks_text marks) (34 ∷ balanced_text rest) text)
    ∙ there ∙ omega (arith, length-append (marks_text marks) (34 ∷ balanced_text rest))
balanced_opened depth (Braces inner rest) text well =
    let parts = and_parts (is_balanced inner) (is_balanced rest) well in
    let behind_inner = 125 ∷ (balanced_text rest ++ text) in
    let there : opened (nesting_of (suc depth) place.Outside) (123 ∷ (balanced_text inner ++ behind_inner))
    ≡ suc (length (balanced_text inner) + suc (length (balanced_text rest) + opened (nesting_of (suc depth) place.Outside) text)) =
    opened_behind (nesting_of (suc depth) place.Outside) (nesting_of (suc (suc depth)) place.Outside) 123 (balanced_text inner ++ behind_inner)
    (open_behind (suc depth)) (omega arith)
    ∙ ap suc (balanced_opened (suc depth) inner behind_inner parts.0)
    ∙ ap (λ n. suc (length (balanced_text inner) + n))
    (opened_behind (nesting_of (suc (suc depth)) place.Outside) (nesting_of (suc depth) place.Outside) 125 (balanced_text rest ++ text)
    (close_behind (suc depth)) (omega arith)
    ∙ ap suc (balanced_opened depth rest text parts.1)) in
    ap (λ whole. opened (nesting_of (suc depth) place.Outside) (123 ∷ whole))
    (append_assoc (balanced_text inner) (125 ∷ balanced_text rest) text)
    ∙ there ∙ omega (arith, length-append (balanced_text inner) (125 ∷ balanced_text rest))

-- ---- where no brace is open for the first time, one text in braces is behind

-- what was read: the braces that are open, with what stands in each, the innermost first
abbrev front : List Balanced → Balanced → List ℕ
front [] inner = 123 ∷ balanced_text inner
front (next ∷ outer) inner = front outer next ++ 123 ∷ balanced_text inner

abbrev read_at : Place → List Balanced → Balanced → List Mark → List ℕ
read_at place.Outside outer inner marks = front outer inner
read_at place.Quoted outer inner marks = front outer inner ++ 34 ∷ marks_text marks
read_at place.Escaped outer inner marks = front outer inner ++ 34 ∷ (marks_text marks ++ 92 ∷ [])

abbrev Closes : List ℕ → Nesting → List ℕ → Type 0
Closes read before text = opened before text < length text → IsBraced (read ++ take (suc (opened before text)) text)

closes_behind : (read : List ℕ) (before after : Nesting) (byte : ℕ) (text : List ℕ) → behind before byte ≡ after
    → 1 ≤ after.depth → Closes (read ++ byte ∷ []) after text → Closes read before (byte ∷ text)
closes_behind read before after byte text is some closes within =
    let more = opened_behind before after byte text is some in
    let braced = closes (omega (arith, within, more)) in
    subst IsBraced
    (append_assoc read (byte ∷ []) (take (suc (opened after text)) text)
    ∙ ap (λ n. read ++ take (suc n) (byte ∷ text)) (sym more))
    braced

front_joined : (outer : List Balanced) (one two : Balanced) → front outer (joined one two) ≡ front outer one ++ balanced_text two
front_joined [] one two = ap (λ text. 123 ∷ text) (joined_text one two)
front_joined (next ∷ outer) one two =
    ap (λ text. front outer next ++ 123 ∷ text) (joined_text one two)
    ∙ sym (append_assoc (front outer next) (123 ∷ balanced_text one) (balanced_text two))

marks_joined : (one two : List Mark) → marks_text (one ++ two) ≡ marks_text one ++ marks_text two
marks_joined [] two = refl
marks_joined (Plain byte ∷ one) two = ap (λ text. byte ∷ text) (marks_joined one two)
marks_joined (Escaped byte ∷ one) two = ap (λ text. 92 ∷ byte ∷ text) (marks_joined one two)

abbrev AreBalanced : List Balanced → Type 0
AreBalanced outer = AllByRecursion (λ one. is_balanced one ≡ true) outer

abbrev Reads : List ℕ → Type 0
Reads text = (at : Place) (outer : List Balanced) (inner : Balanced) (marks : List Mark) → AreBalanced outer
    → is_balanced inner ≡ true → list_all is_mark marks ≡ true
    → Closes (read_at at outer inner marks) (nesting_of (suc (length outer)) at) text

module _ (text : List ℕ) (reads : Reads text) (inner : Balanced) (balanced : is_balanced inner ≡ true) where
  closed : (outer : List Balanced) → AreBalanced outer
      → Closes (front outer inner) (nesting_of (suc (length outer)) place.Outside) (125 ∷ text)
  closed [] all = λ within. record { inner = inner; balanced = balanced; text_is = refl }
  closed (next ∷ outer) all =
      let both = joined next (Braces inner Ended) in
      let same : front outer both ≡ (front outer next ++ 123 ∷ balanced_text inner) ++ 125 ∷ [] =
      front_joined outer next (Braces inner Ended)
      ∙ sym (append_assoc (front outer next) (123 ∷ balanced_text inner) (125 ∷ [])) in
      closes_behind (front (next ∷ outer) inner) (nesting_of (suc (suc (length outer))) place.Outside)
      (nesting_of (suc (length outer)) place.Outside) 125 text (close_behind (suc (length outer))) (omega arith)
      (subst (λ read. Closes read (nesting_of (suc (length outer)) place.Outside) text) same
      (reads place.Outside outer both [] all.1 (joined_balanced next (Braces inner Ended) all.0 (rw balanced refl)) refl))

  module _ (outer : List Balanced) (all : AreBalanced outer) where
    opens : Closes (front outer inner) (nesting_of (suc (length outer)) place.Outside) (123 ∷ text)
    opens = closes_behind (front outer inner) (nesting_of (suc (length outer)) place.Outside)
        (nesting_of (suc (suc (length outer))) place.Outside) 123 text (open_behind (suc (length outer))) (omega arith)
        (reads place.Outside (inner ∷ outer) Ended [] (balanced, all) refl refl)

    quotes : Closes (front outer inner) (nesting_of (suc (length outer)) place.Outside) (34 ∷ text)
    quotes = closes_behind (front outer inner) (nesting_of (suc (length outer)) place.Outside) (nesting_of (suc (length outer)) place.Quoted) 34 text refl (omega arith)
        (reads place.Quoted outer inner [] all balanced refl)

    goes_on : (byte : ℕ) → is_outside byte ≡ true
        → Closes (front outer inner) (nesting_of (suc (length outer)) place.Outside) (byte ∷ text)
    goes_on byte is = closes_behind (front outer inner) (nesting_of (suc (length outer)) place.Outside) (nesting_of (suc (length outer)) place.Outside) byte text
        (outside_behind (suc (length outer)) byte is) (omega arith)
        (subst (λ read. Closes read (nesting_of (suc (length outer)) place.Outside) text) (front_joined outer inner (Byte byte Ended))
        (reads place.Outside outer (joined inner (Byte byte Ended)) [] all
        (joined_balanced inner (Byte byte Ended) balanced (rw is refl)) refl))

    module _ (marks : List Mark) (are : list_all is_mark marks ≡ true) where
      ends : Closes (read_at place.Quoted outer inner marks) (nesting_of (suc (length outer)) place.Quoted) (34 ∷ text)
      ends =
          let both = joined inner (String marks Ended) in
          let same : front outer both ≡ (front outer inner ++ 34 ∷ marks_text marks) ++ 34 ∷ [] =
          front_joined outer inner (String marks Ended)
          ∙ sym (append_assoc (front outer inner) (34 ∷ marks_text marks) (34 ∷ [])) in
          closes_behind (read_at place.Quoted outer inner marks) (nesting_of (suc (length outer)) place.Quoted)
          (nesting_of (suc (length outer)) place.Outside) 34 text refl (omega arith)
          (subst (λ read. Closes read (nesting_of (suc (length outer)) place.Outside) text) same
          (reads place.Outside outer both [] all (joined_balanced inner (String marks Ended) balanced (rw are refl)) refl))

      escapes : Closes (read_at place.Quoted outer inner marks) (nesting_of (suc (length outer)) place.Quoted) (92 ∷ text)
      escapes = closes_behind (read_at place.Quoted outer inner marks) (nesting_of (suc (length outer)) place.Quoted) (nesting_of (suc (length outer)) place.Escaped) 92 text refl (omega arith)
          (subst (λ read. Closes read (nesting_of (suc (length outer)) place.Escaped) text)
          (sym (append_assoc (front outer inner) (34 ∷ marks_text marks) (92 ∷ [])))
          (reads place.Escaped outer inner marks all balanced are))

      says : (byte : ℕ) → is_mark (Plain byte) ≡ true
          → Closes (read_at place.Quoted outer inner marks) (nesting_of (suc (length outer)) place.Quoted) (byte ∷ text)
      says byte is =
          let more = marks ++ Plain byte ∷ [] in
          let same : front outer inner ++ 34 ∷ marks_text more ≡ (front outer inner ++ 34 ∷ marks_text marks) ++ byte ∷ [] =
          ap (λ t. front outer inner ++ 34 ∷ t) (marks_joined marks (Plain byte ∷ []))
          ∙ sym (append_assoc (front outer inner) (34 ∷ marks_text marks) (byte ∷ [])) in
          closes_behind (read_at place.Quoted outer inner marks) (nesting_of (suc (length outer)) place.Quoted)
          (nesting_of (suc (length outer)) place.Quoted) byte text (plain_behind (suc (length outer)) byte is) (omega arith)
          (subst (λ read. Closes read (nesting_of (suc (length outer)) place.Quoted) text) same
          (reads place.Quoted outer inner more all balanced (list_all-append is_mark marks (Plain byte ∷ []) ∙ rw (are, is) refl)))

      hides : (byte : ℕ) → Closes (read_at place.Escaped outer inner marks) (nesting_of (suc (length outer)) place.Escaped) (byte ∷ text)
      hides byte =
          let more = marks ++ Escaped byte ∷ [] in
          let same : front outer inner ++ 34 ∷ marks_text more
          ≡ (front outer inner ++ 34 ∷ (marks_text marks ++ 92 ∷ [])) ++ byte ∷ [] =
          ap (λ t. front outer inner ++ 34 ∷ t)
          (marks_joined marks (Escaped byte ∷ []) ∙ sym (append_assoc (marks_text marks) (92 ∷ []) (byte ∷ [])))
          ∙ sym (append_assoc (front outer inner) (34 ∷ (marks_text marks ++ 92 ∷ [])) (byte ∷ [])) in
          closes_behind (read_at place.Escaped outer inner marks) (nesting_of (suc (length outer)) place.Escaped)
          (nesting_of (suc (length outer)) place.Quoted) byte text refl (omega arith)
          (subst (λ read. Closes read (nesting_of (suc (length outer)) place.Quoted) text) same
          (reads place.Quoted outer inner more all balanced (list_all-append is_mark marks (Escaped byte ∷ []) ∙ rw are refl)))

by_byte : (P : ℕ → Type 0) (byte that : ℕ) → P that → (eqb byte that ≡ false → P byte) → P byte
by_byte P byte that here other = go (eqb byte that) refl
  where
    go : (b : Bool) → eqb byte that ≡ b → P byte
    go true is = subst P (sym (eqb-true byte that is)) here
    go false isnt = other isnt

reads : (text : List ℕ) → Reads text
reads [] at outer inner marks all balanced are = λ within. absurd (omega (arith, within))
reads (byte ∷ text) place.Outside outer inner marks all balanced are =
    let P : ℕ → Type 0 = λ b. Closes (front outer inner) (nesting_of (suc (length outer)) place.Outside) (b ∷ text) in
    by_byte P byte 123 (opens text (reads text) inner balanced outer all) (λ one.
    by_byte P byte 125 (closed text (reads text) inner balanced outer all) (λ two.
    by_byte P byte 34 (quotes text (reads text) inner balanced outer all) (λ three.
    goes_on text (reads text) inner balanced outer all byte (rw (one, two, three) refl))))
reads (byte ∷ text) place.Quoted outer inner marks all balanced are =
    let P : ℕ → Type 0 = λ b. Closes (read_at place.Quoted outer inner marks) (nesting_of (suc (length outer)) place.Quoted) (b ∷ text) in
    by_byte P byte 34 (ends text (reads text) inner balanced outer all marks are) (λ one.
    by_byte P byte 92 (escapes text (reads text) inner balanced outer all marks are) (λ two.
    says text (reads text) inner balanced outer all marks are byte (rw (one, two) refl)))
reads (byte ∷ text) place.Escaped outer inner marks all balanced are = hides text (reads text) inner balanced outer all marks are byte

-- ---- the piece that a value is

pub depths_length : (before : Nesting) (text : List ℕ) → length (depths before text) ≡ length text
depths_length before [] = refl
depths_length before (byte ∷ text) = omega (arith, depths_length (behind before byte) text)

-- where the first brace is closed, and where it isn't
module _ (rest : List ℕ) where
  abbrev count : ℕ
  count = opened (nesting_of 1 place.Outside) rest

  first : opened (nesting_of 0 place.Outside) (123 ∷ rest) ≡ suc count
  first = opened_behind (nesting_of 0 place.Outside) (nesting_of 1 place.Outside) 123 rest refl (omega arith)

  all : length (depths (nesting_of 0 place.Outside) (123 ∷ rest)) ≡ suc (length rest)
  all = depths_length (nesting_of 0 place.Outside) (123 ∷ rest)

  piece_by : (b : Bool) → ltb (suc count) (suc (length rest)) ≡ b
      → piece_len (123 ∷ rest) ≡ option_map_or (λ at. at + 1) (cond b (Some (suc count)) None) (suc (length rest))
  piece_by b is = rw (first, all, is) refl

  pub closed_piece : count < length rest → piece_len (123 ∷ rest) ≡ suc (suc count)
  closed_piece within = piece_by true (lt-ltb _ _ (omega (arith, within))) ∙ omega arith

  pub open_piece : length rest ≤ count → piece_len (123 ∷ rest) ≡ suc (length rest)
  open_piece none = piece_by false (le-ltb _ _ (omega (arith, none)))

-- one text in braces is the piece, whatever stands behind it
pub braced_piece : (text rest : List ℕ) → IsBraced text → piece_len (text ++ rest) ≡ length text
braced_piece text rest is =
    let inside = balanced_text is.inner in
    let whole : text ++ rest ≡ 123 ∷ (inside ++ 125 ∷ rest) =
    ap (λ t. t ++ rest) is.text_is ∙ ap (λ t. 123 ∷ t) (append_assoc inside (125 ∷ []) rest) in
    let closes : opened (nesting_of 1 place.Outside) (inside ++ 125 ∷ rest) ≡ length inside =
    balanced_opened 0 is.inner (125 ∷ rest) is.balanced ∙ omega arith in
    ap piece_len whole
    ∙ closed_piece (inside ++ 125 ∷ rest) (omega (arith, closes, length-append inside (125 ∷ rest)))
    ∙ ap (λ n. suc (suc n)) closes ∙ omega (arith, length-append inside (125 ∷ [])) ∙ ap (length {A = ℕ}) (sym is.text_is)

piece_of_rest : (rest : List ℕ) → IsBraced (take (piece_len (123 ∷ rest)) (123 ∷ rest)) ⊎ (piece_len (123 ∷ rest) ≡ length (123 ∷ rest))
piece_of_rest rest =
    elim (cases_lt (opened (nesting_of 1 place.Outside) rest) (length rest)) [
      | inl within ↦ inl (subst (λ n. IsBraced (take n (123 ∷ rest))) (sym (closed_piece rest within))
          (reads rest place.Outside [] Ended [] tt refl refl within))
      | inr none ↦ inr (open_piece rest none)
    ]

-- the piece is one text in braces, or all
pub piece_braced : (text : List ℕ) → begins_braced text ≡ true
    → IsBraced (take (piece_len text) text) ⊎ (piece_len text ≡ length text)
piece_braced [] begins = absurd (cc)
piece_braced (byte ∷ rest) begins = subst
    (λ b. IsBraced (take (piece_len (b ∷ rest)) (b ∷ rest)) ⊎ (piece_len (b ∷ rest) ≡ length (b ∷ rest)))
    (sym (eqb-true byte 123 begins)) (piece_of_rest rest)

-- what doesn't begin with a brace is one piece
pub other_piece : (text : List ℕ) → begins_braced text ≡ false → piece_len text ≡ length text
other_piece text begins = rw begins refl
