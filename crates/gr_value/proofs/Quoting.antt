-- The quoted text of a string that was read is no longer than what the lexer passed for it.
use Rattle.std.proofs.Common.{◌≡◌, ◌∙◌, ℕ, ◌+◌, ◌/◌, ◌<◌, ◌≤◌, ◌⊎◌, inl, inr, Bool, true, false, cond, ◌&&◌, ◌==◌, nat_lt, List, [], ◌∷◌}
use Rattle.std.proofs.Common.{length, Option, Some, None, option_and_then, MatchOption, refl, sym, ap, arith, length-append}
use Rattle.std.proofs.lemmas.Bool.{false≢true, eqb-true, eqb-false, ltb-false, and_parts, cases_eq, ne_eqb}
use Rattle.std.proofs.lemmas.Grind.{flat_map-append}
use Rattle.std.specs.Prelude.{⊤}
use Rattle.std.specs.Char.{is_digit}
use lib.Utf8.{encode, next}
use Rattle.json.specs.Align.{span_byte, span}
use Rattle.json.specs.Lex.{quote, backslash, operator, space, other, Mode, in_string, in_escape}
use Rattle.json.specs.Print.{escape_letter, escape_byte, escape}
use Rattle.json.specs.Text.{code_unit, short_escape, is_high_surrogate, is_low_surrogate, surrogate_pair, Within, plain, after_backslash}
use Rattle.json.specs.Text.{after_u, after_high, prepend, content}
use Rattle.json.specs.Word.{is_operator, is_space}
use Rattle.json.proofs.Printed.Strings.{escape_byte_plain}

-- the content, escaped and with its closing quote, has at most n bytes
abbrev pub FitsIn : ℕ → Option (List ℕ) → Type 0
FitsIn n None = ⊤
FitsIn n (Some text) = length (escape text) < n

abbrev mode : Within → Mode
mode plain = in_string
mode after_backslash = in_escape
mode after_u = in_string
mode (after_high high) = in_string

-- how many bytes of an escape were passed before
abbrev passed : Within → ℕ
passed plain = 0
passed after_backslash = 1
passed after_u = 2
passed (after_high high) = 0

either : (n : ℕ) (b : Bool) (x y : Option (List ℕ)) → (b ≡ true → FitsIn n x) → (b ≡ false → FitsIn n y) → FitsIn n (cond b x y)
either n true x y f g = f refl
either n false x y f g = g refl

then : (n : ℕ) (P : ℕ → Type 0) (f : ℕ → Option (List ℕ)) (o : Option ℕ) → MatchOption o ⊤ P → ((u : ℕ) → P u → FitsIn n (f u))
    → FitsIn n (option_and_then f o)
then n P f None h g = tt
then n P f (Some u) h g = g u h

more : (n m : ℕ) (r : Option (List ℕ)) → FitsIn m r → m ≤ n → FitsIn n r
more n m None h le = tt
more n m (Some text) h le = omega arith

longer : (n m : ℕ) (front : List ℕ) (r : Option (List ℕ)) → FitsIn m r → length (escape front) + m ≤ n → FitsIn n (prepend front r)
longer n m front None h le = tt
longer n m front (Some text) h le =
    omega (arith, ap length (flat_map-append escape_byte front text), length-append (escape front) (escape text))

-- ---- how long escapes are

length-cond-le : (n : ℕ) (b : Bool) (x y : List ℕ) → length x ≤ n → length y ≤ n → length (cond b x y) ≤ n
length-cond-le n true x y f g = f
length-cond-le n false x y f g = g

escape_byte-le : (x : ℕ) → length (escape_byte x) ≤ 6
unfolding escape_byte
escape_byte-le x =
    length-cond-le 6 (nat_lt 0 (escape_letter x)) (92 ∷ escape_letter x ∷ []) _ (omega arith)
    (length-cond-le 6 (nat_lt x 32) _ (x ∷ []) (omega arith) (omega arith))

escape-one : (x : ℕ) → length (escape (x ∷ [])) ≡ length (escape_byte x)
escape-one x = omega (arith, length-append (escape_byte x) [])

high_byte : (x : ℕ) → 93 ≤ x → length (escape_byte x) ≡ 1
high_byte x h = ap length (escape_byte_plain x (λ e. omega arith) (λ e. omega arith) (omega arith))

high_cons : (x : ℕ) (xs : List ℕ) (n : ℕ) → 93 ≤ x → length (escape xs) ≤ n → length (escape (x ∷ xs)) ≤ 1 + n
high_cons x xs n h le = omega (arith, length-append (escape_byte x) (escape xs), high_byte x h)

if_escape-le : (n : ℕ) (b : Bool) (x y : List ℕ) → length (escape x) ≤ n → length (escape y) ≤ n → length (escape (cond b x y)) ≤ n
if_escape-le n true x y f g = f
if_escape-le n false x y f g = g

two : (a b : ℕ) → 93 ≤ a → 93 ≤ b → length (escape (a ∷ b ∷ [])) ≤ 2
two a b p q = high_cons a (b ∷ []) 1 p (high_cons b [] 0 q (omega arith))

three : (a b c : ℕ) → 93 ≤ a → 93 ≤ b → 93 ≤ c → length (escape (a ∷ b ∷ c ∷ [])) ≤ 3
three a b c p q r = high_cons a (b ∷ c ∷ []) 2 p (two b c q r)

four : (a b c d : ℕ) → 93 ≤ a → 93 ≤ b → 93 ≤ c → 93 ≤ d → length (escape (a ∷ b ∷ c ∷ d ∷ [])) ≤ 4
four a b c d p q r s = high_cons a (b ∷ c ∷ d ∷ []) 3 p (three b c d q r s)

escape-encode : (u : ℕ) → length (escape (encode u)) ≤ 6
unfolding encode
escape-encode u =
    if_escape-le 6 (nat_lt u 128) (u ∷ []) _ (omega (arith, escape-one u, escape_byte-le u))
    (if_escape-le 6 (nat_lt u 2048) ((192 + u / 64) ∷ next u ∷ []) _
    (omega (arith, two (192 + u / 64) (next u) (omega arith) (omega arith)))
    (if_escape-le 6 (nat_lt u 65536) ((224 + u / 4096) ∷ next (u / 64) ∷ next u ∷ []) _
    (omega (arith, three (224 + u / 4096) (next (u / 64)) (next u) (omega arith) (omega arith) (omega arith)))
    (omega (
      arith,
      four (240 + u / 262144) (next (u / 4096)) (next (u / 64)) (next u) (omega arith) (omega arith) (omega arith)
          (omega arith),
    ))))

short : (x : ℕ) → MatchOption (short_escape x) ⊤ (λ c. length (escape_byte c) ≤ 2)
unfolding short_escape escape_byte
short x = go (cases_eq x 34) (cases_eq x 92) (cases_eq x 47) (cases_eq x 98) (cases_eq x 102) (cases_eq x 110) (cases_eq x 114)
    (cases_eq x 116)
  where
    go : (x ≡ 34) ⊎ (x ≡ 34 → ⊥) → (x ≡ 92) ⊎ (x ≡ 92 → ⊥) → (x ≡ 47) ⊎ (x ≡ 47 → ⊥) → (x ≡ 98) ⊎ (x ≡ 98 → ⊥) → (x ≡ 102) ⊎ (x ≡ 102 → ⊥)
        → (x ≡ 110) ⊎ (x ≡ 110 → ⊥) → (x ≡ 114) ⊎ (x ≡ 114 → ⊥) → (x ≡ 116) ⊎ (x ≡ 116 → ⊥)
        → MatchOption (short_escape x) ⊤ (λ c. length (escape_byte c) ≤ 2)
    go (inl e) b c d f g h i = rw e (omega arith)
    go (inr a) (inl e) c d f g h i = rw e (omega arith)
    go (inr a) (inr b) (inl e) d f g h i = rw e (omega arith)
    go (inr a) (inr b) (inr c) (inl e) f g h i = rw e (omega arith)
    go (inr a) (inr b) (inr c) (inr d) (inl e) g h i = rw e (omega arith)
    go (inr a) (inr b) (inr c) (inr d) (inr f) (inl e) h i = rw e (omega arith)
    go (inr a) (inr b) (inr c) (inr d) (inr f) (inr g) (inl e) i = rw e (omega arith)
    go (inr a) (inr b) (inr c) (inr d) (inr f) (inr g) (inr h) (inl e) = rw e (omega arith)
    go (inr a) (inr b) (inr c) (inr d) (inr f) (inr g) (inr h) (inr i) =
        rw (ne_eqb x 34 a, ne_eqb x 92 b, ne_eqb x 47 c, ne_eqb x 98 d, ne_eqb x 102 f, ne_eqb x 110 g, ne_eqb x 114 h, ne_eqb x 116 i) tt

-- ---- how far the lexer goes

inside : (o s : Bool) (k : Mode → ℕ) → span_byte in_string (cond o operator (cond s space other)) k ≡ 1 + k in_string
inside true s k = refl
inside false true k = refl
inside false false k = refl

span_plain : (x : ℕ) (xs : List ℕ) → (x == 34) ≡ false → (x == 92) ≡ false → span in_string (x ∷ xs) ≡ 1 + span in_string xs
unfolding span
span_plain x xs q b =
    (λ i. span_byte in_string (cond (q i) quote (cond (b i) backslash (cond (is_operator x) operator (cond (is_space x) space other))))
    (λ n. span n xs)) ∙ inside (is_operator x) (is_space x) (λ n. span n xs)

span_quote : (x : ℕ) (xs : List ℕ) → (x == 34) ≡ true → span in_string (x ∷ xs) ≡ 1
unfolding span
span_quote x xs q = ap (λ y. span in_string (y ∷ xs)) (eqb-true x 34 q)

span_backslash : (x : ℕ) (xs : List ℕ) → (x == 92) ≡ true → span in_string (x ∷ xs) ≡ 1 + span in_escape xs
unfolding span
span_backslash x xs b = ap (λ y. span in_string (y ∷ xs)) (eqb-true x 92 b)

span_escape : (x : ℕ) (xs : List ℕ) → span in_escape (x ∷ xs) ≡ 1 + span in_string xs
unfolding span
span_escape x xs = refl

not_this : (c x : ℕ) (t : Bool) → (t ≡ true → x ≡ c) → is_digit c 16 ≡ false → is_digit x 16 ≡ true → t ≡ false
not_this c x false e never h = refl
not_this c x true e never h = absurd (false≢true (sym never ∙ ap (λ y. is_digit y 16) (sym (e refl)) ∙ h))

span_hex : (x : ℕ) (xs : List ℕ) → is_digit x 16 ≡ true → span in_string (x ∷ xs) ≡ 1 + span in_string xs
span_hex x xs h = span_plain x xs (not_this 34 x (x == 34) (eqb-true x 34) refl h) (not_this 92 x (x == 92) (eqb-true x 92) refl h)

if_found : (b : Bool) (u : ℕ) (P : Type 0) → (b ≡ true → P) → MatchOption (cond b (Some u) None) ⊤ (λ _. P)
if_found true u P f = f refl
if_found false u P f = tt

span_unit : (a b c d : ℕ) (xs : List ℕ)
    → MatchOption (code_unit a b c d) ⊤ (λ _. span in_string (a ∷ b ∷ c ∷ d ∷ xs) ≡ 4 + span in_string xs)
unfolding code_unit
span_unit a b c d xs = if_found _ _ _ (λ h.
    let p = and_parts (is_digit a 16 && is_digit b 16 && is_digit c 16) (is_digit d 16) h in
    let q = and_parts (is_digit a 16 && is_digit b 16) (is_digit c 16) p.0 in
    let r = and_parts (is_digit a 16) (is_digit b 16) q.0 in
    omega (arith, span_hex a (b ∷ c ∷ d ∷ xs) r.0, span_hex b (c ∷ d ∷ xs) r.1, span_hex c (d ∷ xs) q.1, span_hex d xs p.1))

pub content_fits : (w : Within) (xs : List ℕ) → FitsIn (passed w + span (mode w) xs) (content w xs)
unfolding content
content_fits plain [] = tt
content_fits plain (x ∷ xs) =
    let n = 0 + span in_string (x ∷ xs) in
    either n (x == 34) _ _ (λ q. omega (arith, span_quote x xs q))
    (λ q. either n (x == 92) _ _ (λ b. more n _ _ (content_fits after_backslash xs) (omega (arith, span_backslash x xs b)))
    (λ b. either n (nat_lt x 32) _ _ (λ l. tt) (λ l. longer n _ (x ∷ []) _ (content_fits plain xs)
    (omega (
      arith,
      span_plain x xs q b,
      escape-one x,
      ap length (escape_byte_plain x (eqb-false x 34 q) (eqb-false x 92 b) (ltb-false x 32 l)),
    )))))
content_fits after_backslash [] = tt
content_fits after_backslash (x ∷ xs) =
    let n = 1 + span in_escape (x ∷ xs) in
    either n (x == 117) _ _ (λ u. more n _ _ (content_fits after_u xs) (omega (arith, span_escape x xs)))
    (λ u. then n _ _ (short_escape x) (short x)
    (λ c h. longer n _ (c ∷ []) _ (content_fits plain xs) (omega (arith, escape-one c, span_escape x xs))))
content_fits after_u [] = tt
content_fits after_u (a ∷ []) = tt
content_fits after_u (a ∷ b ∷ []) = tt
content_fits after_u (a ∷ b ∷ c ∷ []) = tt
content_fits after_u (a ∷ b ∷ c ∷ d ∷ xs) =
    let n = 2 + span in_string (a ∷ b ∷ c ∷ d ∷ xs) in
    then n _ _ (code_unit a b c d) (span_unit a b c d xs)
    (λ u p. either n (is_high_surrogate u) _ _ (λ e. more n _ _ (content_fits (after_high u) xs) (omega arith))
    (λ e. either n (is_low_surrogate u) _ _ (λ l. tt)
    (λ l. longer n _ (encode u) _ (content_fits plain xs) (omega (arith, escape-encode u)))))
content_fits (after_high h) [] = tt
content_fits (after_high h) (s ∷ []) = tt
content_fits (after_high h) (s ∷ u ∷ []) = tt
content_fits (after_high h) (s ∷ u ∷ a ∷ []) = tt
content_fits (after_high h) (s ∷ u ∷ a ∷ b ∷ []) = tt
content_fits (after_high h) (s ∷ u ∷ a ∷ b ∷ c ∷ []) = tt
content_fits (after_high h) (s ∷ u ∷ a ∷ b ∷ c ∷ d ∷ xs) =
    let n = 0 + span in_string (s ∷ u ∷ a ∷ b ∷ c ∷ d ∷ xs) in
    either n ((s == 92) && (u == 117)) _ _
    (λ e. then n _ _ (code_unit a b c d) (span_unit a b c d xs) (λ l p. either n (is_low_surrogate l) _ _
    (λ y. longer n _ (encode (surrogate_pair h l)) _ (content_fits plain xs)
    (omega (
      arith,
      span_backslash s (u ∷ a ∷ b ∷ c ∷ d ∷ xs) (and_parts _ _ e).0,
      span_escape u (a ∷ b ∷ c ∷ d ∷ xs),
      escape-encode (surrogate_pair h l),
    ))) (λ y. tt))) (λ e. tt)
