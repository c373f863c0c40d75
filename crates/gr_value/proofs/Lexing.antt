-- What the lexer finds in a text, printed, is no longer than the text.
use Rattle.std.proofs.Common.{◌≡◌, ◌∙◌, ℕ, zero, suc, ◌+◌, ◌-◌, ◌≤◌, Bool, true, false, cond, ◌||◌, ◌==◌, List, [], ◌∷◌, length}
use Rattle.std.proofs.Common.{take, drop, Option, Some, None, option_and_then, MatchOption, inl, inr, refl, sym, ap, arith, length-append}
use Rattle.std.proofs.Common.{length-take-le}
use Rattle.std.proofs.lemmas.Bool.{true≢false, false≢true, eqb-true, ne_eqb, and_parts, or_cases}
use Rattle.std.proofs.lemmas.Slice.Eq.{bytes_eq-Decides}
use Rattle.std.specs.Char.{is_ascii_digit}
use Rattle.std.specs.List.{prefix_len}
use Rattle.std.specs.Prelude.{⊤}
use Rattle.json.specs.Align.{span_byte, span}
use Rattle.json.specs.Ascii as ascii
use Rattle.json.specs.Lex.{Lexeme, token, comma, colon, Class, quote, backslash, operator, space, other, class, operator_lexeme}
use Rattle.json.specs.Lex.{string_token, Mode, between, in_word, in_string, in_escape, lex_byte, lex}
use Rattle.json.specs.Print.{escape, token_text}
use Rattle.json.specs.Text.{content, plain}
use Rattle.json.specs.Token.{Token, boolean, null, bad}
use Rattle.json.specs.Word.{head, ends_word, after_digits, after_minus, after_sign, after_whole, after_fraction, after_exponent}
use Rattle.json.specs.Word.{after_number, number_before, literal, word}
use Rattle.gr_value.proofs.Quoting.{FitsIn, content_fits}

-- ---- words

abbrev is_other : Class → Bool
is_other quote = false
is_other backslash = false
is_other operator = false
is_other space = false
is_other other = true

-- how many bytes a word goes on for
abbrev run : List ℕ → ℕ
run = prefix_len (λ x. is_other (class x))

-- what is passed from t to r is part of a word
abbrev Passes : List ℕ → List ℕ → Type 0
Passes t r = length t + run r ≤ length r + run t

abbrev PassesTo : List ℕ → Option (List ℕ) → Type 0
PassesTo t r = MatchOption r ⊤ (Passes t)

run_more : (b : Bool) (n : ℕ) → b ≡ true → cond b (1 + n) 0 ≡ 1 + n
run_more true n e = refl
run_more false n e = absurd (false≢true e)

pass_one : (x : ℕ) (xs : List ℕ) → is_other (class x) ≡ true → Passes (x ∷ xs) xs
pass_one x xs e = omega (arith, run_more (is_other (class x)) (run xs) e)

-- the byte c, at the head
pass_head : (c : ℕ) (t : List ℕ) → is_other (class c) ≡ true → (head t == c) ≡ true → Passes t (drop 1 t)
pass_head c [] k e = omega arith
pass_head c (x ∷ xs) k e = pass_one x xs (ap (λ y. is_other (class y)) (eqb-true x c e) ∙ k)

digit_is_no : (x n : ℕ) → is_ascii_digit x ≡ true → is_ascii_digit n ≡ false → (x == n) ≡ false
digit_is_no x n is isnt = ne_eqb x n (λ e. true≢false (sym is ∙ ap is_ascii_digit e ∙ isnt))

digit_is_other : (x : ℕ) → is_ascii_digit x ≡ true → is_other (class x) ≡ true
digit_is_other x is =
    let no = λ (n : ℕ). digit_is_no x n is in
    rw (no 34 refl, no 92 refl, no 123 refl, no 125 refl, no 91 refl, no 93 refl, no 58 refl, no 44 refl)
    (rw (no 32 refl, no 9 refl, no 10 refl, no 13 refl) refl)

drop_next : (n x : ℕ) (xs : List ℕ) → drop (1 + n) (x ∷ xs) ≡ drop n xs
drop_next n x xs = let e : 1 + n ≡ suc n = omega arith in ap (λ k. drop k (x ∷ xs)) e

digits_more : (b : Bool) (n x : ℕ) (xs : List ℕ) → (b ≡ true → is_other (class x) ≡ true) → Passes xs (drop n xs)
    → Passes (x ∷ xs) (drop (cond b (1 + n) 0) (x ∷ xs))
digits_more true n x xs e h = rw drop_next (omega (arith, pass_one x xs (e refl), h))
digits_more false n x xs e h = omega arith

pass_digits : (t : List ℕ) → Passes t (drop (prefix_len is_ascii_digit t) t)
pass_digits [] = omega arith
pass_digits (x ∷ xs) = digits_more (is_ascii_digit x) (prefix_len is_ascii_digit xs) x xs (digit_is_other x) (pass_digits xs)

if_passes : (t : List ℕ) (b : Bool) (r s : Option (List ℕ)) → (b ≡ true → PassesTo t r) → PassesTo t s → PassesTo t (cond b r s)
if_passes t true r s f g = f refl
if_passes t false r s f g = g

passes_then : (t : List ℕ) (f : List ℕ → Option (List ℕ)) (o : Option (List ℕ)) → PassesTo t o → ((u : List ℕ) → PassesTo u (f u))
    → PassesTo t (option_and_then f o)
passes_then t f None h g = tt
passes_then t f (Some u) h g = through (f u) (g u)
  where
    through : (o : Option (List ℕ)) → PassesTo u o → PassesTo t o
    through None k = tt
    through (Some r) k = omega (arith, h, k)

pass_after : (t u : List ℕ) (o : Option (List ℕ)) → Passes t u → PassesTo u o → PassesTo t o
pass_after t u None h k = tt
pass_after t u (Some r) h k = omega (arith, h, k)

if_drop : (t : List ℕ) (b : Bool) → (b ≡ true → Passes t (drop 1 t)) → Passes t (cond b (drop 1 t) t)
if_drop t true f = f refl
if_drop t false f = omega arith

pass_after_digits : (t : List ℕ) → PassesTo t (after_digits t)
pass_after_digits t = if_passes t (prefix_len is_ascii_digit t == 0) None _ (λ e. tt) (pass_digits t)

pass_after_whole : (t : List ℕ) → PassesTo t (after_whole t)
pass_after_whole t = if_passes t (head t == 48) (Some (drop 1 t)) _ (pass_head 48 t refl) (pass_after_digits t)

pass_after_fraction : (t : List ℕ) → PassesTo t (after_fraction t)
pass_after_fraction t = if_passes t (head t == 46) _ (Some t)
    (λ e. pass_after t (drop 1 t) _ (pass_head 46 t refl e) (pass_after_digits (drop 1 t))) (omega arith)

one_of : (a b : ℕ) (t : List ℕ) → is_other (class a) ≡ true → is_other (class b) ≡ true → ((head t == a) || (head t == b)) ≡ true
    → Passes t (drop 1 t)
one_of a b t p q e = elim (or_cases _ _ e) [ inl f ↦ pass_head a t p f | inr f ↦ pass_head b t q f ]

pass_after_exponent : (t : List ℕ) → PassesTo t (after_exponent t)
pass_after_exponent t =
    let u = drop 1 t in
    if_passes t ((head t == 101) || (head t == 69)) _ (Some t)
    (λ e. pass_after t u _ (one_of 101 69 t refl refl e)
    (pass_after u (after_sign u) _ (if_drop u ((head u == 45) || (head u == 43)) (one_of 45 43 u refl refl))
    (pass_after_digits (after_sign u)))) (omega arith)

pass_after_number : (t : List ℕ) → PassesTo t (after_number t)
unfolding after_number
pass_after_number t =
    passes_then t after_exponent _ (passes_then t after_fraction _
    (pass_after t (after_minus t) _ (if_drop t (head t == 45) (pass_head 45 t refl))
    (pass_after_whole (after_minus t))) pass_after_fraction)
    pass_after_exponent

-- the text of a token, as long as a word goes on
abbrev IsWithin : ℕ → Token → Type 0
IsWithin n t = length (token_text t) ≤ n

if_within : (n : ℕ) (b : Bool) (t u : Token) → (b ≡ true → IsWithin n t) → IsWithin n u → IsWithin n (cond b t u)
if_within n true t u f g = f refl
if_within n false t u f g = g

number_within : (t : List ℕ) (o : Option (List ℕ)) → PassesTo t o → IsWithin (run t) (number_before t o)
number_within t None h = omega arith
number_within t (Some rest) h =
    if_within (run t) (ends_word rest) _ bad (λ e. omega (arith, length-take-le {A = ℕ} (length t - length rest) t, h)) (omega arith)

run_le : (b : Bool) (m n : ℕ) → m ≤ n → cond b (1 + m) 0 ≤ cond b (1 + n) 0
run_le true m n h = omega arith
run_le false m n h = omega arith

run-take : (n : ℕ) (t : List ℕ) → run (take n t) ≤ run t
run-take zero t = omega arith
run-take (suc n) [] = omega arith
run-take (suc n) (x ∷ xs) = run_le (is_other (class x)) (run (take n xs)) (run xs) (run-take n xs)

literal_within : (name : List ℕ) (found : Token) (t : List ℕ) → length (token_text found) ≤ run name
    → IsWithin (run t) (literal name found t)
literal_within name found t h =
    if_within (run t) _ found bad (λ e.
    omega (arith, h, ap run ((bytes_eq-Decides name (take (length name) t)).0 (and_parts _ _ e).0), run-take (length name) t))
    (omega arith)

word_within : (t : List ℕ) → IsWithin (run t) (word t)
unfolding word
word_within t =
    if_within (run t) (head t == 116) _ _ (λ e. literal_within ascii.true_text (boolean true) t (omega arith))
    (if_within (run t) (head t == 102) _ _ (λ e. literal_within ascii.false_text (boolean false) t (omega arith))
    (if_within (run t) (head t == 110) _ _ (λ e. literal_within ascii.null_text null t (omega arith))
    (number_within t (after_number t) (pass_after_number t))))

-- ---- lexemes

abbrev pub lexeme_len : Lexeme → ℕ
lexeme_len (token t) = length (token_text t)
lexeme_len comma = 1
lexeme_len colon = 1

abbrev pub lexemes_len : List Lexeme → ℕ
lexemes_len [] = 0
lexemes_len (l ∷ ls) = lexeme_len l + lexemes_len ls

-- how much of the text belongs to the lexeme that the mode is in
abbrev ahead : Mode → List ℕ → ℕ
ahead between xs = 0
ahead in_word xs = run xs
ahead in_string xs = span in_string xs
ahead in_escape xs = span in_escape xs

if_single : (b : Bool) (l m : Lexeme) → lexeme_len l ≤ 1 → lexeme_len m ≤ 1 → lexeme_len (cond b l m) ≤ 1
if_single true l m f g = f
if_single false l m f g = g

operator_len : (x : ℕ) → lexeme_len (operator_lexeme x) ≤ 1
operator_len x =
    if_single (x == 123) _ _ (omega arith)
    (if_single (x == 125) _ _ (omega arith)
    (if_single (x == 91) _ _ (omega arith)
    (if_single (x == 93) _ _ (omega arith) (if_single (x == 44) comma colon (omega arith) (omega arith)))))

string_len : (n : ℕ) (o : Option (List ℕ)) → FitsIn n o → length (token_text (string_token o)) ≤ 1 + n
string_len n None h = omega arith
string_len n (Some text) h = omega (arith, h, length-append (escape text) (34 ∷ []))

run_stop : (b : Bool) (n : ℕ) → b ≡ false → cond b (1 + n) 0 ≡ 0
run_stop true n e = absurd (true≢false e)
run_stop false n e = refl

span_is : (m : Mode) (c : Class) (x : ℕ) (xs : List ℕ) → class x ≡ c → span m (x ∷ xs) ≡ span_byte m c (λ next. span next xs)
unfolding span
span_is m c x xs e = ap (λ d. span_byte m d (λ next. span next xs)) e

byte_len : (m : Mode) (c : Class) (x : ℕ) (xs : List ℕ) → class x ≡ c
    → ((next : Mode) → lexemes_len (lex next xs) + ahead next xs ≤ length xs)
    → lexemes_len (lex_byte m c x xs (λ next. lex next xs)) + ahead m (x ∷ xs) ≤ suc (length xs)
byte_len between quote x xs e h = omega (arith, string_len (0 + span in_string xs) (content plain xs) (content_fits plain xs), h in_string)
byte_len between backslash x xs e h = omega (arith, h in_word)
byte_len between operator x xs e h = omega (arith, operator_len x, h between)
byte_len between space x xs e h = omega (arith, h between)
byte_len between other x xs e h = omega (arith, word_within (x ∷ xs), run_more (is_other (class x)) (run xs) (ap is_other e), h in_word)
byte_len in_word quote x xs e h = omega (arith, run_stop (is_other (class x)) (run xs) (ap is_other e), h in_word)
byte_len in_word backslash x xs e h = omega (arith, run_stop (is_other (class x)) (run xs) (ap is_other e), h in_word)
byte_len in_word operator x xs e h = omega (arith, operator_len x, run_stop (is_other (class x)) (run xs) (ap is_other e), h between)
byte_len in_word space x xs e h = omega (arith, run_stop (is_other (class x)) (run xs) (ap is_other e), h between)
byte_len in_word other x xs e h = omega (arith, run_more (is_other (class x)) (run xs) (ap is_other e), h in_word)
byte_len in_string quote x xs e h = omega (arith, span_is in_string quote x xs e, h between)
byte_len in_string backslash x xs e h = omega (arith, span_is in_string backslash x xs e, h in_escape)
byte_len in_string operator x xs e h = omega (arith, span_is in_string operator x xs e, h in_string)
byte_len in_string space x xs e h = omega (arith, span_is in_string space x xs e, h in_string)
byte_len in_string other x xs e h = omega (arith, span_is in_string other x xs e, h in_string)
byte_len in_escape c x xs e h = omega (arith, span_is in_escape c x xs e, h in_string)

ahead_none : (m : Mode) → ahead m [] ≡ 0
unfolding span
ahead_none between = refl
ahead_none in_word = refl
ahead_none in_string = refl
ahead_none in_escape = refl

pub lex_len : (m : Mode) (xs : List ℕ) → lexemes_len (lex m xs) + ahead m xs ≤ length xs
unfolding lex
lex_len m [] = omega (arith, ahead_none m)
lex_len m (x ∷ xs) = byte_len m (class x) x xs refl (λ next. lex_len next xs)
