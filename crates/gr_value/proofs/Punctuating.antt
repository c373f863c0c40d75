-- The tokens of a text, printed, are no longer than its lexemes.
use Rattle.std.proofs.Common.{◌≡◌, ℕ, ◌+◌, ◌≤◌, Bool, true, false, cond, List, [], ◌∷◌, ◌++◌, length, refl, ap, arith, length-append}
use Rattle.std.proofs.lemmas.Bool.{false≢true}
use Rattle.std.specs.Prelude.{⊤}
use Rattle.json.specs.Align.{is_good}
use Rattle.json.specs.Lex.{Lexeme, token, comma, colon, between, lex, Place, fresh, after_value, after_comma, after_key, begins_colon}
use Rattle.json.specs.Lex.{may_begin, may_close, if_allowed, place_token, punctuate, tokens}
use Rattle.json.specs.Print.{token_text, begins, ends, separator, print_from}
use Rattle.json.specs.Token.{Token, begin_object, end_object, begin_array, end_array, key, string, number, boolean, null, bad}
use Rattle.gr_value.proofs.Lexing.{lexemes_len, lex_len}

abbrev pub AreGood : List Token → Type 0
AreGood [] = ⊤
AreGood (t ∷ ts) = (is_good t ≡ true) × AreGood ts

abbrev pub printed_len : Bool → List Token → ℕ
printed_len after ts = length (print_from after ts)

-- a value stands before
abbrev after : Place → Bool
after fresh = false
after after_value = true
after after_comma = true
after after_key = false

-- a colon is still to come
abbrev owed : Place → ℕ
owed fresh = 0
owed after_value = 0
owed after_comma = 0
owed after_key = 1

-- a comma has been passed
abbrev paid : Place → ℕ
paid fresh = 0
paid after_value = 0
paid after_comma = 1
paid after_key = 0

abbrev Shorter : Place → List Lexeme → Type 0
Shorter p ls = AreGood (punctuate p ls) → owed p + printed_len (after p) (punctuate p ls) ≤ paid p + lexemes_len ls

pub printed_more : (c : Bool) (t : Token) (ts : List Token)
    → printed_len c (t ∷ ts) ≡ length (separator c t) + length (token_text t) + printed_len (ends t) ts
unfolding print_from
printed_more c t ts = omega (
  arith,
  length-append (separator c t) (token_text t ++ print_from (ends t) ts),
  length-append (token_text t) (print_from (ends t) ts),
)

-- where a value may begin, its comma has been passed
begin_paid : (p : Place) (t : Token) → may_begin p ≡ true → owed p + length (separator (after p) t) ≤ paid p
begin_paid fresh t e = omega arith
begin_paid after_value t e = absurd (false≢true e)
begin_paid after_comma t e = omega (arith, one (begins t))
  where
    one : (b : Bool) → length {A = ℕ} (cond b (44 ∷ []) []) ≤ 1
    one true = omega arith
    one false = omega arith
begin_paid after_key t e = absurd (false≢true e)

close_paid : (p : Place) (t : Token) → begins t ≡ false → may_close p ≡ true → owed p + length (separator (after p) t) ≤ paid p
close_paid fresh t none e = omega arith
close_paid after_value t none e = rw none (omega arith)
close_paid after_comma t none e = absurd (false≢true e)
close_paid after_key t none e = absurd (false≢true e)

-- a token that is allowed, before what the rest gives at the next place
allowed : (p next : Place) (b : Bool) (t : Token) (n w : ℕ) (k : Place → List Token) → ends t ≡ after next
    → (b ≡ true → owed p + length (separator (after p) t) ≤ paid p)
    → (AreGood (k next) → owed next + printed_len (after next) (k next) ≤ paid next + n)
    → length (token_text t) + paid next + n ≤ w + owed next → AreGood (if_allowed b t k next)
    → owed p + printed_len (after p) (if_allowed b t k next) ≤ paid p + w
allowed p next true t n w k e free rest enough good =
    omega (arith, printed_more (after p) t (k next), free refl, rest good.1, ap (λ c. printed_len c (k next)) e)
allowed p next false t n w k e free rest enough good = absurd (false≢true good.0)

string_len : (p : Place) (text : List ℕ) (before_colon : Bool) (n : ℕ) (k : Place → List Token)
    → ((next : Place) → AreGood (k next) → owed next + printed_len (after next) (k next) ≤ paid next + n)
    → AreGood (place_token p (string text) before_colon k)
    → owed p + printed_len (after p) (place_token p (string text) before_colon k) ≤ paid p + (length (token_text (string text)) + n)
string_len p text true n k rest =
    allowed p after_key (may_begin p) (key text) n _ k refl (begin_paid p (key text)) (rest after_key)
    (omega (arith, length-append (token_text (string text)) (58 ∷ [])))
string_len p text false n k rest =
    allowed p after_value (may_begin p) (string text) n _ k refl (begin_paid p (string text)) (rest after_value) (omega arith)

token_len : (p : Place) (t : Token) (before_colon : Bool) (n : ℕ) (k : Place → List Token)
    → ((next : Place) → AreGood (k next) → owed next + printed_len (after next) (k next) ≤ paid next + n)
    → AreGood (place_token p t before_colon k)
    → owed p + printed_len (after p) (place_token p t before_colon k) ≤ paid p + (length (token_text t) + n)
token_len p begin_object c n k rest =
    allowed p fresh (may_begin p) begin_object n _ k refl (begin_paid p begin_object) (rest fresh) (omega arith)
token_len p end_object c n k rest =
    allowed p after_value (may_close p) end_object n _ k refl (close_paid p end_object refl) (rest after_value) (omega arith)
token_len p begin_array c n k rest =
    allowed p fresh (may_begin p) begin_array n _ k refl (begin_paid p begin_array) (rest fresh) (omega arith)
token_len p end_array c n k rest =
    allowed p after_value (may_close p) end_array n _ k refl (close_paid p end_array refl) (rest after_value) (omega arith)
token_len p (key text) c n k rest = λ good. absurd (false≢true good.0)
token_len p (string text) c n k rest = string_len p text c n k rest
token_len p (number text) c n k rest =
    allowed p after_value (may_begin p) (number text) n _ k refl (begin_paid p (number text)) (rest after_value) (omega arith)
token_len p (boolean b) c n k rest =
    allowed p after_value (may_begin p) (boolean b) n _ k refl (begin_paid p (boolean b)) (rest after_value) (omega arith)
token_len p null c n k rest = allowed p after_value (may_begin p) null n _ k refl (begin_paid p null) (rest after_value) (omega arith)
token_len p bad c n k rest = λ good. absurd (false≢true good.0)

punctuate_len : (p : Place) (ls : List Lexeme) → Shorter p ls
unfolding punctuate print_from
punctuate_len fresh [] good = omega arith
punctuate_len after_value [] good = omega arith
punctuate_len after_comma [] good = absurd (false≢true good.0)
punctuate_len after_key [] good = absurd (false≢true good.0)
punctuate_len fresh (token t ∷ ls) good =
    token_len fresh t (begins_colon ls) (lexemes_len ls) (λ next. punctuate next ls) (λ next. punctuate_len next ls) good
punctuate_len after_value (token t ∷ ls) good =
    token_len after_value t (begins_colon ls) (lexemes_len ls) (λ next. punctuate next ls) (λ next. punctuate_len next ls) good
punctuate_len after_comma (token t ∷ ls) good =
    token_len after_comma t (begins_colon ls) (lexemes_len ls) (λ next. punctuate next ls) (λ next. punctuate_len next ls) good
punctuate_len after_key (token t ∷ ls) good =
    token_len after_key t (begins_colon ls) (lexemes_len ls) (λ next. punctuate next ls) (λ next. punctuate_len next ls) good
punctuate_len fresh (comma ∷ ls) good = absurd (false≢true good.0)
punctuate_len after_value (comma ∷ ls) good = omega (arith, punctuate_len after_comma ls good)
punctuate_len after_comma (comma ∷ ls) good = absurd (false≢true good.0)
punctuate_len after_key (comma ∷ ls) good = absurd (false≢true good.0)
punctuate_len fresh (colon ∷ ls) good = absurd (false≢true good.0)
punctuate_len after_value (colon ∷ ls) good = absurd (false≢true good.0)
punctuate_len after_comma (colon ∷ ls) good = absurd (false≢true good.0)
punctuate_len after_key (colon ∷ ls) good = omega (arith, punctuate_len fresh ls good)

pub tokens_len : (text : List ℕ) → AreGood (tokens text) → printed_len false (tokens text) ≤ length text
tokens_len text good = omega (arith, punctuate_len fresh (lex between text) good, lex_len between text)
