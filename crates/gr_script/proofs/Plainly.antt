-- A step, and a delivery, whose line is spelled as it is printed.
use Rattle.std.proofs.Common.{◌≡◌, ◌∙◌, ℕ, ◌+◌, ◌*◌, ◌-◌, ◌/◌, ◌%◌, ◌≤◌, ◌<◌, List, [], ◌∷◌, ◌++◌, Bool, true, false, ◌&&◌, eqb, Option, Some, None}
use Rattle.std.proofs.Common.{refl, sym, ap, subst, arith, inl, inr, decimal, length, take, drop, slice_index_or, get_or, cond, leb, ◌^◌}
use Rattle.std.specs.Prelude.{IfSome, codes}
use Rattle.std.specs.Char.{is_ascii_digit}
use Rattle.std.specs.List.{fold, list_all}
use Rattle.std.proofs.lemmas.Bool.{cases_Bool, eqb-true, cond-true, and_from, and_parts, le-leb, leb-true}
use Rattle.std.proofs.lemmas.Fmt.{decimal_digit, decimal-digits_value}
use Rattle.std.proofs.lemmas.Str.Parse.{IsDigitsTest, IsNumeralModel, numerals_by_fold}
use Rattle.std.proofs.lemmas.List.{append-nil}
use Rattle.itoa.proofs.Decimal.{decimal_two, pair}
use Rattle.std.proofs.Math.Seq.{take-length}
use Rattle.gr_value.specs.KeyBytes.{IsKey}
use Rattle.gr_value.specs.declared.value.Field.{Field}
use Rattle.gr_value.specs.Values.{IsValue}
use Rattle.gr_value.specs.ValueText.{value_text}
use Rattle.gr_history.specs.declared.ask.Ask.TheVariants as ask
use Rattle.gr_script.specs.declared.forms.LineKind.{LineKind}
use Rattle.gr_script.specs.declared.forms.LineKind.TheVariants as kind
use Rattle.gr_script.specs.declared.line.Act.{Act}
use Rattle.gr_script.specs.declared.line.Act.TheVariants.{Call, Query, Peek}
use Rattle.gr_script.specs.declared.operation.Keyed.{Keyed}
use Rattle.gr_script.specs.declared.operation.Keyed.TheVariants.{Get}
use Rattle.gr_script.specs.declared.operation.Operation.TheVariants.{OfKey, OfValue, OfPair}
use Rattle.gr_script.specs.declared.operation.Paired.{Paired}
use Rattle.gr_script.specs.declared.operation.Paired.TheVariants.{ReplaceIf}
use Rattle.gr_script.specs.declared.operation.Valued.{Valued}
use Rattle.gr_script.specs.declared.operation.Valued.TheVariants.{Put}
use Rattle.gr_script.specs.Forms.{word}
use Rattle.gr_script.specs.Numerals.{begins_number, is_number, number_of, worth}
use Rattle.gr_script.specs.Operations.{ask_of_key, ask_of_value, ask_of_pair, operation_word}
use Rattle.gr_script.specs.Plain.{IsPrinted, IsSpelled, IsPlain, delivery_saying}
use Rattle.gr_script.specs.Printed.{act_saying}
use Rattle.gr_script.specs.Printing.{saying_text}
use Rattle.gr_script.specs.Refusals.{is_replayed}
use Rattle.gr_script.specs.Texts.{cut}
use Rattle.gr_script.proofs.Texts.{with_first, cut_there}

-- ---- what is cut is joined again

pub record AreJoined (mark : ℕ) (bytes : List ℕ) (parts : List ℕ × List ℕ) : Type 0 where
  pub joined : bytes ≡ parts.0 ++ mark ∷ parts.1

joined_more : (mark byte : ℕ) (bytes : List ℕ) (parts : Option (List ℕ × List ℕ))
    → IfSome parts (λ p. bytes ≡ p.0 ++ mark ∷ p.1)
    → IfSome (with_first byte parts) (λ p. byte ∷ bytes ≡ p.0 ++ mark ∷ p.1)
joined_more mark byte bytes None are = are
joined_more mark byte bytes (Some p) are = ap (λ (b : List ℕ). byte ∷ b) are

pub cut_joined : (mark : ℕ) (bytes : List ℕ) → IfSome (cut mark bytes) (λ p. bytes ≡ p.0 ++ mark ∷ p.1)
cut_joined mark [] = tt
cut_joined mark (byte ∷ bytes) =
    elim (cases_Bool (eqb byte mark)) [
      | inl is ↦
          subst (λ (found : Option (List ℕ × List ℕ)). IfSome found (λ p. byte ∷ bytes ≡ p.0 ++ mark ∷ p.1))
          (sym (cond-true (eqb byte mark) (Some ([], bytes)) (with_first byte (cut mark bytes)) is))
          (ap (λ (b : ℕ). b ∷ bytes) (eqb-true byte mark is))
      | inr isnt ↦
          subst (λ (found : Option (List ℕ × List ℕ)). IfSome found (λ p. byte ∷ bytes ≡ p.0 ++ mark ∷ p.1))
          (sym (cut_there mark byte bytes isnt))
          (joined_more mark byte bytes (cut mark bytes) (cut_joined mark bytes))
    ]

-- ---- a number of one digit or two

all_taken : (few : ℕ) (rest : List ℕ) (all : ℕ) → all ≡ few + length rest → take (all - few) rest ≡ rest
all_taken few rest all is =
    let count : all - few ≡ length rest = omega (arith, is) in
    ap (λ (n : ℕ). take n rest) count ∙ take-length rest

pub one_digit : (mark : ℕ) (text : List ℕ) (n : ℕ) → 2 ≤ length text → slice_index_or text 0 0 ≡ 48 + n
    → slice_index_or text 1 0 ≡ mark → n < 10 → text ≡ decimal n ++ mark ∷ take (length text - 2) (drop 2 text)
one_digit mark [] n long ones behind few = absurd (omega (arith, long))
one_digit mark (a ∷ []) n long ones behind few = absurd (omega (arith, long))
one_digit mark (a ∷ b ∷ rest) n long ones behind few =
    let whole : take (length (a ∷ b ∷ rest) - 2) rest ≡ rest = all_taken 2 rest (length (a ∷ b ∷ rest)) (omega arith) in
    (λ i. ones i ∷ behind i ∷ sym whole i)
    ∙ ap (λ (digits : List ℕ). digits ++ mark ∷ take (length (a ∷ b ∷ rest) - 2) rest) (sym (decimal_digit n few))

two_pair : (tens ones : ℕ) → ones < 10 → pair (tens * 10 + ones) ≡ (48 + tens) ∷ (48 + ones) ∷ []
two_pair tens ones few =
    let high : (tens * 10 + ones) / 10 ≡ tens = omega (arith, few) in
    let low : (tens * 10 + ones) % 10 ≡ ones = omega (arith, few) in
    (λ i. (48 + high i) ∷ (48 + low i) ∷ [])

pub two_digits : (mark : ℕ) (text : List ℕ) (tens ones : ℕ) → 3 ≤ length text → slice_index_or text 0 0 ≡ 48 + tens
    → slice_index_or text 1 0 ≡ 48 + ones → slice_index_or text 2 0 ≡ mark → 0 < tens → tens < 10 → ones < 10
    → text ≡ decimal (tens * 10 + ones) ++ mark ∷ take (length text - 3) (drop 3 text)
two_digits mark [] tens ones long a_is b_is behind some few small = absurd (omega (arith, long))
two_digits mark (a ∷ []) tens ones long a_is b_is behind some few small = absurd (omega (arith, long))
two_digits mark (a ∷ b ∷ []) tens ones long a_is b_is behind some few small = absurd (omega (arith, long))
two_digits mark (a ∷ b ∷ c ∷ rest) tens ones long a_is b_is behind some few small =
    let whole : take (length (a ∷ b ∷ c ∷ rest) - 3) rest ≡ rest = all_taken 3 rest (length (a ∷ b ∷ c ∷ rest)) (omega arith) in
    (λ i. a_is i ∷ b_is i ∷ behind i ∷ sym whole i)
    ∙ ap (λ (digits : List ℕ). digits ++ mark ∷ take (length (a ∷ b ∷ c ∷ rest) - 3) rest)
    (sym (decimal_two (tens * 10 + ones) (omega (arith, some)) (omega (arith, few, small)) ∙ two_pair tens ones small))

-- ---- what stands in front

pub space_joined : (text : List ℕ) (parts : List ℕ × List ℕ) → cut 0x20 text ≡ Some parts → text ≡ parts.0 ++ 0x20 ∷ parts.1
space_joined text parts is =
    subst (λ (found : Option (List ℕ × List ℕ)). IfSome found (λ p. text ≡ p.0 ++ 0x20 ∷ p.1)) is (cut_joined 0x20 text)

-- ---- what is printed for a step

module _ (key : List ℕ) (kept : IsKey key) where
  alone : (form : LineKind) (client : ℕ) → decimal client ++ 0x20 ∷ (word form ++ 0x20 ∷ (key ++ []))
      ≡ decimal client ++ 0x20 ∷ (word form ++ 0x20 ∷ key)
  alone form client = ap (λ (k : List ℕ). decimal client ++ 0x20 ∷ (word form ++ 0x20 ∷ k)) (append-nil key)

  pub keyed_spelled : (operation : Keyed) → IsSpelled (kind.Call (OfKey operation)) key (Call (ask_of_key operation key))
  keyed_spelled Get = record { text = alone (kind.Call (OfKey Get)); is = λ client. refl; kept = kept; plain = tt }
  keyed_spelled operation = record { text = alone (kind.Call (OfKey operation)); is = λ client. refl; kept = kept; plain = tt }

  pub peek_spelled : IsSpelled kind.Peek key (Peek key)
  peek_spelled = record { text = alone kind.Peek; is = λ client. refl; kept = kept; plain = tt }

module _ (key : List ℕ) (value : List Field) (is_key : IsKey key) (is_value : IsValue value) where
  behind : (form : LineKind) (client : ℕ)
      → decimal client ++ 0x20 ∷ (word form ++ 0x20 ∷ (key ++ 0x20 ∷ (value_text value ++ [])))
      ≡ decimal client ++ 0x20 ∷ (word form ++ 0x20 ∷ (key ++ 0x20 ∷ value_text value))
  behind form client =
      ap (λ (v : List ℕ). decimal client ++ 0x20 ∷ (word form ++ 0x20 ∷ (key ++ 0x20 ∷ v))) (append-nil (value_text value))

  pub valued_spelled : (operation : Valued)
      → IsSpelled (kind.Call (OfValue operation)) (key ++ 0x20 ∷ value_text value) (Call (ask_of_value operation key value))
  valued_spelled Put = record { text = behind (kind.Call (OfValue Put)); is = λ client. refl; kept = (is_key, is_value); plain = tt }
  valued_spelled operation =
      record { text = behind (kind.Call (OfValue operation)); is = λ client. refl; kept = (is_key, is_value); plain = tt }

pub paired_spelled : (operation : Paired) (key : List ℕ) (old new : List Field) → IsKey key → IsValue old → IsValue new
    → IsSpelled (kind.Call (OfPair operation)) (key ++ 0x20 ∷ (value_text old ++ 0x20 ∷ value_text new))
    (Call (ask_of_pair operation key old new))
paired_spelled ReplaceIf key old new is_key is_old is_new = record {
  text = λ client.
      ap (λ (v : List ℕ). decimal client ++ 0x20 ∷ (operation_word (OfPair ReplaceIf) ++ 0x20 ∷ (key ++ 0x20 ∷ (value_text old ++ 0x20 ∷ v))))
      (append-nil (value_text new));
  is = λ client. refl;
  kept = (is_key, is_old, is_new);
  plain = tt;
}

-- the same behind what is said of the rest otherwise
pub spelled_as : (form : LineKind) (rest other : List ℕ) (act : Act) → rest ≡ other → IsSpelled form other act → IsSpelled form rest act
spelled_as form rest other act same is = subst (λ (text : List ℕ). IsSpelled form text act) (sym same) is

pub printed : (line rest behind : List ℕ) (form : LineKind) (client : ℕ) (act : Act) → line ≡ decimal client ++ 0x20 ∷ rest
    → rest ≡ word form ++ 0x20 ∷ behind → IsSpelled form behind act
    → IsPrinted line (record { kind = form; client = client; act = act })
printed line rest behind form client act line_is rest_is is = record {
  text = line_is ∙ ap (λ (r : List ℕ). decimal client ++ 0x20 ∷ r) rest_is ∙ sym (is.text client);
  is = is.is client;
  kept = is.kept;
  plain = is.plain;
}

-- It stands in runs, too.
pub quiet : (runs : Bool) (client : ℕ) (act : Act) → IsPlain act → (runs && is_replayed (act_saying client act).kind) ≡ false
quiet false client act plain = refl
quiet true client (Query asked) plain = absurd plain
quiet true client (Peek key) plain = refl
quiet true client (Call (ask.Get key)) plain = refl
quiet true client (Call _) plain = refl

-- ---- a number of any digits

abbrev AreDigits : List ℕ → Type 0
AreDigits text = list_all is_ascii_digit text ≡ true

tells_digits : IsDigitsTest AreDigits
tells_digits = record {
  empty = refl;
  parts = λ c cs all. let both = and_parts (is_ascii_digit c) (list_all is_ascii_digit cs) all in
      let ends = and_parts (leb 48 c) (leb c 57) both.0 in ((leb-true 48 c ends.0, leb-true c 57 ends.1), both.1);
  more = λ c cs within all. and_from _ _ (and_from _ _ (le-leb 48 c within.0) (le-leb c 57 within.1)) all;
}

abbrev worth_from : ℕ → List ℕ → ℕ
worth_from number digits = fold (λ number digit. number * 10 + (digit - 0x30)) number digits

numerals : IsNumeralModel AreDigits worth
numerals = numerals_by_fold AreDigits tells_digits worth_from (record { empty = λ n. refl; more = λ n c cs within. refl })

one_zero : (text : List ℕ) → begins_number text ≡ true → get_or text 0 0 ≡ 48 → length text ≡ 1
one_zero [] begun zero = absurd (omega (arith, zero))
one_zero (first ∷ more) begun zero = grind (arith, begun, zero)

pub decimal_of : (text : List ℕ) (number : ℕ) → number_of text ≡ Some number → number < 2 ^ 32 → text ≡ decimal number
decimal_of text number is few =
    let read = some_only (is_number text) (worth text) number is in
    let begun = and_parts (begins_number text && leb (length text) 20) (list_all is_ascii_digit text) read.0 in
    let first = and_parts (begins_number text) (leb (length text) 20) begun.0 in
    sym (decimal-digits_value numerals text begun.1 (some_digits text first.0) (one_zero text first.0) (omega (arith, few, read.1)))
    ∙ ap decimal read.1
  where
    some_only : (test : Bool) (worth number : ℕ) → cond test (Some worth) None ≡ Some number → (test ≡ true) × (worth ≡ number)
    some_only true worth number is = (refl, cc)
    some_only false worth number is = absurd cc

    some_digits : (text : List ℕ) → begins_number text ≡ true → 0 < length text
    some_digits [] begun = absurd cc
    some_digits (first ∷ more) begun = omega arith

-- ---- a delivery

pub delivery_printed : (line rest behind text : List ℕ) (to client seq : ℕ) → line ≡ codes "deliver " ++ rest
    → rest ≡ decimal to ++ 0x20 ∷ behind → behind ≡ decimal client ++ 0x2E ∷ text → text ≡ decimal seq
    → line ≡ saying_text (delivery_saying (record { to = to; client = client; seq = seq }))
delivery_printed line rest behind text to client seq line_is rest_is behind_is text_is =
    line_is
    ∙ ap (λ (r : List ℕ). codes "deliver " ++ r) (rest_is ∙ ap (λ (b : List ℕ). decimal to ++ 0x20 ∷ b)
    (behind_is ∙ ap (λ (t : List ℕ). decimal client ++ 0x2E ∷ t) text_is ∙ sym (append-nil (decimal client ++ 0x2E ∷ decimal seq))))
