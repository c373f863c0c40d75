-- What is read is spelled so.
use Rattle.std.proofs.Common.{◌≡◌, ℕ, zero, suc, pos, neg_ℤ, List, [], ◌∷◌, ◌++◌, length, Ok, Option, Some, None, Bool, true, false, leb}
use Rattle.std.proofs.Common.{if◌then◌else◌, ltb, inl, inr, ⊎_elim, refl, sym, ap, ◌∙◌, subst, append_assoc, append-nil}
use Rattle.std.proofs.lemmas.Bool.{leb-true, ltb-true}
use Rattle.gr_value.specs.declared.scalar.Scalar.{Scalar}
use Rattle.gr_value.specs.declared.scalar.Scalar.TheVariants as scalar
use Rattle.gr_lex.specs.declared.token.Symbol.{Symbol}
use Rattle.gr_lex.specs.declared.token.Symbol.TheVariants as symbols
use Rattle.gr_lex.specs.Bytes.{greatest_number}
use Rattle.gr_oql.specs.declared.keyword.Keyword.{Keyword}
use Rattle.gr_oql.specs.declared.keyword.Keyword.TheVariants as word
use Rattle.gr_oql.specs.declared.condition.Operand.{Operand}
use Rattle.gr_oql.specs.declared.condition.Operand.TheVariants as operand
use Rattle.gr_oql.specs.Terminals.{Terminal, begins, front, rest, is_symbol, is_keyword, as_name, as_word, as_number, as_quoted}
use Rattle.gr_oql.specs.declared.halt.Wrong.TheVariants.{Expected}
use Rattle.gr_oql.specs.Reader.Reading.{
  Reading,
  stop,
  symbol_at,
  keyword_at,
  word_by,
  name_at,
  field_of_name,
  field_by,
  field_at,
  negative_by,
}
use Rattle.gr_oql.specs.Reader.Reading.{negative_at, plain_by, literal_at, operand_by, operand_at, more_at, separated_at}
use Rattle.gr_oql.specs.Grammar.{One, Is, ◌then◌, Row, Field, Literal, IsOperand, is_alias}
use Rattle.gr_oql.proofs.Readings.{chosen, bound, made_of, value_is, left_is}

-- The front of the terminals spells so, and these are left behind it.
pub record Front (P : List Terminal → Type 0) (ts left : List Terminal) : Type 0 where
  pub spelled : List Terminal
  pub split : ts ≡ spelled ++ left
  pub holds : P spelled

-- a reader that reads only what is spelled so
abbrev pub Sound : {A : Type 0} → (A → List Terminal → Type 0) → (List Terminal → Reading A) → Type 0
Sound {A} Spells item = (ts : List Terminal) (x : A) (left : List Terminal) → item ts ≡ Ok (x, left) → Front (Spells x) ts left

pub joined : (P Q : List Terminal → Type 0) (ts middle left : List Terminal) → Front P ts middle → Front Q middle left
    → Front (P then Q) ts left
joined P Q ts middle left one two = record {
  spelled = one.spelled ++ two.spelled;
  split = one.split ∙ ap (λ (l : List Terminal). one.spelled ++ l) two.split ∙ sym (append_assoc one.spelled two.spelled left);
  holds = (one.spelled, two.spelled, refl, one.holds, two.holds);
}

pub weaker : (P Q : List Terminal → Type 0) (ts left : List Terminal) → ((l : List Terminal) → P l → Q l) → Front P ts left
    → Front Q ts left
weaker P Q ts left turns one = record { spelled = one.spelled; split = one.split; holds = turns one.spelled one.holds }

-- one terminal
pub one_begins : (passes : Terminal → Bool) (ts : List Terminal) → begins passes ts ≡ true → Front (One passes) ts (rest ts)
one_begins passes [] is = absurd (cc)
one_begins passes (t ∷ ts) is = record { spelled = t ∷ []; split = refl; holds = (t, is, refl) }

pub one_has : {A : Type 0} (part : Terminal → Option A) (x : A) (ts : List Terminal) → front part ts ≡ Some x
    → Front (Is part x) ts (rest ts)
one_has part x [] is = absurd (cc)
one_has part x (t ∷ ts) is = record { spelled = t ∷ []; split = refl; holds = (t, is, refl) }

-- one terminal that is due
due_sound : (passes : Terminal → Bool)
    → Sound (λ (x : Unit {0}). One passes) (λ ts. if begins passes ts then Ok (tt, rest ts) else stop Expected ts)
due_sound passes ts x left read =
    ⊎_elim
    (λ h. subst (Front (One passes) ts) (left_is h.1) (one_begins passes ts h.0))
    (λ h. absurd (cc h.1))
    (chosen (begins passes ts) _ _ _ read)

pub symbol_sound : (s : Symbol) → Sound (λ _. One (is_symbol s)) (symbol_at s)
symbol_sound s = due_sound (is_symbol s)

pub keyword_sound : (k : Keyword) → Sound (λ _. One (is_keyword k)) (keyword_at k)
keyword_sound k = due_sound (is_keyword k)

word_sound : (part : Terminal → Option (List ℕ)) (ts : List Terminal) (o : Option (List ℕ)) (w : List ℕ) (left : List Terminal)
    → o ≡ front part ts → word_by o ts ≡ Ok (w, left) → Front (Is part w) ts left
word_sound part ts None w left is read = absurd (cc)
word_sound part ts (Some v) w left is read =
    subst (λ (u : List ℕ). Front (Is part u) ts left) (value_is read)
    (subst (Front (Is part v) ts) (left_is read) (one_has part v ts (sym is)))

pub name_sound : Sound (Is as_name) name_at
name_sound ts w left read = word_sound as_name ts _ w left refl read

-- fields, literals and operands
module _ (alias : Option (List ℕ)) where
  -- what a name begins, where the name stands before these terminals
  named_sound : (t : Terminal) (w : List ℕ) (ts : List Terminal) (f : List ℕ) (left : List Terminal) → as_name t ≡ Some w
      → field_of_name alias w ts ≡ Ok (f, left) → Front (Field alias f) (t ∷ ts) left
  named_sound t w ts f left is read =
      ⊎_elim
      (λ h.
      let dot = bound (symbol_at symbols.Dot ts) _ f left h.1 in
      let dotted = symbol_sound symbols.Dot ts dot.0 dot.1 dot.2 in
      let member = word_sound as_word dot.1 _ f left refl dot.3 in
      let name : Front (Is as_name w) (t ∷ ts) ts = record { spelled = t ∷ []; split = refl; holds = (t, is, refl) } in
      weaker _ (Field alias f) (t ∷ ts) left (λ l spelled. inr (w, h.0, spelled))
      (joined (Is as_name w) (One (is_symbol symbols.Dot) then Is as_word f) (t ∷ ts) ts left name
      (joined (One (is_symbol symbols.Dot)) (Is as_word f) ts dot.1 left dotted member)))
      (λ h.
      let same : w ≡ f = value_is h.1 in
      record {
        spelled = t ∷ [];
        split = ap (λ (l : List Terminal). t ∷ l) (left_is h.1);
        holds = inl (subst (λ (u : List ℕ). is_alias alias u ≡ false) same h.0, (t, is ∙ ap Some same, refl));
      })
      (chosen (is_alias alias w) _ _ _ read)

  field_sound_by : (ts : List Terminal) (o : Option (List ℕ)) (f : List ℕ) (left : List Terminal) → o ≡ front as_name ts
      → field_by alias o ts ≡ Ok (f, left) → Front (Field alias f) ts left
  field_sound_by ts None f left is read = absurd (cc)
  field_sound_by [] (Some w) f left is read = absurd (cc)
  field_sound_by (t ∷ ts) (Some w) f left is read = named_sound t w ts f left (sym is) read

  pub field_sound : Sound (Field alias) (field_at alias)
  field_sound ts f left read = field_sound_by ts _ f left refl read

negative_sound : (minus : Terminal) → is_symbol symbols.Minus minus ≡ true
    → (ts : List Terminal) (o : Option ℕ) (x : Scalar) (left : List Terminal) → o ≡ front as_number ts → negative_by o ts ≡ Ok (x, left)
    → Front (Literal x) (minus ∷ ts) left
negative_sound minus sign ts None x left is read = absurd (cc)
negative_sound minus sign ts (Some n) x left is read =
    ⊎_elim
    (λ h.
    let number = one_has as_number n ts (sym is) in
    let signed : Front (One (is_symbol symbols.Minus)) (minus ∷ ts) ts =
    record { spelled = minus ∷ []; split = refl; holds = (minus, sign, refl) } in
    subst (λ (y : Scalar). Front (Literal y) (minus ∷ ts) left) (value_is h.1)
    (subst (Front (Literal (scalar.Int (neg_ℤ (pos n)))) (minus ∷ ts)) (left_is h.1)
    (weaker _ (Literal (scalar.Int (neg_ℤ (pos n)))) (minus ∷ ts) (rest ts) (λ l spelled. inr (n, leb-true n _ h.0, refl, spelled))
    (joined (One (is_symbol symbols.Minus)) (Is as_number n) (minus ∷ ts) ts (rest ts) signed number))))
    (λ h. absurd (cc h.1))
    (chosen (leb n greatest_number) _ _ _ read)

plain_sound : (ts : List Terminal) (o : Option ℕ) (p : Option (List ℕ)) (x : Scalar) (left : List Terminal) → o ≡ front as_number ts
    → p ≡ front as_quoted ts → plain_by o p ts ≡ Ok (x, left) → Front (Literal x) ts left
plain_sound ts (Some n) p x left is quoted_is read =
    ⊎_elim
    (λ h.
    subst (λ (y : Scalar). Front (Literal y) ts left) (value_is h.1)
    (subst (Front (Literal (scalar.Int (pos n))) ts) (left_is h.1)
    (weaker _ (Literal (scalar.Int (pos n))) ts (rest ts) (λ l spelled. inl (n, ltb-true n _ h.0, refl, spelled))
    (one_has as_number n ts (sym is)))))
    (λ h. absurd (cc h.1))
    (chosen (ltb n greatest_number) _ _ _ read)
plain_sound ts None (Some text) x left is quoted_is read =
    subst (λ (y : Scalar). Front (Literal y) ts left) (value_is read)
    (subst (Front (Literal (scalar.Text text)) ts) (left_is read) (one_has as_quoted text ts (sym quoted_is)))
plain_sound ts None None x left is quoted_is read = absurd (cc)

-- a terminal that stands for a value
pub fixed_sound : {A : Type 0} (Spells : A → List Terminal → Type 0) (passes : Terminal → Bool) (v x : A) (ts left : List Terminal)
    → begins passes ts ≡ true → ((l : List Terminal) → One passes l → Spells v l) → ◌≡◌ {A = Reading A} (Ok (v, rest ts)) (Ok (x, left))
    → Front (Spells x) ts left
fixed_sound {A} Spells passes v x ts left is turns read =
    subst (λ (y : A). Front (Spells y) ts left) (value_is read)
    (subst (Front (Spells v) ts) (left_is read) (weaker (One passes) (Spells v) ts (rest ts) turns (one_begins passes ts is)))

minus_sound : (ts : List Terminal) (x : Scalar) (left : List Terminal) → begins (is_symbol symbols.Minus) ts ≡ true
    → negative_at (rest ts) ≡ Ok (x, left) → Front (Literal x) ts left
minus_sound [] x left is read = absurd (cc)
minus_sound (t ∷ ts) x left is read = negative_sound t is ts _ x left refl read

pub literal_sound : Sound Literal literal_at
literal_sound ts x left read =
    ⊎_elim (λ h. minus_sound ts x left h.0 h.1) (λ r1.
    ⊎_elim (λ h. fixed_sound Literal (is_keyword word.True) (scalar.Bool true) x ts left h.0 (λ l is. is) h.1) (λ r2.
    ⊎_elim (λ h. fixed_sound Literal (is_keyword word.False) (scalar.Bool false) x ts left h.0 (λ l is. is) h.1) (λ r3.
    ⊎_elim (λ h. fixed_sound Literal (is_keyword word.Null) scalar.Null x ts left h.0 (λ l is. is) h.1)
    (λ r4. plain_sound ts _ _ x left refl refl r4.1)
    (chosen (begins (is_keyword word.Null) ts) _ _ _ r3.1)) (chosen (begins (is_keyword word.False) ts) _ _ _ r2.1))
    (chosen (begins (is_keyword word.True) ts) _ _ _ r1.1)) (chosen (begins (is_symbol symbols.Minus) ts) _ _ _ read)

module _ (alias : Option (List ℕ)) where
  operand_sound_by : (ts : List Terminal) (o : Option (List ℕ)) (x : Operand) (left : List Terminal) → o ≡ front as_name ts
      → operand_by alias o ts ≡ Ok (x, left) → Front (IsOperand alias x) ts left
  operand_sound_by [] (Some w) x left is read = absurd (cc)
  operand_sound_by (t ∷ ts) (Some w) x left is read =
      let m = made_of operand.Field (field_of_name alias w ts) x left read in
      subst (λ (y : Operand). Front (IsOperand alias y) (t ∷ ts) left) m.2 (named_sound alias t w ts m.0 left (sym is) m.1)
  operand_sound_by ts None x left is read =
      let m = made_of operand.Literal (literal_at ts) x left read in
      subst (λ (y : Operand). Front (IsOperand alias y) ts left) m.2 (literal_sound ts m.0 left m.1)

  pub operand_sound : Sound (IsOperand alias) (operand_at alias)
  operand_sound ts x left read = operand_sound_by ts _ x left refl read

-- rows
module _ {A : Type 0} (separator : Terminal → Bool) (item : List Terminal → Reading A) (Spells : A → List Terminal
    → Type 0) (sound : Sound Spells item) where
  -- a row that goes on behind its first item
  abbrev Behind : A → List A → List Terminal → List Terminal → Type 0
  Behind x xs ts left = (spelled : List Terminal) × (ts ≡ spelled ++ left)
      × ((first : List Terminal) → Spells x first → Row separator Spells (x ∷ xs) (first ++ spelled))

  more_sound : (turns : ℕ) (x : A) (ts : List Terminal) (xs : List A) (left : List Terminal)
      → more_at separator item turns ts ≡ Ok (xs, left) → Behind x xs ts left
  more_sound zero x ts xs left read =
      subst (λ (l : List A). Behind x l ts left) (value_is read) (
        [],
        left_is read,
        λ first holds. subst (Spells x) (sym (append-nil first)) holds,
      )
  more_sound (suc turns) x ts xs left read =
      ⊎_elim
      (λ h.
      let next = bound (item (rest ts)) _ xs left h.1 in
      let m = made_of (λ ys. next.0 ∷ ys) (more_at separator item turns next.1) xs left next.3 in
      let one = one_begins separator ts h.0 in
      let found = sound (rest ts) next.0 next.1 next.2 in
      let later = more_sound turns next.0 next.1 m.0 left m.1 in
      let row = later.2 found.spelled found.holds in
      subst (λ (l : List A). Behind x l ts left) m.2 (
        one.spelled ++ (found.spelled ++ later.0),
        one.split ∙ ap (λ (l : List Terminal). one.spelled ++ l) (found.split ∙ ap (λ (l : List Terminal). found.spelled ++ l) later.1
            ∙ sym (append_assoc found.spelled later.0 left)) ∙ sym (append_assoc one.spelled (found.spelled ++ later.0) left),
        λ first holds. (
          first,
          one.spelled
              ++ (found.spelled ++ later.0),
          refl,
          holds,
          (one.spelled, found.spelled ++ later.0, refl, one.holds, row),
        ),
      ))
      (λ h. subst (λ (l : List A). Behind x l ts left) (value_is h.1) (
        [],
        left_is h.1,
        λ first holds. subst (Spells x) (sym (append-nil first)) holds,
      ))
      (chosen (begins separator ts) _ _ _ read)

  pub row_sound : Sound (Row separator Spells) (separated_at separator item)
  row_sound ts xs left read =
      let first = bound (item ts) _ xs left read in
      let m = made_of (λ ys. first.0 ∷ ys) (more_at separator item (length first.1) first.1) xs left first.3 in
      let found = sound ts first.0 first.1 first.2 in
      let later = more_sound (length first.1) first.0 first.1 m.0 left m.1 in
      subst (λ (l : List A). Front (Row separator Spells l) ts left) m.2 (record {
        spelled = found.spelled ++ later.0;
        split = found.split ∙ ap (λ (l : List Terminal). found.spelled ++ l) later.1 ∙ sym (append_assoc found.spelled later.0 left);
        holds = later.2 found.spelled found.holds;
      })
