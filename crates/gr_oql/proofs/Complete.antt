-- What is spelled so is read.
use Rattle.std.proofs.Common.{◌≡◌, ℕ, zero, suc, ◌≤◌, List, [], ◌∷◌, ◌++◌, length, Ok, Option, Some, None, Bool, true, false, inl, inr}
use Rattle.std.proofs.Common.{refl, sym, ap, ◌∙◌, subst, arith, append_assoc, length-append, bytes_eq}
use Rattle.std.proofs.lemmas.Bool.{le-leb, lt-ltb}
use Rattle.std.proofs.lemmas.Slice.Eq.{bytes_eq-Decides}
use Rattle.gr_value.specs.declared.scalar.Scalar.{Scalar}
use Rattle.gr_value.specs.declared.scalar.Scalar.TheVariants as scalar
use Rattle.gr_lex.specs.declared.token.Symbol.{Symbol}
use Rattle.gr_lex.specs.declared.token.Symbol.TheVariants as symbols
use Rattle.gr_lex.specs.Bytes.{spelling}
use Rattle.gr_lex.specs.Bytes.{greatest_number}
use Rattle.gr_oql.specs.declared.keyword.Keyword.{Keyword}
use Rattle.gr_oql.specs.declared.keyword.Keyword.TheVariants as word
use Rattle.gr_oql.specs.declared.condition.Operand.TheVariants as operand
use Rattle.gr_oql.specs.Words.{letters, keyword_eq}
use Rattle.gr_oql.specs.Terminals.{Terminal, keyword, name, number, quoted, symbol, symbol_eq, begins, front, is_symbol, is_keyword}
use Rattle.gr_oql.specs.Terminals.{as_name, as_word, as_number, as_quoted}
use Rattle.gr_oql.specs.Reader.Reading.{Reading, symbol_at, keyword_at, field_of_name, field_at, literal_at, operand_at, more_at}
use Rattle.gr_oql.specs.Reader.Reading.{separated_at}
use Rattle.gr_oql.specs.Grammar.{One, Is, ◌then◌, Row, Field, Literal, IsOperand}
use Rattle.gr_oql.proofs.Sound.{Front}

-- a reader that reads whatever is spelled so, where what is left allows it
abbrev pub Complete : {A : Type 0} → (List Terminal → Type 0) → (A → List Terminal → Type 0) → (List Terminal → Reading A) → Type 0
Complete {A} Allows Spells item = (ts : List Terminal) (x : A) (left : List Terminal) → Allows left → Front (Spells x) ts left
    → item ts ≡ Ok (x, left)

abbrev pub Always : List Terminal → Type 0
Always left = Unit {0}

-- the parts of a front
pub first_of : (passes : Terminal → Bool) (ts left : List Terminal) → Front (One passes) ts left → (t : Terminal) × (passes t ≡ true)
    × (ts ≡ t ∷ left)
first_of passes ts left f = (f.holds.0, f.holds.1, f.split ∙ ap (λ (l : List Terminal). l ++ left) f.holds.2)

pub has_of : {A : Type 0} (part : Terminal → Option A) (x : A) (ts left : List Terminal) → Front (Is part x) ts left → (t : Terminal)
    × (part t ≡ Some x) × (ts ≡ t ∷ left)
has_of part x ts left f = (f.holds.0, f.holds.1, f.split ∙ ap (λ (l : List Terminal). l ++ left) f.holds.2)

pub parts_of : (P Q : List Terminal → Type 0) (ts left : List Terminal) → Front (P then Q) ts left → (middle : List Terminal)
    × Front P ts middle × Front Q middle left
parts_of P Q ts left f =
    let h = f.holds in (
      h.1 ++ left,
      record {
        spelled = h.0;
        split = f.split ∙ ap (λ (l : List Terminal). l ++ left) h.2 ∙ append_assoc h.0 h.1 left;
        holds =
            h.3;
      },
      record { spelled = h.1; split = refl; holds = h.4 },
    )

-- What a terminal is, it alone is.
pub name_no_symbol : (s : Symbol) (t : Terminal) (w : List ℕ) → as_name t ≡ Some w → is_symbol s t ≡ false
name_no_symbol s (symbol u) w is = absurd (cc)
name_no_symbol s _ w is = refl

pub name_no_keyword : (k : Keyword) (t : Terminal) (w : List ℕ) → as_name t ≡ Some w → is_keyword k t ≡ false
name_no_keyword k (keyword u v) w is = absurd (cc)
name_no_keyword k _ w is = refl

pub number_is : (t : Terminal) (n : ℕ) → as_number t ≡ Some n → t ≡ number n
number_is (number m) n is = ap number (cc)
number_is _ n is = absurd (cc)

pub quoted_is : (t : Terminal) (p : List ℕ) → as_quoted t ≡ Some p → t ≡ quoted p
quoted_is (quoted q) p is = ap quoted (cc)
quoted_is _ p is = absurd (cc)

pub keyword_no_symbol : (k : Keyword) (s : Symbol) (t : Terminal) → is_keyword k t ≡ true → is_symbol s t ≡ false
keyword_no_symbol k s (symbol u) is = absurd (cc)
keyword_no_symbol k s _ is = refl

pub keyword_no_name : (k : Keyword) (t : Terminal) → is_keyword k t ≡ true → as_name t ≡ None
keyword_no_name k (name v) is = absurd (cc)
keyword_no_name k _ is = refl

pub symbol_no_keyword : (s : Symbol) (k : Keyword) (t : Terminal) → is_symbol s t ≡ true → is_keyword k t ≡ false
symbol_no_keyword s k (keyword u v) is = absurd (cc)
symbol_no_keyword s k _ is = refl

pub symbol_no_name : (s : Symbol) (t : Terminal) → is_symbol s t ≡ true → as_name t ≡ None
symbol_no_name s (name v) is = absurd (cc)
symbol_no_name s _ is = refl

pub keyword_other : (k other : Keyword) (t : Terminal) → keyword_eq k other ≡ false → is_keyword k t ≡ true → is_keyword other t ≡ false
keyword_other k other (keyword u v) differ is =
    ap (λ (l : List ℕ). bytes_eq l (letters other)) ((bytes_eq-Decides (letters u) (letters k)).0 is) ∙ differ
keyword_other k other _ differ is = refl

pub symbol_other : (s other : Symbol) (t : Terminal) → symbol_eq s other ≡ false → is_symbol s t ≡ true → is_symbol other t ≡ false
symbol_other s other (symbol u) differ is =
    ap (λ (l : List ℕ). bytes_eq l (spelling other)) ((bytes_eq-Decides (spelling u) (spelling s)).0 is) ∙ differ
symbol_other s other _ differ is = refl

-- terminals that are due
pub symbol_complete : (s : Symbol) (ts left : List Terminal) → Front (One (is_symbol s)) ts left → symbol_at s ts ≡ Ok (tt, left)
symbol_complete s ts left f = let h = first_of (is_symbol s) ts left f in rw (h.2, h.1) refl

pub keyword_complete : (k : Keyword) (ts left : List Terminal) → Front (One (is_keyword k)) ts left → keyword_at k ts ≡ Ok (tt, left)
keyword_complete k ts left f = let h = first_of (is_keyword k) ts left f in rw (h.2, h.1) refl

-- fields, literals and operands
pub field_of_name_complete : (alias : Option (List ℕ)) (f : List ℕ) (ts left : List Terminal) → Front (Field alias f) ts left
    → (t : Terminal) × (w : List ℕ) × (more : List Terminal) × (ts ≡ t ∷ more) × (as_name t ≡ Some w)
    × (field_of_name alias w more ≡ Ok (f, left))
field_of_name_complete alias f ts left found = by_case found.holds
  where
    by_case : Field alias f found.spelled → (t : Terminal) × (w : List ℕ) × (more : List Terminal) × (ts ≡ t ∷ more) × (as_name t ≡ Some w)
        × (field_of_name alias w more ≡ Ok (f, left))
    by_case (inl h) =
        let name = has_of as_name f ts left (record { spelled = found.spelled; split = found.split; holds = h.1 }) in
        (name.0, f, left, name.2, name.1, rw h.0 refl)
    by_case (inr h) =
        let dotted = parts_of (Is as_name h.0) (One (is_symbol symbols.Dot) then Is as_word f) ts left
        (record { spelled = found.spelled; split = found.split; holds = h.2 }) in
        let name = has_of as_name h.0 ts dotted.0 dotted.1 in
        let member = parts_of (One (is_symbol symbols.Dot)) (Is as_word f) dotted.0 left dotted.2 in
        let dot = symbol_complete symbols.Dot dotted.0 member.0 member.1 in
        let last = has_of as_word f member.0 left member.2 in
        (name.0, h.0, dotted.0, name.2, name.1, rw (h.1, dot, last.2, last.1) refl)

pub field_complete : (alias : Option (List ℕ)) → Complete Always (Field alias) (field_at alias)
field_complete alias ts f left always found =
    let h = field_of_name_complete alias f ts left found in
    rw (h.3, h.4) h.5

pub literal_complete : Complete Always Literal literal_at
literal_complete ts scalar.Null left always f =
    let h = first_of (is_keyword word.Null) ts left f in
    rw (
      h.2,
      keyword_no_symbol word.Null symbols.Minus h.0 h.1,
      keyword_other word.Null word.True h.0 refl h.1,
      keyword_other word.Null word.False h.0 refl h.1,
      h.1,
    ) refl
literal_complete ts (scalar.Bool true) left always f =
    let h = first_of (is_keyword word.True) ts left f in
    rw (h.2, keyword_no_symbol word.True symbols.Minus h.0 h.1, h.1) refl
literal_complete ts (scalar.Bool false) left always f =
    let h = first_of (is_keyword word.False) ts left f in
    rw (h.2, keyword_no_symbol word.False symbols.Minus h.0 h.1, keyword_other word.False word.True h.0 refl h.1, h.1) refl
literal_complete ts (scalar.Text text) left always f =
    let h = has_of as_quoted text ts left f in
    rw (h.2, quoted_is h.0 text h.1) refl
literal_complete ts (scalar.Int z) left always f = by_case f.holds
  where
    by_case : Literal (scalar.Int z) f.spelled → literal_at ts ≡ Ok (scalar.Int z, left)
    by_case (inl h) =
        let one = has_of as_number h.0 ts left (record { spelled = f.spelled; split = f.split; holds = h.3 }) in
        rw (one.2, number_is one.0 h.0 one.1, lt-ltb h.0 greatest_number h.1, h.2) refl
    by_case (inr h) =
        let signed = parts_of (One (is_symbol symbols.Minus)) (Is as_number h.0) ts left
        (record { spelled = f.spelled; split = f.split; holds = h.3 }) in
        let sign = first_of (is_symbol symbols.Minus) ts signed.0 signed.1 in
        let one = has_of as_number h.0 signed.0 left signed.2 in
        rw (sign.2, sign.1, one.2, one.1, le-leb h.0 greatest_number h.1, h.2) refl

-- the first terminal of a literal is no name
pub literal_no_name : (ts : List Terminal) (x : Scalar) (left : List Terminal) → Front (Literal x) ts left → front as_name ts ≡ None
literal_no_name ts scalar.Null left f = let h = first_of (is_keyword word.Null) ts left f in rw h.2 (keyword_no_name word.Null h.0 h.1)
literal_no_name ts (scalar.Bool true) left f = let h = first_of (is_keyword word.True) ts left f in
    rw h.2 (keyword_no_name word.True h.0 h.1)
literal_no_name ts (scalar.Bool false) left f = let h = first_of (is_keyword word.False) ts left f in
    rw h.2 (keyword_no_name word.False h.0 h.1)
literal_no_name ts (scalar.Text text) left f = let h = has_of as_quoted text ts left f in rw (h.2, quoted_is h.0 text h.1) refl
literal_no_name ts (scalar.Int z) left f = by_case f.holds
  where
    by_case : Literal (scalar.Int z) f.spelled → front as_name ts ≡ None
    by_case (inl h) =
        let one = has_of as_number h.0 ts left (record { spelled = f.spelled; split = f.split; holds = h.3 }) in
        rw (one.2, number_is one.0 h.0 one.1) refl
    by_case (inr h) =
        let signed = parts_of (One (is_symbol symbols.Minus)) (Is as_number h.0) ts left
        (record { spelled = f.spelled; split = f.split; holds = h.3 }) in
        let sign = first_of (is_symbol symbols.Minus) ts signed.0 signed.1 in
        rw sign.2 (symbol_no_name symbols.Minus sign.0 sign.1)

pub operand_complete : (alias : Option (List ℕ)) → Complete Always (IsOperand alias) (operand_at alias)
operand_complete alias ts (operand.Field f) left always found =
    let h = field_of_name_complete alias f ts left found in
    rw (h.3, h.4, h.5) refl
operand_complete alias ts (operand.Literal l) left always found =
    let none = literal_no_name ts l left found in
    let read = literal_complete ts l left tt found in
    rw (none, read) refl

-- rows
module _ {A : Type 0} (separator : Terminal → Bool) (item : List Terminal → Reading A) (Spells : A → List Terminal
    → Type 0) (Allows : List Terminal → Type 0)
    (complete : Complete Allows Spells item) (goes_on : (t : Terminal) (ts : List Terminal) → separator t ≡ true → Allows (t ∷ ts)) where
  no_more : (turns : ℕ) (left : List Terminal) → begins separator left ≡ false → more_at separator item turns left ≡ Ok ([], left)
  no_more zero left ends = refl
  no_more (suc turns) left ends = rw ends refl

  shorter : (P : List Terminal → Type 0) (ts left : List Terminal) → Front P ts left → length left ≤ length ts
  shorter P ts left f = omega (arith, ap length f.split, length-append f.spelled left)

  more_complete : (ys : List A) (y : A) (turns : ℕ) (ts left : List Terminal) → length ts ≤ turns → begins separator left ≡ false
      → Allows left → Front (One separator then Row separator Spells (y ∷ ys)) ts left
      → more_at separator item turns ts ≡ Ok (y ∷ ys, left)
  more_complete ys y zero ts left enough ends allows found =
      let parts = parts_of (One separator) (Row separator Spells (y ∷ ys)) ts left found in
      let h = first_of separator ts parts.0 parts.1 in
      absurd (omega (arith, ap length h.2))
  more_complete [] y (suc turns) ts left enough ends allows found =
      let parts = parts_of (One separator) (Row separator Spells (y ∷ [])) ts left found in
      let h = first_of separator ts parts.0 parts.1 in
      let read = complete parts.0 y left allows parts.2 in
      rw (h.2, h.1, read, no_more turns left ends) refl
  more_complete (z ∷ zs) y (suc turns) ts left enough ends allows found =
      let parts = parts_of (One separator) (Row separator Spells (y ∷ z ∷ zs)) ts left found in
      let h = first_of separator ts parts.0 parts.1 in
      let row = parts_of (Spells y) (One separator then Row separator Spells (z ∷ zs)) parts.0 left parts.2 in
      let next = parts_of (One separator) (Row separator Spells (z ∷ zs)) row.0 left row.2 in
      let sep = first_of separator row.0 next.0 next.1 in
      let read = complete parts.0 y row.0 (subst Allows (sym sep.2) (goes_on sep.0 next.0 sep.1)) row.1 in
      let later = more_complete zs z turns row.0 left
      (omega (arith, ap length h.2, shorter (Spells y) parts.0 row.0 row.1)) ends allows row.2 in
      rw (h.2, h.1, read, later) refl

  pub row_complete : (ts : List Terminal) (xs : List A) (left : List Terminal) → begins separator left ≡ false → Allows left
      → Front (Row separator Spells xs) ts left → separated_at separator item ts ≡ Ok (xs, left)
  row_complete ts [] left ends allows found = absurd found.holds
  row_complete ts (x ∷ []) left ends allows found =
      let read = complete ts x left allows found in
      rw (read, no_more (length left) left ends) refl
  row_complete ts (x ∷ y ∷ ys) left ends allows found =
      let row = parts_of (Spells x) (One separator then Row separator Spells (y ∷ ys)) ts left found in
      let next = parts_of (One separator) (Row separator Spells (y ∷ ys)) row.0 left row.2 in
      let sep = first_of separator row.0 next.0 next.1 in
      let read = complete ts x row.0 (subst Allows (sym sep.2) (goes_on sep.0 next.0 sep.1)) row.1 in
      let later = more_complete ys y (length row.0) row.0 left (omega arith) ends allows row.2 in
      rw (read, later) refl
