-- What is read is spelled so: tests, conditions and the query.
use Rattle.std.proofs.Common.{◌≡◌, ℕ, zero, suc, List, [], ◌∷◌, ◌++◌, length, Ok, Option, Some, None, true, false, ◌||◌, leb, inl, inr}
use Rattle.std.proofs.Common.{⊎_elim, refl, sym, ap, ◌∙◌, subst, append-nil}
use Rattle.std.proofs.lemmas.Bool.{leb-true}
use Rattle.gr_lex.specs.declared.token.Symbol.TheVariants as symbols
use Rattle.gr_oql.specs.declared.keyword.Keyword.{Keyword}
use Rattle.gr_oql.specs.declared.keyword.Keyword.TheVariants as word
use Rattle.gr_oql.specs.declared.condition.Relation.TheVariants as relation
use Rattle.gr_oql.specs.declared.condition.Operand.{Operand}
use Rattle.gr_oql.specs.declared.condition.Operand.TheVariants as operand
use Rattle.gr_oql.specs.declared.condition.Test.{Test}
use Rattle.gr_oql.specs.declared.condition.Test.TheVariants as tests
use Rattle.gr_oql.specs.Tree.{Tree, any, all, negation, test}
use Rattle.gr_oql.specs.View.{in_order}
use Rattle.gr_oql.specs.Terminals.{Terminal, begins, front, rest, is_symbol, is_keyword, as_name, as_quoted}
use Rattle.gr_oql.specs.Reader.Reading.{Reading, read_as, symbol_at, keyword_at, name_at, field_at, literal_at, operand_at, separated_at}
use Rattle.gr_oql.specs.Reader.Reading.{relation_at, pattern_by, among_at, compare_at, behind_operand, behind_first, bracketed_at, test_at}
use Rattle.gr_oql.specs.Reader.Reading.{all_at, any_at, bracket_at, part_at, condition_at, star_at, region_by, region_at, alias_by}
use Rattle.gr_oql.specs.Reader.Reading.{alias_at, end_at, bare_end_at, where_at, source_at, query_within}
use Rattle.gr_oql.specs.Grammar.{One, Is, ◌then◌, Row, Field, Literal, IsOperand, IsRelation, Bracketed, IsTest, IsAll, IsAny, IsPart}
use Rattle.gr_oql.specs.Grammar.{IsCondition, IsRegion, IsAlias, IsWhere, IsQueryWithin, has_backslash}
use Rattle.gr_oql.specs.Question.{Asked}
use Rattle.gr_oql.proofs.Readings.{chosen, bound, made_of, value_is, left_is}
use Rattle.gr_oql.proofs.Sound.{Front, Sound, joined, weaker, one_begins, one_has, symbol_sound, keyword_sound, name_sound, field_sound}
use Rattle.gr_oql.proofs.Sound.{literal_sound, operand_sound, row_sound, fixed_sound}

pub relation_sound : Sound IsRelation relation_at
relation_sound ts x left read =
    ⊎_elim (λ h. fixed_sound IsRelation (is_symbol symbols.Equal) relation.Equal x ts left h.0 (λ l is. is) h.1) (λ r1.
    ⊎_elim (λ h. fixed_sound IsRelation (is_symbol symbols.Angles) relation.Different x ts left h.0 (λ l is. inl is) h.1) (λ r2.
    ⊎_elim (λ h. fixed_sound IsRelation (is_symbol symbols.BangEqual) relation.Different x ts left h.0 (λ l is. inr is) h.1) (λ r3.
    ⊎_elim (λ h. fixed_sound IsRelation (is_symbol symbols.Less) relation.Less x ts left h.0 (λ l is. is) h.1) (λ r4.
    ⊎_elim (λ h. fixed_sound IsRelation (is_symbol symbols.LessEqual) relation.LessOrEqual x ts left h.0 (λ l is. is) h.1) (λ r5.
    ⊎_elim (λ h. fixed_sound IsRelation (is_symbol symbols.Greater) relation.Greater x ts left h.0 (λ l is. is) h.1) (λ r6.
    ⊎_elim (λ h. fixed_sound IsRelation (is_symbol symbols.GreaterEqual) relation.GreaterOrEqual x ts left h.0 (λ l is. is) h.1)
    (λ r7. absurd (cc r7.1))
    (chosen (begins (is_symbol symbols.GreaterEqual) ts) _ _ _ r6.1)) (chosen (begins (is_symbol symbols.Greater) ts) _ _ _ r5.1))
    (chosen (begins (is_symbol symbols.LessEqual) ts) _ _ _ r4.1))
    (chosen (begins (is_symbol symbols.Less) ts) _ _ _ r3.1)) (chosen (begins (is_symbol symbols.BangEqual) ts) _ _ _ r2.1))
    (chosen (begins (is_symbol symbols.Angles) ts) _ _ _ r1.1)) (chosen (begins (is_symbol symbols.Equal) ts) _ _ _ read)

pattern_sound : (ts : List Terminal) (o : Option (List ℕ)) (p : List ℕ) (left : List Terminal) → o ≡ front as_quoted ts
    → pattern_by o ts ≡ Ok (p, left) → (has_backslash p ≡ false) × Front (Is as_quoted p) ts left
pattern_sound ts None p left is read = absurd (cc)
pattern_sound ts (Some text) p left is read =
    ⊎_elim
    (λ h. absurd (cc h.1))
    (λ h.
    let same : text ≡ p = value_is h.1 in
    subst (λ (u : List ℕ). (has_backslash u ≡ false)
    × Front (Is as_quoted u) ts left) same (
      h.0,
      subst (Front (Is as_quoted text) ts) (left_is h.1) (one_has as_quoted text ts (sym is)),
    ))
    (chosen (has_backslash text) _ _ _ read)

-- something in brackets
in_brackets : (P : List Terminal → Type 0) (ts inner behind left : List Terminal) → symbol_at symbols.LeftBracket ts ≡ Ok (tt, inner)
    → Front P inner behind → symbol_at symbols.RightBracket behind ≡ Ok (tt, left) → Front (Bracketed P) ts left
in_brackets P ts inner behind left opens found closes =
    joined (One (is_symbol symbols.LeftBracket)) (P then One (is_symbol symbols.RightBracket)) ts inner left
    (symbol_sound symbols.LeftBracket ts tt inner opens)
    (joined P (One (is_symbol symbols.RightBracket)) inner behind left found (symbol_sound symbols.RightBracket behind tt left closes))

module _ (alias : Option (List ℕ)) where
  bracketed_sound : (ts : List Terminal) (f : List ℕ) (left : List Terminal) → bracketed_at alias ts ≡ Ok (f, left)
      → Front (Bracketed (Field alias f)) ts left
  bracketed_sound ts f left read =
      let opens = bound (symbol_at symbols.LeftBracket ts) _ f left read in
      let field = bound (field_at alias opens.1) _ f left opens.3 in
      let closes = made_of (λ _. field.0) (symbol_at symbols.RightBracket field.1) f left field.3 in
      subst (λ (g : List ℕ). Front (Bracketed (Field alias g)) ts left) closes.2
      (in_brackets (Field alias field.0) ts opens.1 field.1 left opens.2 (field_sound alias opens.1 field.0 field.1 field.2) closes.1)

  -- what stands behind an operand that was spelled
  among_sound : (o : Operand) (start ts set left : List Terminal) (x : Test) → Front (IsOperand alias o) start ts
      → begins (is_keyword word.In) ts ≡ true → among_at o (rest ts) ≡ Ok (x, left) → Front (IsTest alias x) start left
  among_sound o start ts set left x operand is read =
      let s = bound (keyword_at word.Set (rest ts)) _ x left read in
      let opens = bound (symbol_at symbols.LeftBracket s.1) _ x left s.3 in
      let row = bound (separated_at (is_symbol symbols.Comma) literal_at opens.1) _ x left opens.3 in
      let closes = made_of (λ _. tests.Among o row.0) (symbol_at symbols.RightBracket row.1) x left row.3 in
      let literals = row_sound (is_symbol symbols.Comma) literal_at Literal literal_sound opens.1 row.0 row.1 row.2 in
      let brackets = in_brackets (Row (is_symbol symbols.Comma) Literal row.0) s.1 opens.1 row.1 left opens.2 literals closes.1 in
      subst (λ (y : Test). Front (IsTest alias y) start left) closes.2
      (joined (IsOperand alias o) _ start ts left operand
      (joined (One (is_keyword word.In)) _ ts (rest ts) left (one_begins (is_keyword word.In) ts is)
      (joined (One (is_keyword word.Set)) _ (rest ts) s.1 left (keyword_sound word.Set (rest ts) s.0 s.1 s.2) brackets)))

  compare_sound : (o : Operand) (start ts left : List Terminal) (x : Test) → Front (IsOperand alias o) start ts
      → compare_at alias o ts ≡ Ok (x, left) → Front (IsTest alias x) start left
  compare_sound o start ts left x operand read =
      let r = bound (relation_at ts) _ x left read in
      let right = made_of (λ y. tests.Compare o r.0 y) (operand_at alias r.1) x left r.3 in
      subst (λ (y : Test). Front (IsTest alias y) start left) right.2
      (joined (IsOperand alias o) _ start ts left operand
      (joined (IsRelation r.0) (IsOperand alias right.0) ts r.1 left (relation_sound ts r.0 r.1 r.2)
      (operand_sound alias r.1 right.0 left right.1)))

  behind_sound : (o : Operand) (start ts left : List Terminal) (x : Test) → Front (IsOperand alias o) start ts
      → behind_operand alias o ts ≡ Ok (x, left) → Front (IsTest alias x) start left
  behind_sound o start ts left x operand read =
      ⊎_elim
      (λ h. among_sound o start ts ts left x operand h.0 h.1)
      (λ h. compare_sound o start ts left x operand h.1)
      (chosen (begins (is_keyword word.In) ts) _ _ _ read)

  first_sound : (o : Operand) (start ts left : List Terminal) (x : Test) → Front (IsOperand alias o) start ts
      → behind_first alias o ts ≡ Ok (x, left) → Front (IsTest alias x) start left
  first_sound (operand.Field f) start ts left x found read =
      ⊎_elim
      (λ h.
      let m = made_of (λ p. tests.Like f p) _ x left h.1 in
      let pattern = pattern_sound (rest ts) _ m.0 left refl m.1 in
      subst (λ (y : Test). Front (IsTest alias y) start left) m.2
      (weaker _ (IsTest alias (tests.Like f m.0)) start left (λ l spelled. (pattern.0, spelled))
      (joined (Field alias f) (One (is_keyword word.Like) then Is as_quoted m.0) start ts left found
      (joined (One (is_keyword word.Like)) (Is as_quoted m.0) ts (rest ts) left (one_begins (is_keyword word.Like) ts h.0) pattern.1))))
      (λ h. behind_sound (operand.Field f) start ts left x found h.1)
      (chosen (begins (is_keyword word.Like) ts) _ _ _ read)
  first_sound (operand.Literal l) start ts left x found read = behind_sound (operand.Literal l) start ts left x found read

  -- a word and a field in brackets, which make a test
  named_sound : (k : Keyword) (make : List ℕ → Test) (ts : List Terminal) (x : Test) (left : List Terminal)
      → ((f : List ℕ) → Front (One (is_keyword k) then Bracketed (Field alias f)) ts left → Front (IsTest alias (make f)) ts left)
      → begins (is_keyword k) ts ≡ true → read_as make (bracketed_at alias (rest ts)) ≡ Ok (x, left) → Front (IsTest alias x) ts left
  named_sound k make ts x left spells is read =
      let m = made_of make (bracketed_at alias (rest ts)) x left read in
      subst (λ (y : Test). Front (IsTest alias y) ts left) m.2
      (spells m.0 (joined (One (is_keyword k)) (Bracketed (Field alias m.0)) ts (rest ts) left (one_begins (is_keyword k) ts is)
      (bracketed_sound (rest ts) m.0 left m.1)))

  pub test_sound : Sound (IsTest alias) (test_at alias)
  test_sound ts x left read =
      ⊎_elim
      (λ h. named_sound word.IsDefined tests.Defined ts x left (λ f found. found) h.0 h.1)
      (λ r1.
      ⊎_elim
      (λ h. named_sound word.IsUndefined tests.Undefined ts x left (λ f found. found) h.0 h.1)
      (λ r2.
      let o = bound (operand_at alias ts) _ x left r2.1 in
      first_sound o.0 ts o.1 left x (operand_sound alias ts o.0 o.1 o.2) o.3)
      (chosen (begins (is_keyword word.IsUndefined) ts) _ _ _ r1.1))
      (chosen (begins (is_keyword word.IsDefined) ts) _ _ _ read)

-- conditions
module _ (within : List Terminal → Reading Tree) (Part : Tree → List Terminal → Type 0) (sound : Sound Part within) where
  pub all_sound : Sound (IsAll Part) (all_at within)
  all_sound ts c left read =
      let m = made_of (λ parts. all (in_order parts)) (separated_at (is_keyword word.And) within ts) c left read in
      weaker (Row (is_keyword word.And) Part m.0) (IsAll Part c) ts left (λ l row. (m.0, sym m.2, row))
      (row_sound (is_keyword word.And) within Part sound ts m.0 left m.1)

  pub any_sound : Sound (IsAny Part) (any_at within)
  any_sound ts c left read =
      let m = made_of (λ parts. any (in_order parts)) (separated_at (is_keyword word.Or) (all_at within) ts) c left read in
      weaker (Row (is_keyword word.Or) (IsAll Part) m.0) (IsAny Part c) ts left (λ l row. (m.0, sym m.2, row))
      (row_sound (is_keyword word.Or) (all_at within) (IsAll Part) all_sound ts m.0 left m.1)

  pub bracket_sound : (ts : List Terminal) (c : Tree) (left : List Terminal) → begins (is_symbol symbols.LeftBracket) ts ≡ true
      → bracket_at within (rest ts) ≡ Ok (c, left) → Front (Bracketed (IsAny Part c)) ts left
  bracket_sound ts c left is read =
      let inner = bound (any_at within (rest ts)) _ c left read in
      let closes = made_of (λ _. inner.0) (symbol_at symbols.RightBracket inner.1) c left inner.3 in
      subst (λ (d : Tree). Front (Bracketed (IsAny Part d)) ts left) closes.2
      (joined (One (is_symbol symbols.LeftBracket)) _ ts (rest ts) left (one_begins (is_symbol symbols.LeftBracket) ts is)
      (joined (IsAny Part inner.0) (One (is_symbol symbols.RightBracket)) (rest ts) inner.1 left
      (any_sound (rest ts) inner.0 inner.1 inner.2) (symbol_sound symbols.RightBracket inner.1 closes.0 left closes.1)))

module _ (alias : Option (List ℕ)) where
  tested_sound : (ts : List Terminal) (c : Tree) (left : List Terminal) → read_as test (test_at alias ts) ≡ Ok (c, left)
      → Front (λ l. (t : Test) × (c ≡ test t) × IsTest alias t l) ts left
  tested_sound ts c left read =
      let m = made_of test (test_at alias ts) c left read in
      weaker (IsTest alias m.0) (λ l. (t : Test) × (c ≡ test t)
      × IsTest alias t l) ts left (λ l spelled. (m.0, sym m.2, spelled)) (test_sound alias ts m.0 left m.1)

  pub part_sound : (depth : ℕ) → Sound (IsPart alias depth) (part_at alias depth)
  part_sound zero ts c left read =
      ⊎_elim
      (λ h. absurd (cc h.1))
      (λ h. tested_sound ts c left h.1)
      (chosen (begins (is_keyword word.Not) ts || begins (is_symbol symbols.LeftBracket) ts) _ _ _ read)
  part_sound (suc depth) ts c left read =
      ⊎_elim
      (λ h.
      let m = made_of negation (part_at alias depth (rest ts)) c left h.1 in
      let spelled = joined (One (is_keyword word.Not)) (IsPart alias depth m.0) ts (rest ts) left (one_begins (is_keyword word.Not) ts h.0)
      (part_sound depth (rest ts) m.0 left m.1) in
      weaker _ (IsPart alias (suc depth) c) ts left (λ l is. inr (inl (m.0, sym m.2, is))) spelled)
      (λ r1.
      ⊎_elim
      (λ h. weaker _ (IsPart alias (suc depth) c) ts left (λ l is. inr (inr is))
      (bracket_sound (part_at alias depth) (IsPart alias depth) (part_sound depth) ts c left h.0 h.1))
      (λ h. weaker _ (IsPart alias (suc depth) c) ts left (λ l is. inl is) (tested_sound ts c left h.1))
      (chosen (begins (is_symbol symbols.LeftBracket) ts) _ _ _ r1.1))
      (chosen (begins (is_keyword word.Not) ts) _ _ _ read)

  pub condition_sound : (depth : ℕ) → Sound (IsCondition depth alias) (condition_at depth alias)
  unfolding condition_at
  condition_sound depth = any_sound (part_at alias depth) (IsPart alias depth) (part_sound depth)

-- the query
pub star_sound : (ts : List Terminal) (u : Unit {0}) (left : List Terminal) → star_at ts ≡ Ok (u, left)
    → Front (One (is_symbol symbols.Star)) ts left
star_sound [] u left read = absurd (cc)
star_sound (t ∷ ts) u left read =
    ⊎_elim
    (λ h. record { spelled = t ∷ []; split = ap (λ (l : List Terminal). t ∷ l) (left_is h.1); holds = (t, h.0, refl) })
    (λ r1. ⊎_elim (λ h. absurd (cc h.1)) (λ h. absurd (cc h.1)) (chosen (is_keyword word.Distinct t) _ _ _ r1.1))
    (chosen (is_symbol symbols.Star t) _ _ _ read)

pub region_sound_by : (ts : List Terminal) (o : Option (List ℕ)) (r : List ℕ) (left : List Terminal) → o ≡ front as_name ts
    → region_by o ts ≡ Ok (r, left) → Front (IsRegion r) ts left
region_sound_by ts None r left is read = absurd (cc)
region_sound_by ts (Some w) r left is read =
    ⊎_elim
    (λ h. weaker (Is as_name w) (IsRegion r) ts left (λ l spelled. (w, leb-true _ _ h.0, sym (value_is h.1), spelled))
    (subst (Front (Is as_name w) ts) (left_is h.1) (one_has as_name w ts (sym is))))
    (λ h. absurd (cc h.1))
    (chosen (leb (length w) 254) _ _ _ read)

alias_sound_by : (ts : List Terminal) (o a : Option (List ℕ)) (left : List Terminal) → o ≡ front as_name ts → alias_by o ts ≡ Ok (a, left)
    → Front (IsAlias a) ts left
alias_sound_by ts None a left is read =
    subst (λ (b : Option (List ℕ)). Front (IsAlias b) ts left) (value_is read)
    (record { spelled = []; split = left_is read; holds = refl })
alias_sound_by ts (Some w) a left is read =
    subst (λ (b : Option (List ℕ)). Front (IsAlias b) ts left) (value_is read)
    (weaker (Is as_name w) (IsAlias (Some w)) ts left (λ l spelled. inl spelled)
    (subst (Front (Is as_name w) ts) (left_is read) (one_has as_name w ts (sym is))))

pub alias_sound : Sound IsAlias alias_at
alias_sound ts a left read =
    ⊎_elim
    (λ h.
    let m = made_of (λ w. Some w) (name_at (rest ts)) a left h.1 in
    subst (λ (b : Option (List ℕ)). Front (IsAlias b) ts left) m.2
    (weaker _ (IsAlias (Some m.0)) ts left (λ l spelled. inr spelled)
    (joined (One (is_keyword word.As)) (Is as_name m.0) ts (rest ts) left (one_begins (is_keyword word.As) ts h.0)
    (name_sound (rest ts) m.0 left m.1))))
    (λ h. alias_sound_by ts _ a left refl h.1)
    (chosen (begins (is_keyword word.As) ts) _ _ _ read)

end_is : (ts : List Terminal) (u : Unit {0}) (left : List Terminal) → end_at ts ≡ Ok (u, left) → (ts ≡ []) × (left ≡ [])
end_is [] u left read = (refl, sym (left_is read))
end_is (t ∷ ts) u left read = absurd (cc)

bare_end_is : (ts : List Terminal) (u : Unit {0}) (left : List Terminal) → bare_end_at ts ≡ Ok (u, left) → (ts ≡ []) × (left ≡ [])
bare_end_is ts u left read =
    ⊎_elim (λ h. absurd (cc h.1)) (λ h. end_is ts u left h.1) (chosen (begins (is_symbol symbols.Comma) ts) _ _ _ read)

-- a condition is spelled by all that is there
where_sound : (depth : ℕ) (alias : Option (List ℕ)) (ts : List Terminal) (c : Option Tree) (left : List Terminal)
    → where_at depth alias ts ≡ Ok (c, left) → (left ≡ []) × IsWhere depth alias c ts
where_sound depth alias ts c left read =
    ⊎_elim
    (λ h.
    let condition = bound (condition_at depth alias (rest ts)) _ c left h.1 in
    let m = made_of (λ _. Some condition.0) (end_at condition.1) c left condition.3 in
    let end = end_is condition.1 m.0 left m.1 in
    let spelled = joined (One (is_keyword word.Where)) (IsCondition depth alias condition.0) ts (rest ts) condition.1
    (one_begins (is_keyword word.Where) ts h.0) (condition_sound alias depth (rest ts) condition.0 condition.1 condition.2) in
    let whole : ts ≡ spelled.spelled = spelled.split ∙ ap (λ (l : List Terminal). spelled.spelled ++ l) end.0 ∙ append-nil spelled.spelled
    in (
      end.1,
      subst (λ (d : Option Tree). IsWhere depth alias d ts) m.2
          (subst (One (is_keyword word.Where) then IsCondition depth alias condition.0) (sym whole) spelled.holds),
    ))
    (λ h.
    let m = made_of (λ _. None) (bare_end_at ts) c left h.1 in
    let end = bare_end_is ts m.0 left m.1 in
    (end.1, subst (λ (d : Option Tree). IsWhere depth alias d ts) m.2 end.0))
    (chosen (begins (is_keyword word.Where) ts) _ _ _ read)

whole_of : (P : List Terminal → Type 0) (ts left : List Terminal) → left ≡ [] → P ts → Front P ts left
whole_of P ts left none holds =
    record { spelled = ts; split = sym (ap (λ (l : List Terminal). ts ++ l) none ∙ append-nil ts); holds = holds }

source_sound : (depth : ℕ) (ts : List Terminal) (q : Asked) (left : List Terminal) → source_at depth ts ≡ Ok (q, left) → (left ≡ [])
    × Front (IsRegion q.region then IsAlias q.alias then IsWhere depth q.alias q.condition) ts left
source_sound depth ts q left read =
    let region = bound (region_at ts) _ q left read in
    let alias = bound (alias_at region.1) _ q left region.3 in
    let m = made_of (λ c. record { region = region.0; alias = alias.0; condition = c }) (where_at depth alias.0 alias.1) q left alias.3 in
    let condition = where_sound depth alias.0 alias.1 m.0 left m.1 in
    let behind = joined (IsAlias alias.0) (IsWhere depth alias.0 m.0) region.1 alias.1 left (alias_sound region.1 alias.0 alias.1 alias.2)
    (whole_of (IsWhere depth alias.0 m.0) alias.1 left condition.0 condition.1) in (
      condition.0,
      subst (λ (p : Asked). Front (IsRegion p.region then IsAlias p.alias then IsWhere depth p.alias p.condition) ts left) m.2
          (joined (IsRegion region.0) _ ts region.1 left (region_sound_by ts _ region.0 region.1 refl region.2) behind),
    )

pub query_sound : (depth : ℕ) (ts : List Terminal) (q : Asked) (left : List Terminal) → query_within depth ts ≡ Ok (q, left) → (left ≡ [])
    × IsQueryWithin depth q ts
query_sound depth ts q left read =
    ⊎_elim
    (λ h. absurd (cc h.1))
    (λ h.
    let select = bound (keyword_at word.Select ts) _ q left h.1 in
    let star = bound (star_at select.1) _ q left select.3 in
    let from = bound (keyword_at word.From star.1) _ q left star.3 in
    let slash = bound (symbol_at symbols.Slash from.1) _ q left from.3 in
    let source = source_sound depth slash.1 q left slash.3 in
    let spelled =
    joined (One (is_keyword word.Select)) _ ts select.1 left (keyword_sound word.Select ts select.0 select.1 select.2)
    (joined (One (is_symbol symbols.Star)) _ select.1 star.1 left (star_sound select.1 star.0 star.1 star.2)
    (joined (One (is_keyword word.From)) _ star.1 from.1 left (keyword_sound word.From star.1 from.0 from.1 from.2)
    (joined (One (is_symbol symbols.Slash)) _ from.1 slash.1 left (symbol_sound symbols.Slash from.1 slash.0 slash.1 slash.2) source.1)))
    in
    let whole : ts ≡ spelled.spelled = spelled.split ∙ ap (λ (l : List Terminal). spelled.spelled ++ l) source.0
    ∙ append-nil spelled.spelled in
    (source.0, subst (IsQueryWithin depth q) (sym whole) spelled.holds))
    (chosen (begins (is_keyword word.Import) ts) _ _ _ read)
