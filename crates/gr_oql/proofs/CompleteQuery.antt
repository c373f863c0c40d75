-- What is spelled so is read: tests, conditions and the query.
use Rattle.std.proofs.Common.{◌≡◌, ℕ, zero, suc, List, [], ◌∷◌, ◌++◌, Ok, Err, Option, Some, None, true, false, inl, inr, ⊎_elim, refl}
use Rattle.std.proofs.Common.{sym, ap, ◌∙◌, subst, append-nil}
use Rattle.std.proofs.lemmas.Bool.{le-leb}
use Rattle.gr_value.specs.declared.scalar.Scalar.{Scalar}
use Rattle.gr_value.specs.declared.scalar.Scalar.TheVariants as scalar
use Rattle.gr_lex.specs.declared.token.Symbol.{Symbol}
use Rattle.gr_lex.specs.declared.token.Symbol.TheVariants as symbols
use Rattle.gr_oql.specs.declared.keyword.Keyword.{Keyword}
use Rattle.gr_oql.specs.declared.keyword.Keyword.TheVariants as word
use Rattle.gr_oql.specs.Words.{keyword_eq}
use Rattle.gr_oql.specs.declared.condition.Relation.{Relation}
use Rattle.gr_oql.specs.declared.condition.Relation.TheVariants as relation
use Rattle.gr_oql.specs.declared.condition.Operand.{Operand}
use Rattle.gr_oql.specs.declared.condition.Operand.TheVariants as operand
use Rattle.gr_oql.specs.declared.condition.Test.{Test}
use Rattle.gr_oql.specs.declared.condition.Test.TheVariants as tests
use Rattle.gr_oql.specs.Tree.{Tree, any, all, test}
use Rattle.gr_oql.specs.View.{in_order}
use Rattle.gr_oql.specs.Terminals.{Terminal, begins, front, rest, symbol_eq, is_symbol, is_keyword, as_name, as_number, as_quoted}
use Rattle.gr_oql.specs.Reader.Reading.{Reading, read_as, literal_at, relation_at, behind_operand, behind_first, bracketed_at, test_at}
use Rattle.gr_oql.specs.Reader.Reading.{all_at, any_at, bracket_at, part_at, condition_at, star_at, region_at, alias_at, end_at}
use Rattle.gr_oql.specs.Reader.Reading.{bare_end_at, where_at, source_at, query_within}
use Rattle.gr_oql.specs.Grammar.{One, Is, ◌then◌, Row, Field, Literal, IsOperand, IsRelation, Bracketed, IsTest, IsAll, IsAny, IsPart}
use Rattle.gr_oql.specs.Grammar.{IsCondition, IsRegion, IsAlias, IsWhere, IsQueryWithin, has_backslash}
use Rattle.gr_oql.specs.Question.{Asked}
use Rattle.gr_oql.proofs.Sound.{Front}
use Rattle.gr_oql.proofs.Complete.{Complete, Always, first_of, has_of, parts_of, name_no_symbol, name_no_keyword, number_is, quoted_is}
use Rattle.gr_oql.proofs.Complete.{keyword_no_symbol, keyword_no_name, symbol_no_keyword, keyword_other, symbol_other, symbol_complete}
use Rattle.gr_oql.proofs.Complete.{keyword_complete, field_of_name_complete, field_complete, literal_complete, operand_complete}
use Rattle.gr_oql.proofs.Complete.{row_complete}

-- a front that is seen otherwise
seen : (P Q : List Terminal → Type 0) (ts left : List Terminal) (f : Front P ts left) → Q f.spelled → Front Q ts left
seen P Q ts left f holds = record { spelled = f.spelled; split = f.split; holds = holds }

-- what is read where a relation stands
abbrev ReadsRelation : List Terminal → Relation → List Terminal → Type 0
ReadsRelation ts r left = (relation_at ts ≡ Ok (r, left))
    × (begins (is_keyword word.In) ts ≡ false) × (begins (is_keyword word.Like) ts ≡ false)

-- A symbol is read as a relation where no symbol before it is in the way.
reads_relation : (s : Symbol) (r : Relation) (ts left : List Terminal) → Front (One (is_symbol s)) ts left
    → ((t : Terminal) → is_symbol s t ≡ true → ((other : Symbol) → symbol_eq s other ≡ false → is_symbol other t ≡ false)
    → relation_at (t ∷ left) ≡ Ok (r, left))
    → ReadsRelation ts r left
reads_relation s r ts left f reads =
    let h = first_of (is_symbol s) ts left f in (
      rw h.2 (reads h.0 h.1 (λ other differ. symbol_other s other h.0 differ h.1)),
      rw h.2 (symbol_no_keyword s word.In h.0 h.1),
      rw h.2 (symbol_no_keyword s word.Like h.0 h.1),
    )

relation_complete : (ts : List Terminal) (r : Relation) (left : List Terminal) → Front (IsRelation r) ts left → ReadsRelation ts r left
relation_complete ts relation.Equal left f = reads_relation symbols.Equal relation.Equal ts left f (λ t is no. rw is refl)
relation_complete ts relation.Different left f =
    ⊎_elim
    (λ angles. reads_relation symbols.Angles relation.Different ts left
    (seen (IsRelation relation.Different) (One (is_symbol symbols.Angles)) ts left f angles)
    (λ t is no. rw (no symbols.Equal refl, is) refl))
    (λ bang. reads_relation symbols.BangEqual relation.Different ts left
    (seen (IsRelation relation.Different) (One (is_symbol symbols.BangEqual)) ts left f bang)
    (λ t is no. rw (no symbols.Equal refl, no symbols.Angles refl, is) refl))
    f.holds
relation_complete ts relation.Less left f = reads_relation symbols.Less relation.Less ts left f
    (λ t is no. rw (no symbols.Equal refl, no symbols.Angles refl, no symbols.BangEqual refl, is) refl)
relation_complete ts relation.LessOrEqual left f = reads_relation symbols.LessEqual relation.LessOrEqual ts left f
    (λ t is no. rw (no symbols.Equal refl, no symbols.Angles refl, no symbols.BangEqual refl, no symbols.Less refl, is) refl)
relation_complete ts relation.Greater left f = reads_relation symbols.Greater relation.Greater ts left f
    (λ t is no. rw (no symbols.Equal refl, no symbols.Angles refl, no symbols.BangEqual refl)
    (rw (no symbols.Less refl, no symbols.LessEqual refl, is) refl))
relation_complete ts relation.GreaterOrEqual left f = reads_relation symbols.GreaterEqual relation.GreaterOrEqual ts left f
    (λ t is no. rw (no symbols.Equal refl, no symbols.Angles refl, no symbols.BangEqual refl)
    (rw (no symbols.Less refl, no symbols.LessEqual refl, no symbols.Greater refl, is) refl))

-- Nothing but an operand, a test or a condition of another sort begins with these.
pub record Plain (ts : List Terminal) : Type 0 where
  pub no_defined : begins (is_keyword word.IsDefined) ts ≡ false
  pub no_undefined : begins (is_keyword word.IsUndefined) ts ≡ false
  pub no_not : begins (is_keyword word.Not) ts ≡ false
  pub no_bracket : begins (is_symbol symbols.LeftBracket) ts ≡ false

plain_name : (t : Terminal) (more : List Terminal) (w : List ℕ) → as_name t ≡ Some w → Plain (t ∷ more)
plain_name t more w is = record {
  no_defined = name_no_keyword word.IsDefined t w is;
  no_undefined =
      name_no_keyword word.IsUndefined t w is;
  no_not = name_no_keyword word.Not t w is;
  no_bracket =
      name_no_symbol symbols.LeftBracket t w is;
}

plain_keyword : (k : Keyword) (ts left : List Terminal) → keyword_eq k word.IsDefined ≡ false → keyword_eq k word.IsUndefined ≡ false
    → keyword_eq k word.Not ≡ false → Front (One (is_keyword k)) ts left → Plain ts
plain_keyword k ts left defined undefined negation f =
    let h = first_of (is_keyword k) ts left f in
    subst Plain (sym h.2) (record {
      no_defined = keyword_other k word.IsDefined h.0 defined h.1;
      no_undefined = keyword_other k word.IsUndefined h.0 undefined h.1;
      no_not = keyword_other k word.Not h.0 negation h.1;
      no_bracket = keyword_no_symbol k symbols.LeftBracket h.0 h.1;
    })

plain_literal : (ts : List Terminal) (x : Scalar) (left : List Terminal) → Front (Literal x) ts left → Plain ts
plain_literal ts scalar.Null left f = plain_keyword word.Null ts left refl refl refl f
plain_literal ts (scalar.Bool true) left f = plain_keyword word.True ts left refl refl refl f
plain_literal ts (scalar.Bool false) left f = plain_keyword word.False ts left refl refl refl f
plain_literal ts (scalar.Text text) left f =
    let h = has_of as_quoted text ts left f in
    subst Plain (sym (h.2 ∙ ap (λ (t : Terminal). t ∷ left) (quoted_is h.0 text h.1)))
    (record { no_defined = refl; no_undefined = refl; no_not = refl; no_bracket = refl })
plain_literal ts (scalar.Int z) left f = by_case f.holds
  where
    by_case : Literal (scalar.Int z) f.spelled → Plain ts
    by_case (inl h) =
        let one = has_of as_number h.0 ts left (seen (Literal (scalar.Int z)) (Is as_number h.0) ts left f h.3) in
        subst Plain (sym (one.2 ∙ ap (λ (t : Terminal). t ∷ left) (number_is one.0 h.0 one.1)))
        (record { no_defined = refl; no_undefined = refl; no_not = refl; no_bracket = refl })
    by_case (inr h) =
        let both = parts_of (One (is_symbol symbols.Minus)) (Is as_number h.0) ts left
        (seen (Literal (scalar.Int z)) (One (is_symbol symbols.Minus) then Is as_number h.0) ts left f h.3) in
        let sign = first_of (is_symbol symbols.Minus) ts both.0 both.1 in
        subst Plain (sym sign.2) (record {
          no_defined = symbol_no_keyword symbols.Minus word.IsDefined sign.0 sign.1;
          no_undefined =
              symbol_no_keyword symbols.Minus word.IsUndefined sign.0 sign.1;
          no_not =
              symbol_no_keyword symbols.Minus word.Not sign.0 sign.1;
          no_bracket =
              symbol_other symbols.Minus symbols.LeftBracket sign.0 refl sign.1;
        })

plain_operand : (alias : Option (List ℕ)) (ts : List Terminal) (o : Operand) (left : List Terminal) → Front (IsOperand alias o) ts left
    → Plain ts
plain_operand alias ts (operand.Field f) left found =
    let h = field_of_name_complete alias f ts left found in
    subst Plain (sym h.3) (plain_name h.0 h.2 h.1 h.4)
plain_operand alias ts (operand.Literal l) left found = plain_literal ts l left found

-- tests
brackets_of : (P : List Terminal → Type 0) (ts left : List Terminal) → Front (Bracketed P) ts left → (inner : List Terminal)
    × (behind : List Terminal) × Front (One (is_symbol symbols.LeftBracket)) ts inner × Front P inner behind
    × Front (One (is_symbol symbols.RightBracket)) behind left
brackets_of P ts left f =
    let opens = parts_of (One (is_symbol symbols.LeftBracket)) (P then One (is_symbol symbols.RightBracket)) ts left f in
    let closes = parts_of P (One (is_symbol symbols.RightBracket)) opens.0 left opens.2 in
    (opens.0, closes.0, opens.1, closes.1, closes.2)

no_comma : (ts left : List Terminal) → Front (One (is_symbol symbols.RightBracket)) ts left → begins (is_symbol symbols.Comma) ts ≡ false
no_comma ts left f = let h = first_of (is_symbol symbols.RightBracket) ts left f in
    rw h.2 (symbol_other symbols.RightBracket symbols.Comma h.0 refl h.1)

module _ (alias : Option (List ℕ)) where
  bracketed_complete : (ts : List Terminal) (f : List ℕ) (left : List Terminal) → Front (Bracketed (Field alias f)) ts left
      → bracketed_at alias ts ≡ Ok (f, left)
  bracketed_complete ts f left found =
      let b = brackets_of (Field alias f) ts left found in
      let opens = symbol_complete symbols.LeftBracket ts b.0 b.2 in
      let field = field_complete alias b.0 f b.1 tt b.3 in
      let closes = symbol_complete symbols.RightBracket b.1 left b.4 in
      rw (opens, field, closes) refl

  no_like : (o : Operand) (ts : List Terminal) → begins (is_keyword word.Like) ts ≡ false
      → behind_first alias o ts ≡ behind_operand alias o ts
  no_like (operand.Field f) ts is = rw is refl
  no_like (operand.Literal l) ts is = refl

  among_complete : (o : Operand) (literals : List Scalar) (ts left : List Terminal)
      → Front (One (is_keyword word.In) then One (is_keyword word.Set)
      then Bracketed (Row (is_symbol symbols.Comma) Literal literals)) ts left
      → behind_first alias o ts ≡ Ok (tests.Among o literals, left)
  among_complete o literals ts left found =
      let in_part = parts_of (One (is_keyword word.In)) (One (is_keyword word.Set)
      then Bracketed (Row (is_symbol symbols.Comma) Literal literals)) ts left found in
      let h = first_of (is_keyword word.In) ts in_part.0 in_part.1 in
      let set_part = parts_of (One (is_keyword word.Set))
      (Bracketed (Row (is_symbol symbols.Comma) Literal literals)) in_part.0 left in_part.2 in
      let set = keyword_complete word.Set in_part.0 set_part.0 set_part.1 in
      let b = brackets_of (Row (is_symbol symbols.Comma) Literal literals) set_part.0 left set_part.2 in
      let opens = symbol_complete symbols.LeftBracket set_part.0 b.0 b.2 in
      let row = row_complete (is_symbol symbols.Comma) literal_at Literal Always literal_complete (λ t more is. tt) b.0 literals b.1
      (no_comma b.1 left b.4) tt b.3 in
      let closes = symbol_complete symbols.RightBracket b.1 left b.4 in
      no_like o ts (rw h.2 (keyword_other word.In word.Like h.0 refl h.1)) ∙ rw (h.2, h.1, set, opens, row, closes) refl

  compare_complete : (o : Operand) (r : Relation) (right : Operand) (ts left : List Terminal)
      → Front (IsRelation r then IsOperand alias right) ts left → behind_first alias o ts ≡ Ok (tests.Compare o r right, left)
  compare_complete o r right ts left found =
      let parts = parts_of (IsRelation r) (IsOperand alias right) ts left found in
      let relation = relation_complete ts r parts.0 parts.1 in
      let read = operand_complete alias parts.0 right left tt parts.2 in
      no_like o ts relation.2 ∙ rw (relation.1, relation.0, read) refl

  like_complete : (f pattern : List ℕ) (ts left : List Terminal) → has_backslash pattern ≡ false
      → Front (One (is_keyword word.Like) then Is as_quoted pattern) ts left
      → behind_first alias (operand.Field f) ts ≡ Ok (tests.Like f pattern, left)
  like_complete f pattern ts left plain found =
      let parts = parts_of (One (is_keyword word.Like)) (Is as_quoted pattern) ts left found in
      let h = first_of (is_keyword word.Like) ts parts.0 parts.1 in
      let q = has_of as_quoted pattern parts.0 left parts.2 in
      rw (h.2, h.1, q.2, q.1, plain) refl

  -- a test that begins with an operand
  with_operand : (ts : List Terminal) (o : Operand) (middle left : List Terminal) (x : Test) → Front (IsOperand alias o) ts middle
      → behind_first alias o middle ≡ Ok (x, left) → test_at alias ts ≡ Ok (x, left)
  with_operand ts o middle left x first behind =
      let plain = plain_operand alias ts o middle first in
      let read = operand_complete alias ts o middle tt first in
      let no_defined = plain.no_defined in
      let no_undefined = plain.no_undefined in
      rw (no_defined, no_undefined, read) behind

  pub test_complete : Complete Always (IsTest alias) (test_at alias)
  test_complete ts (tests.Defined f) left always found =
      let parts = parts_of (One (is_keyword word.IsDefined)) (Bracketed (Field alias f)) ts left found in
      let h = first_of (is_keyword word.IsDefined) ts parts.0 parts.1 in
      let read = bracketed_complete parts.0 f left parts.2 in
      rw (h.2, h.1, read) refl
  test_complete ts (tests.Undefined f) left always found =
      let parts = parts_of (One (is_keyword word.IsUndefined)) (Bracketed (Field alias f)) ts left found in
      let h = first_of (is_keyword word.IsUndefined) ts parts.0 parts.1 in
      let read = bracketed_complete parts.0 f left parts.2 in
      rw (h.2, keyword_other word.IsUndefined word.IsDefined h.0 refl h.1, h.1, read) refl
  test_complete ts (tests.Like f pattern) left always found =
      let parts = parts_of (Field alias f) (One (is_keyword word.Like) then Is as_quoted pattern) ts left
      (seen (IsTest alias (tests.Like f pattern)) (Field alias f then One (is_keyword word.Like)
      then Is as_quoted pattern) ts left found found.holds.1) in
      with_operand ts (operand.Field f) parts.0 left (tests.Like f pattern) parts.1
      (like_complete f pattern parts.0 left found.holds.0 parts.2)
  test_complete ts (tests.Among o literals) left always found =
      let parts = parts_of (IsOperand alias o) (One (is_keyword word.In) then One (is_keyword word.Set)
      then Bracketed (Row (is_symbol symbols.Comma) Literal literals)) ts left found in
      with_operand ts o parts.0 left (tests.Among o literals) parts.1 (among_complete o literals parts.0 left parts.2)
  test_complete ts (tests.Compare o r right) left always found =
      let parts = parts_of (IsOperand alias o) (IsRelation r then IsOperand alias right) ts left found in
      with_operand ts o parts.0 left (tests.Compare o r right) parts.1 (compare_complete o r right parts.0 left parts.2)

  -- a test begins neither with NOT nor with a bracket
  test_begins : (ts : List Terminal) (x : Test) (left : List Terminal) → Front (IsTest alias x) ts left
      → (begins (is_keyword word.Not) ts ≡ false) × (begins (is_symbol symbols.LeftBracket) ts ≡ false)
  test_begins ts (tests.Defined f) left found =
      let parts = parts_of (One (is_keyword word.IsDefined)) (Bracketed (Field alias f)) ts left found in
      let h = first_of (is_keyword word.IsDefined) ts parts.0 parts.1 in
      (rw h.2 (keyword_other word.IsDefined word.Not h.0 refl h.1), rw h.2 (keyword_no_symbol word.IsDefined symbols.LeftBracket h.0 h.1))
  test_begins ts (tests.Undefined f) left found =
      let parts = parts_of (One (is_keyword word.IsUndefined)) (Bracketed (Field alias f)) ts left found in
      let h = first_of (is_keyword word.IsUndefined) ts parts.0 parts.1 in (
        rw h.2 (keyword_other word.IsUndefined word.Not h.0 refl h.1),
        rw h.2 (keyword_no_symbol word.IsUndefined symbols.LeftBracket h.0 h.1),
      )
  test_begins ts (tests.Like f pattern) left found =
      let parts = parts_of (Field alias f) (One (is_keyword word.Like) then Is as_quoted pattern) ts left
      (seen (IsTest alias (tests.Like f pattern)) (Field alias f then One (is_keyword word.Like)
      then Is as_quoted pattern) ts left found found.holds.1) in
      let plain = plain_operand alias ts (operand.Field f) parts.0 parts.1 in
      (plain.no_not, plain.no_bracket)
  test_begins ts (tests.Among o literals) left found =
      let parts = parts_of (IsOperand alias o) (One (is_keyword word.In) then One (is_keyword word.Set)
      then Bracketed (Row (is_symbol symbols.Comma) Literal literals)) ts left found in
      let plain = plain_operand alias ts o parts.0 parts.1 in
      (plain.no_not, plain.no_bracket)
  test_begins ts (tests.Compare o r right) left found =
      let parts = parts_of (IsOperand alias o) (IsRelation r then IsOperand alias right) ts left found in
      let plain = plain_operand alias ts o parts.0 parts.1 in
      (plain.no_not, plain.no_bracket)

-- conditions
abbrev EndsAll : List Terminal → Type 0
EndsAll left = begins (is_keyword word.And) left ≡ false

abbrev EndsAny : List Terminal → Type 0
EndsAny left = (begins (is_keyword word.And) left ≡ false) × (begins (is_keyword word.Or) left ≡ false)

module _ (within : List Terminal → Reading Tree) (Part : Tree → List Terminal → Type 0) (complete : Complete Always Part within) where
  all_complete : Complete EndsAll (IsAll Part) (all_at within)
  all_complete ts c left ends found =
      let h = found.holds in
      let row = row_complete (is_keyword word.And) within Part Always complete (λ t more is. tt) ts h.0 left ends tt
      (seen (IsAll Part c) (Row (is_keyword word.And) Part h.0) ts left found h.2) in
      ap (read_as (λ parts. all (in_order parts))) row ∙ ap (λ (d : Tree). Ok (d, left)) (sym h.1)

  any_complete : Complete EndsAny (IsAny Part) (any_at within)
  any_complete ts c left ends found =
      let h = found.holds in
      let row = row_complete (is_keyword word.Or) (all_at within) (IsAll Part) EndsAll all_complete
      (λ t more is. keyword_other word.Or word.And t refl is) ts h.0 left ends.1 ends.0
      (seen (IsAny Part c) (Row (is_keyword word.Or) (IsAll Part) h.0) ts left found h.2) in
      ap (read_as (λ parts. any (in_order parts))) row ∙ ap (λ (d : Tree). Ok (d, left)) (sym h.1)

  bracket_complete : (ts : List Terminal) (c : Tree) (left : List Terminal) → Front (Bracketed (IsAny Part c)) ts left
      → (begins (is_keyword word.Not) ts ≡ false) × (begins (is_symbol symbols.LeftBracket) ts ≡ true)
      × (bracket_at within (rest ts) ≡ Ok (c, left))
  bracket_complete ts c left found =
      let b = brackets_of (IsAny Part c) ts left found in
      let opens = first_of (is_symbol symbols.LeftBracket) ts b.0 b.2 in
      let closes = first_of (is_symbol symbols.RightBracket) b.1 left b.4 in
      let ends : EndsAny b.1 = (
        rw closes.2 (symbol_no_keyword symbols.RightBracket word.And closes.0 closes.1),
        rw closes.2 (symbol_no_keyword symbols.RightBracket word.Or closes.0 closes.1),
      ) in
      let inner = any_complete b.0 c b.1 ends b.3 in
      let closed = symbol_complete symbols.RightBracket b.1 left b.4 in
      (rw opens.2 (symbol_no_keyword symbols.LeftBracket word.Not opens.0 opens.1), rw opens.2 opens.1, rw (opens.2, inner, closed) refl)

module _ (alias : Option (List ℕ)) where
  tested_complete : (ts : List Terminal) (c : Tree) (left : List Terminal)
      → Front (λ l. (t : Test) × (c ≡ test t) × IsTest alias t l) ts left → (begins (is_keyword word.Not) ts ≡ false)
      × (begins (is_symbol symbols.LeftBracket) ts ≡ false) × (read_as test (test_at alias ts) ≡ Ok (c, left))
  tested_complete ts c left found =
      let h = found.holds in
      let spelled : Front (IsTest alias h.0) ts left = record { spelled = found.spelled; split = found.split; holds = h.2 } in
      let first = test_begins alias ts h.0 left spelled in
      (first.0, first.1, ap (read_as test) (test_complete alias ts h.0 left tt spelled) ∙ ap (λ (d : Tree). Ok (d, left)) (sym h.1))

  part_step : (depth : ℕ) → Complete Always (IsPart alias depth) (part_at alias depth)
      → Complete Always (IsPart alias (suc depth)) (part_at alias (suc depth))
  part_step depth within ts c left always found = by_case found.holds
    where
      by_case : IsPart alias (suc depth) c found.spelled → part_at alias (suc depth) ts ≡ Ok (c, left)
      by_case (inl h) =
          let t = tested_complete ts c left (record { spelled = found.spelled; split = found.split; holds = h }) in
          let no_not = t.0 in
          let no_bracket = t.1 in
          rw (no_not, no_bracket) t.2
      by_case (inr (inl h)) =
          let parts = parts_of (One (is_keyword word.Not)) (IsPart alias depth h.0) ts left
          (record { spelled = found.spelled; split = found.split; holds = h.2 }) in
          let first = first_of (is_keyword word.Not) ts parts.0 parts.1 in
          let read = within parts.0 h.0 left tt parts.2 in
          rw (first.2, first.1, read) (ap (λ (d : Tree). Ok (d, left)) (sym h.1))
      by_case (inr (inr h)) =
          let b = bracket_complete (part_at alias depth) (IsPart alias depth) within ts c left
          (record { spelled = found.spelled; split = found.split; holds = h }) in
          let no_not = b.0 in
          let bracket = b.1 in
          rw (no_not, bracket) b.2

  pub part_complete : (depth : ℕ) → Complete Always (IsPart alias depth) (part_at alias depth)
  part_complete zero ts c left always found =
      let t = tested_complete ts c left found in
      let no_not = t.0 in
      let no_bracket = t.1 in
      rw (no_not, no_bracket) t.2
  part_complete (suc depth) ts c left always found = part_step depth (part_complete depth) ts c left always found

  pub condition_complete : (depth : ℕ) → Complete EndsAny (IsCondition depth alias) (condition_at depth alias)
  unfolding condition_at
  condition_complete depth = any_complete (part_at alias depth) (IsPart alias depth) (part_complete depth)

-- the query
star_complete : (ts left : List Terminal) → Front (One (is_symbol symbols.Star)) ts left → star_at ts ≡ Ok (tt, left)
star_complete ts left f = let h = first_of (is_symbol symbols.Star) ts left f in rw (h.2, h.1) refl

region_complete : Complete Always IsRegion region_at
region_complete ts region left always found =
    let h = found.holds in
    let name = has_of as_name h.0 ts left (record { spelled = found.spelled; split = found.split; holds = h.3 }) in
    let short = le-leb _ _ h.1 in
    rw (name.2, name.1, short) (ap (λ (r : List ℕ). Ok (r, left)) (sym h.2))

-- Nothing but the end of a query begins so.
pub record EndsQuery (left : List Terminal) : Type 0 where
  pub no_as : begins (is_keyword word.As) left ≡ false
  pub no_name : front as_name left ≡ None
  pub no_where : begins (is_keyword word.Where) left ≡ false
  pub no_more : EndsAny left

-- how the end of a query is read, with or without a condition before it
abbrev pub end_by : Option Tree → List Terminal → Reading (Unit {0})
end_by None ts = bare_end_at ts
end_by (Some c) ts = end_at ts

-- what may stand behind an alias, or in its place
where_begins : (depth : ℕ) (alias : Option (List ℕ)) (c : Option Tree) (ts left : List Terminal) → EndsQuery left
    → Front (IsWhere depth alias c) ts left → (begins (is_keyword word.As) ts ≡ false) × (front as_name ts ≡ None)
where_begins depth alias None ts left ends found =
    let same : ts ≡ left = found.split ∙ ap (λ (l : List Terminal). l ++ left) found.holds in
    (ap (begins (is_keyword word.As)) same ∙ ends.no_as, ap (front as_name) same ∙ ends.no_name)
where_begins depth alias (Some c) ts left ends found =
    let parts = parts_of (One (is_keyword word.Where)) (IsCondition depth alias c) ts left found in
    let h = first_of (is_keyword word.Where) ts parts.0 parts.1 in
    (rw h.2 (keyword_other word.Where word.As h.0 refl h.1), rw h.2 (keyword_no_name word.Where h.0 h.1))

alias_complete : (ts : List Terminal) (alias : Option (List ℕ)) (left : List Terminal) → begins (is_keyword word.As) left ≡ false
    → front as_name left ≡ None → Front (IsAlias alias) ts left → alias_at ts ≡ Ok (alias, left)
alias_complete ts None left no_as no_name found =
    let same : ts ≡ left = found.split ∙ ap (λ (l : List Terminal). l ++ left) found.holds in
    rw (same, no_as, no_name) refl
alias_complete ts (Some a) left no_as no_name found = by_case found.holds
  where
    by_case : IsAlias (Some a) found.spelled → alias_at ts ≡ Ok (Some a, left)
    by_case (inl h) =
        let name = has_of as_name a ts left (record { spelled = found.spelled; split = found.split; holds = h }) in
        rw (name.2, name_no_keyword word.As name.0 a name.1, name.1) refl
    by_case (inr h) =
        let parts = parts_of (One (is_keyword word.As)) (Is as_name a) ts left
        (record { spelled = found.spelled; split = found.split; holds = h }) in
        let as_word = first_of (is_keyword word.As) ts parts.0 parts.1 in
        let name = has_of as_name a parts.0 left parts.2 in
        rw (as_word.2, as_word.1, name.2, name.1) refl

where_complete : (depth : ℕ) (alias : Option (List ℕ)) (c : Option Tree) (ts left : List Terminal) → EndsQuery left
    → Front (IsWhere depth alias c) ts left → where_at depth alias ts ≡ read_as (λ _. c) (end_by c left)
where_complete depth alias None ts left ends found =
    let same : ts ≡ left = found.split ∙ ap (λ (l : List Terminal). l ++ left) found.holds in
    let no_where = ends.no_where in
    rw (same, no_where) refl
where_complete depth alias (Some c) ts left ends found =
    let parts = parts_of (One (is_keyword word.Where)) (IsCondition depth alias c) ts left found in
    let h = first_of (is_keyword word.Where) ts parts.0 parts.1 in
    let read = condition_complete alias depth parts.0 c left ends.no_more parts.2 in
    rw (h.2, h.1, read) refl

-- two values made one after the other, of which the last alone counts
made_last : {A B : Type 0} (x : A) (f : A → B) (read : Reading (Unit {0})) → read_as f (read_as (λ _. x) read) ≡ read_as (λ _. f x) read
made_last x f (Ok u) = refl
made_last x f (Err e) = refl

source_complete : (depth : ℕ) (q : Asked) (ts left : List Terminal) → EndsQuery left
    → Front (IsRegion q.region then IsAlias q.alias then IsWhere depth q.alias q.condition) ts left
    → source_at depth ts ≡ read_as (λ _. q) (end_by q.condition left)
source_complete depth q ts left ends found =
    let parts = parts_of (IsRegion q.region) (IsAlias q.alias then IsWhere depth q.alias q.condition) ts left found in
    let behind = parts_of (IsAlias q.alias) (IsWhere depth q.alias q.condition) parts.0 left parts.2 in
    let begun = where_begins depth q.alias q.condition behind.0 left ends behind.2 in
    let region = region_complete ts q.region parts.0 tt parts.1 in
    let alias = alias_complete parts.0 q.alias behind.0 begun.0 begun.1 behind.1 in
    let read = where_complete depth q.alias q.condition behind.0 left ends behind.2 in
    rw (region, alias, read) (made_last q.condition (λ c. record { region = q.region; alias = q.alias; condition = c })
    (end_by q.condition left))

-- what is spelled so is read up to its end
pub query_to_end : (depth : ℕ) (ts : List Terminal) (q : Asked) (left : List Terminal) → EndsQuery left
    → Front (IsQueryWithin depth q) ts left → query_within depth ts ≡ read_as (λ _. q) (end_by q.condition left)
query_to_end depth ts q left ends found =
    let Behind : List Terminal → Type 0 = IsRegion q.region then IsAlias q.alias then IsWhere depth q.alias q.condition in
    let a = parts_of (One (is_keyword word.Select)) (One (is_symbol symbols.Star) then One (is_keyword word.From)
    then One (is_symbol symbols.Slash) then Behind) ts left found in
    let b = parts_of (One (is_symbol symbols.Star)) (One (is_keyword word.From) then One (is_symbol symbols.Slash)
    then Behind) a.0 left a.2 in
    let c = parts_of (One (is_keyword word.From)) (One (is_symbol symbols.Slash) then Behind) b.0 left b.2 in
    let d = parts_of (One (is_symbol symbols.Slash)) Behind c.0 left c.2 in
    let select = first_of (is_keyword word.Select) ts a.0 a.1 in
    let no_import : begins (is_keyword word.Import) ts ≡ false = rw select.2 (keyword_other word.Select word.Import select.0 refl select.1)
    in
    let selected = keyword_complete word.Select ts a.0 a.1 in
    let star = star_complete a.0 b.0 b.1 in
    let from = keyword_complete word.From b.0 c.0 c.1 in
    let slash = symbol_complete symbols.Slash c.0 d.0 d.1 in
    let source = source_complete depth q d.0 left ends d.2 in
    rw (no_import, selected, star, from, slash) source

ended : (c : Option Tree) → end_by c [] ≡ Ok (tt, [])
ended None = refl
ended (Some c) = refl

pub query_complete : (depth : ℕ) (ts : List Terminal) (q : Asked) → IsQueryWithin depth q ts → query_within depth ts ≡ Ok (q, [])
query_complete depth ts q is =
    query_to_end depth ts q [] (record { no_as = refl; no_name = refl; no_where = refl; no_more = (refl, refl) })
    (record { spelled = ts; split = sym (append-nil ts); holds = is })
    ∙ ap (read_as (λ _. q)) (ended q.condition)
