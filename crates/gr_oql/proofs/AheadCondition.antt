-- How a query would go on where the reader of its condition stopped.
use Rattle.std.proofs.Common.{◌≡◌, ℕ, zero, suc, List, [], ◌∷◌, ◌++◌, Ok, Err, Option, Some, None, true, ◌||◌, IsFalse, inl, inr, ⊎_elim}
use Rattle.std.proofs.Common.{refl, sym, ap, subst}
use Rattle.gr_value.specs.declared.scalar.Scalar.{Scalar}
use Rattle.gr_lex.specs.declared.token.Symbol.TheVariants as symbols
use Rattle.gr_oql.specs.declared.keyword.Keyword.{Keyword}
use Rattle.gr_oql.specs.declared.keyword.Keyword.TheVariants as word
use Rattle.gr_oql.specs.declared.condition.Relation.{Relation}
use Rattle.gr_oql.specs.declared.condition.Relation.TheVariants as relation
use Rattle.gr_oql.specs.declared.condition.Operand.{Operand}
use Rattle.gr_oql.specs.declared.condition.Operand.TheVariants as operand
use Rattle.gr_oql.specs.declared.condition.Test.{Test}
use Rattle.gr_oql.specs.declared.condition.Test.TheVariants as tests
use Rattle.gr_oql.specs.declared.fault.Part.TheVariants as part
use Rattle.gr_oql.specs.declared.halt.Wrong.{Wrong}
use Rattle.gr_oql.specs.declared.halt.Wrong.TheVariants.{NotACq, TooDeep}
use Rattle.gr_oql.specs.Tree.{Tree, any, all, negation, test}
use Rattle.gr_oql.specs.View.{in_order}
use Rattle.gr_oql.specs.Terminals.{Terminal, symbol, quoted, begins, front, rest, is_symbol, is_keyword, as_quoted}
use Rattle.gr_oql.specs.Reader.Reading.{Reading, ◌>>=◌, read_as, symbol_at, keyword_at, field_at, literal_at, operand_at, separated_at}
use Rattle.gr_oql.specs.Reader.Reading.{relation_at, pattern_by, among_at, compare_at, behind_operand, behind_first, bracketed_at, test_at}
use Rattle.gr_oql.specs.Reader.Reading.{all_at, any_at, bracket_at, part_at, condition_at}
use Rattle.gr_oql.specs.Grammar.{One, Is, ◌then◌, Row, Field, Literal, IsOperand, IsRelation, Bracketed, IsTest, IsAll, IsAny, IsPart}
use Rattle.gr_oql.specs.Grammar.{IsCondition, has_backslash}
use Rattle.gr_oql.proofs.Readings.{chosen, made_of, stopped, not_made}
use Rattle.gr_oql.proofs.Sound.{Front, Sound, weaker, joined, one_begins, symbol_sound, keyword_sound, field_sound, literal_sound}
use Rattle.gr_oql.proofs.Sound.{operand_sound, row_sound}
use Rattle.gr_oql.proofs.SoundQuery.{relation_sound, test_sound, all_sound, any_sound, bracket_sound}
use Rattle.gr_oql.proofs.Complete.{quoted_is}
use Rattle.gr_oql.proofs.Spelled.{AreSpelled, both_spelled, IsSpelledAlias, symbol_spelled, quoted_spelled}
use Rattle.gr_oql.proofs.Ahead.{raised, Ahead, AheadOf, Something, Due, Goes, ahead_of, goes_on, before, behind, then_ahead, at_front}
use Rattle.gr_oql.proofs.Ahead.{here, symbol_itself, symbol_ahead, keyword_ahead, some_field, some_literal, some_operand, field_ahead}
use Rattle.gr_oql.proofs.Ahead.{literal_ahead, operand_ahead, row_ahead}

-- a pattern that a continuous query may have
abbrev Pattern : List ℕ → List Terminal → Type 0
Pattern p l = IsFalse (has_backslash p) × Is as_quoted p l

-- a relation and what is compared
abbrev Compared : Option (List ℕ) → Relation × Operand → List Terminal → Type 0
Compared alias c = IsRelation c.0 then IsOperand alias c.1

-- what makes a test of an operand before it
abbrev Behind : Option (List ℕ) → Operand → List Terminal → Type 0
Behind alias o l = (first : List Terminal) → IsOperand alias o first → Something (IsTest alias) (first ++ l)

some_relation : Due (Something IsRelation)
some_relation = (symbol symbols.Equal ∷ [], (relation.Equal, symbol_itself symbols.Equal), (symbol_spelled symbols.Equal, tt))

some_compared : (alias : Option (List ℕ)) → Due (Something (Compared alias))
some_compared alias =
    let right = some_operand alias in (
      some_relation.0 ++ right.0,
      ((some_relation.1.0, right.1.0), (some_relation.0, right.0, refl, some_relation.1.1, right.1.1)),
      both_spelled some_relation.0 right.0 some_relation.2 right.2,
    )

-- literals in brackets, and what is read there
abbrev Literals : List Scalar → List Terminal → Type 0
Literals literals = Bracketed (Row (is_symbol symbols.Comma) Literal literals)

abbrev Set : List Scalar → List Terminal → Type 0
Set literals = One (is_keyword word.Set) then Literals literals

abbrev literals_at : Operand → List Terminal → Reading Test
literals_at o ts =
    symbol_at symbols.LeftBracket ts >>= λ left.
    separated_at (is_symbol symbols.Comma) literal_at left.1 >>= λ literals.
    read_as (λ _. tests.Among o literals.0) (symbol_at symbols.RightBracket literals.1)

some_row : Due (Something (Row (is_symbol symbols.Comma) Literal))
some_row = (some_literal.0, (some_literal.1.0 ∷ [], some_literal.1.1), some_literal.2)

-- a sentence with the bracket that closes it
closed : (P : List Terminal → Type 0) (l : List Terminal) → P l
    → (P then One (is_symbol symbols.RightBracket)) (l ++ symbol symbols.RightBracket ∷ [])
closed P l holds = (l, symbol symbols.RightBracket ∷ [], refl, holds, symbol_itself symbols.RightBracket)

pub closed_spelled : (l : List Terminal) → AreSpelled l → AreSpelled (l ++ symbol symbols.RightBracket ∷ [])
closed_spelled l known = both_spelled l (symbol symbols.RightBracket ∷ []) known (symbol_spelled symbols.RightBracket, tt)

some_literals : Due (Something Literals)
some_literals =
    let row = some_row.0 ++ symbol symbols.RightBracket ∷ [] in (
      symbol symbols.LeftBracket ∷ row,
      (
        some_row.1.0,
        (
          symbol symbols.LeftBracket ∷ [],
          row,
          refl,
          symbol_itself symbols.LeftBracket,
          closed (Row (is_symbol symbols.Comma) Literal some_row.1.0) some_row.0 some_row.1.1,
        ),
      ),
      (symbol_spelled symbols.LeftBracket, closed_spelled some_row.0 some_row.2),
    )

module _ (opening : List Terminal → List Terminal) where
  relation_ahead : Goes opening IsRelation relation_at
  relation_ahead ts w left read =
      ⊎_elim (λ h. absurd (cc h.1)) (λ r1.
      ⊎_elim (λ h. absurd (cc h.1)) (λ r2.
      ⊎_elim (λ h. absurd (cc h.1)) (λ r3.
      ⊎_elim (λ h. absurd (cc h.1)) (λ r4.
      ⊎_elim (λ h. absurd (cc h.1)) (λ r5.
      ⊎_elim (λ h. absurd (cc h.1)) (λ r6.
      ⊎_elim (λ h. absurd (cc h.1)) (λ r7. here opening _ ts w left some_relation r7.1)
      (chosen (begins (is_symbol symbols.GreaterEqual) ts) _ _ _ r6.1)) (chosen (begins (is_symbol symbols.Greater) ts) _ _ _ r5.1))
      (chosen (begins (is_symbol symbols.LessEqual) ts) _ _ _ r4.1))
      (chosen (begins (is_symbol symbols.Less) ts) _ _ _ r3.1)) (chosen (begins (is_symbol symbols.BangEqual) ts) _ _ _ r2.1))
      (chosen (begins (is_symbol symbols.Angles) ts) _ _ _ r1.1)) (chosen (begins (is_symbol symbols.Equal) ts) _ _ _ read)

  -- an empty pattern is one without a backslash
  pattern_ahead : (o : Option (List ℕ)) (ts : List Terminal) (w : Wrong) (left : List Terminal) → o ≡ front as_quoted ts
      → pattern_by o ts ≡ Err (w, left) → AheadOf opening (Something Pattern) ts w left
  pattern_ahead None ts w left is read =
      here opening _ ts w left (quoted [] ∷ [], ([], (refl, (quoted [], refl, refl))), (quoted_spelled, tt)) read
  pattern_ahead (Some text) [] w left is read = absurd (cc)
  pattern_ahead (Some text) (t ∷ ts) w left is read =
      ⊎_elim
      (λ h.
      let one : AheadOf opening (Something Pattern) (t ∷ ts) (NotACq part.Escape) (t ∷ ts) =
      record {
        start = [];
        more = [];
        split = refl;
        shown = (text, ts, ap (λ (u : Terminal). u ∷ ts) (quoted_is t text (sym is)), h.0);
        known = tt;
        holds = ([], (refl, (quoted [], refl, refl)));
      } in
      at_front opening _ (t ∷ ts) (NotACq part.Escape) w left one h.1)
      (λ h. absurd (cc h.1))
      (chosen (has_backslash text) _ _ _ read)

  -- something that a bracket closes, and something in brackets
  module _ {A B : Type 0} (Spells : A → List Terminal → Type 0) (item : List Terminal → Reading A) (make : A
      → B) (goes : Goes opening Spells item) (sound : Sound Spells item) where
    closed_ahead : Goes opening (λ x. Spells x then One (is_symbol symbols.RightBracket)) (λ ts. item ts
        >>= λ x. read_as (λ _. make x.0) (symbol_at symbols.RightBracket x.1))
    closed_ahead =
        then_ahead opening Spells (λ x (u : Unit {0}). One (is_symbol symbols.RightBracket)) (λ x. Spells x
        then One (is_symbol symbols.RightBracket)) item (λ x ts. read_as (λ _. make x) (symbol_at symbols.RightBracket ts))
        goes sound (λ x. (
          symbol symbols.RightBracket ∷ [],
          (tt, symbol_itself symbols.RightBracket),
          (symbol_spelled symbols.RightBracket, tt),
        ))
        (λ x ts w left read. symbol_ahead opening symbols.RightBracket ts w left
        (not_made (λ _. make x) (symbol_at symbols.RightBracket ts) (w, left) read)) (λ x u l spelled. (x, spelled))

    brackets_ahead : Due (Something Spells)
        → Goes opening (λ x. Bracketed (Spells x)) (λ ts. symbol_at symbols.LeftBracket ts
        >>= λ opens. (item opens.1 >>= λ x. read_as (λ _. make x.0) (symbol_at symbols.RightBracket x.1)))
    brackets_ahead some =
        then_ahead opening (λ (u : Unit {0}). One (is_symbol symbols.LeftBracket)) (λ u x. Spells x
        then One (is_symbol symbols.RightBracket)) (λ x. Bracketed (Spells x))
        (symbol_at symbols.LeftBracket) (λ u ts. item ts >>= λ x. read_as (λ _. make x.0) (symbol_at symbols.RightBracket x.1))
        (symbol_ahead opening symbols.LeftBracket) (symbol_sound symbols.LeftBracket)
        (λ u. (
          some.0 ++ symbol symbols.RightBracket ∷ [],
          (some.1.0, closed (Spells some.1.0) some.0 some.1.1),
          closed_spelled some.0 some.2,
        ))
        (λ u. closed_ahead) (λ u x l spelled. (x, spelled))

  -- tests
  module _ (alias : Option (List ℕ)) (known : IsSpelledAlias alias) where
    bracketed_ahead : Goes opening (λ f. Bracketed (Field alias f)) (bracketed_at alias)
    bracketed_ahead = brackets_ahead (Field alias) (field_at alias) (λ f. f) (field_ahead opening alias known) (field_sound alias)
        (some_field alias known)

    literals_ahead : (o : Operand) → Goes opening Literals (literals_at o)
    literals_ahead o =
        brackets_ahead (Row (is_symbol symbols.Comma) Literal) (separated_at (is_symbol symbols.Comma) literal_at) (tests.Among o)
        (row_ahead opening (is_symbol symbols.Comma) literal_at Literal literal_sound (literal_ahead opening))
        (row_sound (is_symbol symbols.Comma) literal_at Literal literal_sound) some_row

    among_ahead : (o : Operand) (ts : List Terminal) (w : Wrong) (left : List Terminal) → begins (is_keyword word.In) ts ≡ true
        → among_at o (rest ts) ≡ Err (w, left) → AheadOf opening (Behind alias o) ts w left
    among_ahead o ts w left is read =
        goes_on opening (One (is_keyword word.In) then Something Set) (Behind alias o) ts w left
        (λ l s first spelled. (tests.Among o s.4.0, (first, l, refl, spelled, (s.0, s.1, s.2, s.3, s.4.1))))
        (behind opening (One (is_keyword word.In)) (Something Set) ts (rest ts) w left (one_begins (is_keyword word.In) ts is)
        (then_ahead opening (λ (u : Unit {0}). One (is_keyword word.Set)) (λ u. Literals) Set (keyword_at word.Set) (λ u. literals_at o)
        (keyword_ahead opening word.Set) (keyword_sound word.Set) (λ u. some_literals) (λ u. literals_ahead o)
        (λ u literals l spelled. (literals, spelled)) (rest ts) w left read))

    compare_ahead : (o : Operand) (ts : List Terminal) (w : Wrong) (left : List Terminal) → compare_at alias o ts ≡ Err (w, left)
        → AheadOf opening (Behind alias o) ts w left
    compare_ahead o ts w left read =
        goes_on opening (Something (Compared alias)) (Behind alias o) ts w left
        (λ l s first spelled. (tests.Compare o s.0.0 s.0.1, (first, l, refl, spelled, s.1)))
        (then_ahead opening IsRelation (λ r right. IsOperand alias right) (Compared alias) relation_at
        (λ r k. read_as (λ right. tests.Compare o r right) (operand_at alias k))
        relation_ahead relation_sound (λ r. some_operand alias)
        (λ r k v end stops. operand_ahead opening alias k v end
        (not_made (λ right. tests.Compare o r right) (operand_at alias k) (v, end) stops))
        (λ r right l spelled. ((r, right), spelled)) ts w left read)

    behind_ahead : (o : Operand) (ts : List Terminal) (w : Wrong) (left : List Terminal) → behind_operand alias o ts ≡ Err (w, left)
        → AheadOf opening (Behind alias o) ts w left
    behind_ahead o ts w left read =
        ⊎_elim (λ h. among_ahead o ts w left h.0 h.1) (λ h. compare_ahead o ts w left h.1)
        (chosen (begins (is_keyword word.In) ts) _ _ _ read)

    first_ahead : (o : Operand) (ts : List Terminal) (w : Wrong) (left : List Terminal) → behind_first alias o ts ≡ Err (w, left)
        → AheadOf opening (Behind alias o) ts w left
    first_ahead (operand.Field f) ts w left read =
        ⊎_elim
        (λ h.
        let pattern = pattern_ahead _ (rest ts) w left refl
        (not_made (λ p. tests.Like f p) (pattern_by (front as_quoted (rest ts)) (rest ts)) (w, left) h.1) in
        goes_on opening (One (is_keyword word.Like) then Something Pattern) (Behind alias (operand.Field f)) ts w left
        (λ l s first spelled. (tests.Like f s.4.0, (s.4.1.0, (first, l, refl, spelled, (s.0, s.1, s.2, s.3, s.4.1.1)))))
        (behind opening (One (is_keyword word.Like)) (Something Pattern) ts (rest ts) w left
        (one_begins (is_keyword word.Like) ts h.0) pattern))
        (λ h. behind_ahead (operand.Field f) ts w left h.1)
        (chosen (begins (is_keyword word.Like) ts) _ _ _ read)
    first_ahead (operand.Literal l) ts w left read = behind_ahead (operand.Literal l) ts w left read

    -- a word and a field in brackets, which make a test
    named_ahead : (k : Keyword) (make : List ℕ → Test) (ts : List Terminal) (w : Wrong) (left : List Terminal)
        → ((f : List ℕ) (l : List Terminal) → (One (is_keyword k) then Bracketed (Field alias f)) l → IsTest alias (make f) l)
        → begins (is_keyword k) ts ≡ true → read_as make (bracketed_at alias (rest ts)) ≡ Err (w, left)
        → AheadOf opening (Something (IsTest alias)) ts w left
    named_ahead k make ts w left spells is read =
        goes_on opening (One (is_keyword k) then Something (λ f. Bracketed (Field alias f)))
        (Something (IsTest alias)) ts w left (λ l s. (make s.4.0, spells s.4.0 l (s.0, s.1, s.2, s.3, s.4.1)))
        (behind opening (One (is_keyword k)) _ ts (rest ts) w left (one_begins (is_keyword k) ts is)
        (bracketed_ahead (rest ts) w left (not_made make (bracketed_at alias (rest ts)) (w, left) read)))

    test_ahead : Goes opening (IsTest alias) (test_at alias)
    test_ahead ts w left read =
        ⊎_elim
        (λ h. named_ahead word.IsDefined tests.Defined ts w left (λ f l spelled. spelled) h.0 h.1)
        (λ r1.
        ⊎_elim
        (λ h. named_ahead word.IsUndefined tests.Undefined ts w left (λ f l spelled. spelled) h.0 h.1)
        (λ r2.
        ⊎_elim
        (λ h.
        goes_on opening _ (Something (IsTest alias)) ts w left (λ l s. (tests.Compare s.0 s.1.0 s.1.1, s.2))
        (before opening (IsOperand alias) (λ o. Compared alias) ts w left (λ o. some_compared alias)
        (operand_ahead opening alias ts w left h)))
        (λ h.
        goes_on opening (IsOperand alias h.0 then Behind alias h.0) (Something (IsTest alias)) ts w left
        (λ l s. subst (Something (IsTest alias)) (sym s.2) (s.4 s.0 s.3))
        (behind opening (IsOperand alias h.0) (Behind alias h.0) ts h.1 w left (operand_sound alias ts h.0 h.1 h.2)
        (first_ahead h.0 h.1 w left h.3)))
        (stopped (operand_at alias ts) _ (w, left) r2.1))
        (chosen (begins (is_keyword word.IsUndefined) ts) _ _ _ r1.1))
        (chosen (begins (is_keyword word.IsDefined) ts) _ _ _ read)

  -- conditions
  module _ (within : List Terminal → Reading Tree) (Part : Tree → List Terminal
      → Type 0) (sound : Sound Part within) (goes : Goes opening Part within) where
    all_ahead : Goes opening (IsAll Part) (all_at within)
    all_ahead ts w left read =
        goes_on opening (Something (Row (is_keyword word.And) Part)) (Something (IsAll Part)) ts w left
        (λ l s. (all (in_order s.0), (s.0, refl, s.1)))
        (row_ahead opening (is_keyword word.And) within Part sound goes ts w left
        (not_made (λ parts. all (in_order parts)) (separated_at (is_keyword word.And) within ts) (w, left) read))

    any_ahead : Goes opening (IsAny Part) (any_at within)
    any_ahead ts w left read =
        goes_on opening (Something (Row (is_keyword word.Or) (IsAll Part))) (Something (IsAny Part)) ts w left
        (λ l s. (any (in_order s.0), (s.0, refl, s.1)))
        (row_ahead opening (is_keyword word.Or) (all_at within) (IsAll Part) (all_sound within Part sound) all_ahead ts w left
        (not_made (λ parts. any (in_order parts)) (separated_at (is_keyword word.Or) (all_at within) ts) (w, left) read))

    bracket_ahead : (ts : List Terminal) (w : Wrong) (left : List Terminal) → begins (is_symbol symbols.LeftBracket) ts ≡ true
        → bracket_at within (rest ts) ≡ Err (w, left) → AheadOf opening (Something (λ c. Bracketed (IsAny Part c))) ts w left
    bracket_ahead ts w left is read =
        goes_on opening (One (is_symbol symbols.LeftBracket)
        then Something (λ c. IsAny Part c then One (is_symbol symbols.RightBracket))) _ ts w left
        (λ l s. (s.4.0, (s.0, s.1, s.2, s.3, s.4.1)))
        (behind opening (One (is_symbol symbols.LeftBracket)) _ ts (rest ts) w left (one_begins (is_symbol symbols.LeftBracket) ts is)
        (closed_ahead (IsAny Part) (any_at within) (λ c. c) any_ahead (any_sound within Part sound) (rest ts) w left read))

-- at whatever depth, a test is a part
part_of_test : (alias : Option (List ℕ)) (depth : ℕ) (t : Test) (l : List Terminal) → IsTest alias t l → IsPart alias depth (test t) l
part_of_test alias zero t l spelled = (t, refl, spelled)
part_of_test alias (suc depth) t l spelled = inl (t, refl, spelled)

module _ (bottom : ℕ) (opening : List Terminal → List Terminal)
    (opened : (alias : Option (List ℕ)) (ts : List Terminal)
    → (begins (is_keyword word.Not) ts || begins (is_symbol symbols.LeftBracket) ts) ≡ true → (c : Tree) × (more : List Terminal)
    × AreSpelled more × IsPart alias bottom c (opening ts ++ more)) where
  module _ (alias : Option (List ℕ)) (known : IsSpelledAlias alias) where
    test_part_sound : (depth : ℕ) (ts : List Terminal) (c : Tree) (left : List Terminal) → read_as test (test_at alias ts) ≡ Ok (c, left)
        → Front (IsPart alias depth c) ts left
    test_part_sound depth ts c left read =
        let m = made_of test (test_at alias ts) c left read in
        subst (λ (d : Tree). Front (IsPart alias depth d) ts left) m.2
        (weaker (IsTest alias m.0) (IsPart alias depth (test m.0)) ts left (part_of_test alias depth m.0)
        (test_sound alias ts m.0 left m.1))

    test_part_ahead : (depth : ℕ) (ts : List Terminal) (w : Wrong) (left : List Terminal) → read_as test (test_at alias ts) ≡ Err (w, left)
        → AheadOf opening (Something (IsPart alias depth)) ts w left
    test_part_ahead depth ts w left read =
        goes_on opening (Something (IsTest alias)) (Something (IsPart alias depth)) ts w left
        (λ l s. (test s.0, part_of_test alias depth s.0 l s.1))
        (test_ahead opening alias known ts w left (not_made test (test_at alias ts) (w, left) read))

    -- what is read at a depth is spelled so above whatever bottom
    raised_sound : (depth : ℕ) → Sound (IsPart alias (raised bottom depth)) (part_at alias depth)
    raised_sound zero ts c left read =
        ⊎_elim
        (λ h. absurd (cc h.1))
        (λ h. test_part_sound bottom ts c left h.1)
        (chosen (begins (is_keyword word.Not) ts || begins (is_symbol symbols.LeftBracket) ts) _ _ _ read)
    raised_sound (suc depth) ts c left read =
        ⊎_elim
        (λ h.
        let m = made_of negation (part_at alias depth (rest ts)) c left h.1 in
        weaker _ (IsPart alias (suc (raised bottom depth)) c) ts left (λ l is. inr (inl (m.0, sym m.2, is)))
        (joined (One (is_keyword word.Not)) (IsPart alias (raised bottom depth) m.0) ts (rest ts) left
        (one_begins (is_keyword word.Not) ts h.0) (raised_sound depth (rest ts) m.0 left m.1)))
        (λ r1.
        ⊎_elim
        (λ h. weaker _ (IsPart alias (suc (raised bottom depth)) c) ts left (λ l is. inr (inr is))
        (bracket_sound (part_at alias depth) (IsPart alias (raised bottom depth)) (raised_sound depth) ts c left h.0 h.1))
        (λ h. test_part_sound (suc (raised bottom depth)) ts c left h.1)
        (chosen (begins (is_symbol symbols.LeftBracket) ts) _ _ _ r1.1))
        (chosen (begins (is_keyword word.Not) ts) _ _ _ read)

    -- a level too much begins with a terminal
    first_there : (ts : List Terminal) → (begins (is_keyword word.Not) ts || begins (is_symbol symbols.LeftBracket) ts) ≡ true
        → (t : Terminal) × (after : List Terminal) × (ts ≡ t ∷ after)
    first_there [] is = absurd (cc)
    first_there (t ∷ ts) is = (t, ts, refl)

    part_ahead : (depth : ℕ) → Goes opening (IsPart alias (raised bottom depth)) (part_at alias depth)
    part_ahead zero ts w left read =
        ⊎_elim
        (λ h.
        let level = opened alias ts h.0 in
        let one : AheadOf opening (Something (IsPart alias bottom)) ts TooDeep ts =
        record { start = []; more = level.1; split = refl; shown = first_there ts h.0; known = level.2; holds = (level.0, level.3) } in
        at_front opening _ ts TooDeep w left one h.1)
        (λ h. test_part_ahead bottom ts w left h.1)
        (chosen (begins (is_keyword word.Not) ts || begins (is_symbol symbols.LeftBracket) ts) _ _ _ read)
    part_ahead (suc depth) ts w left read =
        ⊎_elim
        (λ h.
        goes_on opening (One (is_keyword word.Not) then Something (IsPart alias (raised bottom depth)))
        (Something (IsPart alias (suc (raised bottom depth)))) ts w left
        (λ l s. (negation s.4.0, inr (inl (s.4.0, refl, (s.0, s.1, s.2, s.3, s.4.1)))))
        (behind opening (One (is_keyword word.Not)) _ ts (rest ts) w left (one_begins (is_keyword word.Not) ts h.0)
        (part_ahead depth (rest ts) w left (not_made negation (part_at alias depth (rest ts)) (w, left) h.1))))
        (λ r1.
        ⊎_elim
        (λ h.
        goes_on opening _ (Something (IsPart alias (suc (raised bottom depth)))) ts w left (λ l s. (s.0, inr (inr s.1)))
        (bracket_ahead opening (part_at alias depth) (IsPart alias (raised bottom depth)) (raised_sound depth)
        (part_ahead depth) ts w left h.0 h.1))
        (λ h. test_part_ahead (suc (raised bottom depth)) ts w left h.1)
        (chosen (begins (is_symbol symbols.LeftBracket) ts) _ _ _ r1.1))
        (chosen (begins (is_keyword word.Not) ts) _ _ _ read)

  pub condition_ahead : (alias : Option (List ℕ)) → IsSpelledAlias alias
      → (depth : ℕ) (ts : List Terminal) (w : Wrong) (left : List Terminal) → condition_at depth alias ts ≡ Err (w, left)
      → Ahead opening (IsCondition (raised bottom depth) alias) ts w left
  unfolding condition_at
  condition_ahead alias known depth ts w left read =
      ahead_of opening (IsCondition (raised bottom depth) alias) ts w left
      (any_ahead opening (part_at alias depth) (IsPart alias (raised bottom depth)) (raised_sound alias known depth)
      (part_ahead alias known depth) ts w left read)
