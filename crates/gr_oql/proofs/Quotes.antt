-- How a text with doubled quotes is read part by part.
use Rattle.std.proofs.Common.{◌≡◌, ℕ, suc, ◌<◌, List, [], ◌∷◌, ◌++◌, length, get_or, refl, ap, ◌∙◌, arith}
use Rattle.std.proofs.lemmas.Bool.{ne_eqb}
use Rattle.std.proofs.lemmas.List.{length-append}
use Rattle.gr_lex.specs.Bytes.{quote}
use Rattle.gr_oql.specs.Terminals.{undoubled, behind_quote, SplitsAtQuotes}

abbrev pub HasNoQuote : List ℕ → Type 0
HasNoQuote text = (i : ℕ) → i < length text → get_or text i 0 ≡ quote → ⊥

later : (b : ℕ) (bs : List ℕ) → HasNoQuote (b ∷ bs) → HasNoQuote bs
later b bs none i below = none (suc i) (omega arith)

pub undoubled_plain : (text : List ℕ) → HasNoQuote text → undoubled text ≡ text
undoubled_plain [] none = refl
undoubled_plain (b ∷ bs) none =
    rw (ne_eqb b quote (none 0 (omega arith))) (ap (λ (l : List ℕ). b ∷ l) (undoubled_plain bs (later b bs none)))

undoubled_split : (before behind : List ℕ) → HasNoQuote before → undoubled (before ++ quote ∷ behind) ≡ before
    ++ quote ∷ behind_quote behind
undoubled_split [] behind none = refl
undoubled_split (b ∷ bs) behind none =
    rw (ne_eqb b quote (none 0 (omega arith))) (ap (λ (l : List ℕ). b ∷ l) (undoubled_split bs behind (later b bs none)))

behind_other : (text : List ℕ) → ((more : List ℕ) → text ≡ quote ∷ more → ⊥) → behind_quote text ≡ undoubled text
behind_other [] other = refl
behind_other (b ∷ bs) other = rw (ne_eqb b quote (λ same. other bs (ap (λ (x : ℕ). x ∷ bs) same))) refl

pub split_doubled : (text before behind more : List ℕ) → text ≡ before ++ quote ∷ behind → HasNoQuote before → behind ≡ quote ∷ more
    → SplitsAtQuotes text before more
split_doubled text before behind more parts none twice = record {
  said = ap undoubled parts ∙ undoubled_split before behind none ∙ ap (λ (l : List ℕ). before ++ quote ∷ behind_quote l) twice;
  shorter = omega (arith, ap length parts, length-append before (quote ∷ behind), ap length twice);
}

pub split_single : (text before behind : List ℕ) → text ≡ before ++ quote ∷ behind → HasNoQuote before
    → ((more : List ℕ) → behind ≡ quote ∷ more → ⊥) → SplitsAtQuotes text before behind
split_single text before behind parts none once = record {
  said = ap undoubled parts ∙ undoubled_split before behind none ∙ ap (λ (l : List ℕ). before ++ quote ∷ l) (behind_other behind once);
  shorter = omega (arith, ap length parts, length-append before (quote ∷ behind));
}
