-- Lists that became longer by one.
use Rattle.std.proofs.Common.{◌≡◌, ℕ, ◌+◌, ◌<◌, List, [], ◌∷◌, ◌++◌, length, get_or, sym, ap, ◌∙◌, length-append}
use Rattle.std.proofs.lemmas.List.{get_or_push, get_or_append_left}

module _ {E : Type 0} where
  pub at_front : (all less : List E) (x : E) (k : ℕ) (d : E) → all ≡ less ++ x ∷ [] → k < length less → get_or all k d ≡ get_or less k d
  at_front all less x k d e l = ap (λ (z : List E). get_or z k d) e ∙ get_or_append_left less (x ∷ []) d k l

  pub at_last : (all less : List E) (x : E) (k : ℕ) (d : E) → all ≡ less ++ x ∷ [] → k ≡ length less → get_or all k d ≡ x
  at_last all less x k d e l = ap (λ (z : List E). get_or z k d) e ∙ get_or_push less x d k (sym l)

  pub one_longer : (all less : List E) (x : E) → all ≡ less ++ x ∷ [] → length all ≡ length less + 1
  one_longer all less x e = ap length e ∙ length-append less (x ∷ [])
