use Rattle.std.proofs.Common.{◌≡◌, List, ℕ, sym, subst}
use Rattle.gr_oql.specs.declared.query.Parts.{Parts}
use Rattle.gr_oql.specs.Grammar.{Spells}
use Rattle.gr_oql.specs.Must.{must_of}
use Rattle.gr_oql.specs.Reader.Asking.{question}
use Rattle.gr_oql.proofs.query.query_of.Goals as goal

pub invariant_of-result : goal.invariant_of-result
invariant_of-result c = (
  subst (λ (p : Parts). Spells p.text (question p.text p.clauses)) (sym c.in_ok-new-2.ensures.ok)
      (subst (λ (l : List ℕ). Spells l (question l c.args.clauses)) (sym c.in_ok-new.ensures.text) c.requires),
  subst (λ (p : Parts). p.must ≡ must_of (question p.text p.clauses)) (sym c.in_ok-new-2.ensures.ok) c.in_ok-must.ensures,
)
