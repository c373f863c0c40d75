use Rattle.std.proofs.Common.{◌≡◌, List, ◌++◌, length, sym, ap, ◌∙◌, append-nil}
use Rattle.gr_oql.specs.declared.must.Must.{Must}
use Rattle.gr_oql.specs.Must.{tree_must}
use Rattle.gr_oql.specs.View.{tree_of}
use Rattle.gr_oql.proofs.MustLemmas.{sole_none}
use Rattle.gr_oql.proofs.Trees.{tree_of-Any}
use Rattle.gr_oql.proofs.condition.Condition.+add_must.Goals as goal

pub returns-else-is_alone : goal.returns-else-is_alone
returns-else-is_alone t c =
    let several = λ (one : length c.in-Any.parts.items ≡ 1). c.if-is_alone.false (c.len-is_alone.ensures ∙ c.in-Any.parts.ok.0 ∙ one) in
    let none = ap tree_must (ap tree_of c.in-Any.is ∙ tree_of-Any c.in-Any.parts) ∙ sole_none c.in-Any.parts.items several in
    sym (ap (λ (l : List Must). c.args.found.now ++ l) none ∙ append-nil c.args.found.now)
