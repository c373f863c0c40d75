use Rattle.std.proofs.Common.{◌≡◌, ◌∙◌, ℕ, List, ◌∷◌, ◌++◌, Option, IfSome, ap, sym, subst}
use Rattle.gr_value.specs.KeyBytes.{IsKey}
use Rattle.gr_value.specs.declared.value.Field.{Field}
use Rattle.gr_value.specs.Values.{IsValue}
use Rattle.gr_value.specs.ValueText.{value_text}
use Rattle.gr_history.specs.declared.ask.Ask.{Ask}
use Rattle.gr_script.specs.declared.forms.LineKind.TheVariants as kind
use Rattle.gr_script.specs.declared.line.Act.TheVariants.{Call}
use Rattle.gr_script.specs.declared.operation.Operation.TheVariants.{OfPair}
use Rattle.gr_script.specs.Operations.{ask_of_pair}
use Rattle.gr_script.specs.Plain.{IsSpelled}
use Rattle.gr_script.proofs.Plainly.{spelled_as, paired_spelled}
use Rattle.gr_script.proofs.plain.paired_in.Goals as goal

pub returns-in-Some-3 : goal.returns-in-Some-3
returns-in-Some-3 c =
    let key = c.in-Some-2.key in
    let old = c.in-Some-3.old in
    let new = c.in-Some-3.new in
    let behind = c.in-Some.rest.now in
    let is_key = subst (λ (found : Option (List ℕ)). IfSome found (λ k. (k ≡ c.in-Some.key.now) × IsKey k)) c.in-Some-2.is
    c.in_ok-key.ensures in
    let are_values = subst
    (λ (found : Option (List Field × List Field)). IfSome found (λ values.
    (behind ≡ value_text values.0 ++ 0x20 ∷ value_text values.1) × IsValue values.0 × IsValue values.1))
    c.in-Some-3.is c.in_ok-old.ensures in
    let rest_is = c.in-Some.ensures ∙ ap (λ (k : List ℕ). k ++ 0x20 ∷ behind) (sym is_key.0)
    ∙ ap (λ (r : List ℕ). key ++ 0x20 ∷ r) are_values.0 in
    let op = c.args.operation in
    subst (λ (asked : Ask). IsSpelled (kind.Call (OfPair op)) c.args.rest.now (Call asked)) (sym c.ask.ensures)
    (spelled_as (kind.Call (OfPair op)) c.args.rest.now (key ++ 0x20 ∷ (value_text old ++ 0x20 ∷ value_text new))
    (Call (ask_of_pair op key old new)) rest_is (paired_spelled op key old new is_key.1 are_values.1 are_values.2))
