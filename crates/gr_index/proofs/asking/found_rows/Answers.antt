use Rattle.std.proofs.Common.{◌≡◌, ◌∙◌, map, rules}
use Rattle.std.proofs.lemmas.Map.Iter.{iter_end}
use Rattle.gr_index.proofs.Answers.{all_found, in_order}
use Rattle.gr_index.proofs.asking.found_rows.Goals as goal

pub returns-clause-rows : goal.returns-clause-rows
returns-clause-rows c =
    let whole : map (λ x. x) c.loop-key.yielded ≡ c.args.found.entries = search (rules, iter_end) in
    all_found c.from_vec.result c.loop-key.yielded c.args.found.entries (c.from_vec.ensures ∙ c.loop-key.invariant) whole

pub returns-clause-in_order : goal.returns-clause-in_order
returns-clause-in_order c =
    let whole : map (λ x. x) c.loop-key.yielded ≡ c.args.found.entries = search (rules, iter_end) in
    in_order c.args.found.entries c.from_vec.result
    (all_found c.from_vec.result c.loop-key.yielded c.args.found.entries (c.from_vec.ensures ∙ c.loop-key.invariant) whole)
    c.len.ensures.ordered
