use Rattle.std.proofs.Common.{◌≡◌, ap, ◌∙◌, map, rules}
use Rattle.std.specs.FinMap as finite
use Rattle.std.specs.Map.Iter.{deref_pair}
use Rattle.std.proofs.lemmas.Map.Iter.{iter_end}
use Rattle.gr_history.specs.Queries.{row_of}
use Rattle.gr_durable.proofs.Rows.{map_twice}
use Rattle.gr_durable.proofs.playing.list_of.Goals as goal

pub returns : goal.returns
returns c =
    let whole : map deref_pair c.loop-key.yielded ≡ finite.entries c.args.rows.now = search (rules, iter_end) in
    c.loop-key.invariant
    ∙ map_twice (λ entry. row_of entry.0 entry.1) deref_pair c.loop-key.yielded
    ∙ ap (map (λ entry. row_of entry.0 entry.1)) whole
