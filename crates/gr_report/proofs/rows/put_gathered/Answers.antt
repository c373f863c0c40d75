use Rattle.std.proofs.Common.{◌≡◌, ◌∙◌, ap, sym, ◌++◌, map, flat_map, rules}
use Rattle.std.specs.Map.{values_of}
use Rattle.std.specs.Map.Iter.{deref}
use Rattle.std.proofs.lemmas.Map.Iter.{iter_end}
use Rattle.gr_report.proofs.Gathered.{map-twice, values-shown}
use Rattle.gr_report.proofs.rows.put_gathered.Goals as goal

pub returns : goal.returns
returns g c =
    let entries = c.args.rows.now.entries in
    let whole : map deref c.loop-row.yielded ≡ values_of entries = search (rules, iter_end) in
    c.loop-row.invariant
    ∙ ap (λ rows. c.args.out.now.items ++ flat_map g.T.Written.text rows)
    (map-twice (λ row. row.now) deref c.loop-row.yielded ∙ ap (map (λ row. row.now)) whole ∙ sym (values-shown entries))
