use Rattle.std.proofs.Common.{◌≡◌, ap, sym, ◌∙◌, map, rules}
use Rattle.std.specs.Map.{keys_of}
use Rattle.std.specs.Map.Iter.{deref}
use Rattle.std.proofs.lemmas.Map.Iter.{iter_end}
use Rattle.gr_by_key.specs.Maps.{names_in}
use Rattle.gr_by_key.proofs.Ordered.{names_in_order}
use Rattle.gr_by_key.proofs.by_key.ByKey.keys.Goals as goal

pub returns : goal.returns
returns g c =
    let entries = c.self.inside.map.entries in
    let whole : map deref c.loop-key.yielded ≡ keys_of entries = search (rules, iter_end) in
    c.loop-key.invariant ∙ whole ∙ sym (names_in_order entries c.keys-key-items.ensures.ordered) ∙ ap names_in c.self.view_is
