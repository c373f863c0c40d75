use Rattle.std.proofs.Common.{sym, ap, ◌∙◌}
use Rattle.std.specs.FinMap as finite
use Rattle.gr_by_key.proofs.Ordered.{entries_in_order}
use Rattle.gr_by_key.proofs.by_key.ByKey.iter.Goals as goal

pub returns : goal.returns
returns g c =
    c.iter.ensures.rest ∙ sym (entries_in_order c.self.inside.map.entries c.iter.ensures.ordered) ∙ ap finite.entries c.self.view_is
