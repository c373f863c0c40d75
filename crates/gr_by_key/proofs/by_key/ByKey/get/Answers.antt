use Rattle.std.proofs.Common.{sym, ap, ◌∙◌}
use Rattle.std.specs.FinMap as finite
use Rattle.gr_by_key.proofs.Maps.{get_found}
use Rattle.gr_by_key.proofs.by_key.ByKey.get.Goals as goal

pub returns : goal.returns
returns g c = c.get.ensures.value ∙ sym (get_found c.self.inside.map.entries c.args.key.now) ∙ ap (λ m. finite.get m c.args.key.now) c.self.view_is
