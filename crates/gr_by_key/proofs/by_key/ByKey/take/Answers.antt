use Rattle.std.proofs.Common.{sym, ap, ◌∙◌}
use Rattle.std.specs.Prelude.{None}
use Rattle.std.specs.FinMap as finite
use Rattle.gr_by_key.proofs.Maps.{get_found, with_value_is}
use Rattle.gr_by_key.specs.Maps.{with_value}
use Rattle.gr_by_key.proofs.by_key.ByKey.take.Goals as goal

pub returns-clause-value : goal.returns-clause-value
returns-clause-value g c =
    c.remove.ensures.value ∙ sym (get_found c.self.inside.map.entries c.args.key.now) ∙ ap (λ m. finite.get m c.args.key.now) c.self.view_is

pub returns-clause-rest : goal.returns-clause-rest
returns-clause-rest g c =
    with_value_is c.args.key.now None c.self.inside.map.entries c.remove.new.self.entries c.remove.ensures.updates.0
    ∙ ap (with_value c.args.key.now None) c.self.view_is
