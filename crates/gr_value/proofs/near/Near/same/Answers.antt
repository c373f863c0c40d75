use Rattle.std.proofs.Common.{◌∙◌, ◌&&◌, nat_eq, bytes_eq, ap}
use Rattle.gr_value.proofs.Alike.{near_is}
use Rattle.gr_value.proofs.near.Near.same.Goals as goal

pub returns : goal.returns
returns c =
    ap (λ same. nat_eq c.self.inside.len c.other.inside.len && same) c.is_same.ensures
    ∙ near_is c.self.inside.len c.other.inside.len c.self.inside.all c.other.inside.all c.self.told c.other.told c.self.invariant c.other.invariant
    ∙ (λ i. bytes_eq (c.self.view_is i) (c.other.view_is i))
