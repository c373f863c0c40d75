use Rattle.std.proofs.Common.{◌∙◌, ◌-◌, ap}
use Rattle.gr_value.specs.KeyFront.{front_of}
use Rattle.gr_value.proofs.KeyFronts.{front_of_padded}
use Rattle.gr_value.proofs.near.Near.front.Goals as goal

pub returns : goal.returns
returns c =
    let padded = c.self.invariant in
    c.front_of.ensures
    ∙ front_of_padded 8 0 c.self.inside.len (14 - c.self.inside.len) c.self.inside.all padded.zeros
    ∙ ap front_of c.self.view_is
