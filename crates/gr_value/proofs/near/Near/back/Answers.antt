use Rattle.std.proofs.Common.{◌∙◌, ◌-◌, ap, drop, List, ℕ}
use Rattle.gr_value.specs.KeyFront.{front_of}
use Rattle.gr_value.proofs.KeyFronts.{front_of_padded, front_taken}
use Rattle.gr_value.proofs.near.Near.back.Goals as goal

pub returns-clause-back : goal.returns-clause-back
returns-clause-back c =
    let padded = c.self.invariant in
    c.front_of.ensures
    ∙ front_taken 8 (drop 6 c.self.inside.all)
    ∙ front_of_padded 8 6 c.self.inside.len (14 - c.self.inside.len) c.self.inside.all padded.zeros
    ∙ ap (λ (bytes : List ℕ). front_of (drop 6 bytes)) c.self.view_is
