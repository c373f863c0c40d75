use Rattle.gr_cq.proofs.Rooms.{fits_made, none_roomy}
use Rattle.gr_cq.proofs.registry.Registry.apply.Goals as goal

pub carry_out-requires : goal.carry_out-requires
carry_out-requires c =
    fits_made c.self.inside.spare c.self.inside.all c.foreseen.inside.plan c.self.invariant
    (rw (c.self.view_is, c.foreseen.view_is) c.requires)

pub invariant_of-self : goal.invariant_of-self
invariant_of-self c = none_roomy c.carry_out.new.all
