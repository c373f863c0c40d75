use Rattle.std.proofs.Common.{ap}
use Rattle.gr_vector.proofs.Views.{no_ids}
use Rattle.gr_vector.proofs.vector.Vector.new.Goals as goal

pub returns : goal.returns
returns c = ap (λ ids. record { ids = ids; spare = 0 }) (no_ids c.in_ok-new_members.field-0.items c.in_ok-new_members.ensures.none)
