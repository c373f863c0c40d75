use Rattle.std.proofs.Common.{◌∙◌, ap, List, length}
use Rattle.gr_vector.specs.Ids.{Id, Ids}
use Rattle.gr_history.specs.declared.deed.Deed.{Deed}
use Rattle.gr_depart.proofs.Acts.{closing_is}
use Rattle.gr_depart.proofs.closing.closing_report.Goals as goal

with_none : List Id → Ids
with_none ids = record { ids = ids; spare = 0 }

pub returns : goal.returns
unfolding with_none
returns c =
    closing_is c.args.of c.args.shard.now.deeds (length c.as_slice.result.now) c.in_ok-new.field-0
    (ap (λ (deeds : List Deed). length deeds) (c.as_slice.ensures ∙ c.history.ensures.deeds))
    (c.in_ok-new.ensures ∙ c.in_ok-vector.ensures ∙ ap with_none c.vector.ensures)
