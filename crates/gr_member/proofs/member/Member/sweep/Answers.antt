use Rattle.std.proofs.Common.{List, subst}
use Rattle.std.specs.Prelude.{OnErr}
use Rattle.gr_history.specs.declared.deed.Deed.TheVariants.{Swept}
use Rattle.gr_member.specs.Seats.{Place}
use Rattle.gr_member.specs.Passes.{TurnsSome}
use Rattle.gr_member.proofs.member.Member.sweep.Goals as goal

pub returns-clause-refused : goal.returns-clause-refused
returns-clause-refused g c =
    subst (λ (p : List Place). OnErr c.sweep_each.result (TurnsSome (Swept c.args.moment) p c.sweep_each.new.shards.items))
    c.pass.view_is c.sweep_each.ensures.refused
