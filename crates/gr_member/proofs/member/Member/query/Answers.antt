use Rattle.std.proofs.Common.{List, subst}
use Rattle.std.specs.Prelude.{IfOk, OnErr}
use Rattle.gr_history.specs.declared.deed.Deed.TheVariants.{Asked}
use Rattle.gr_member.specs.Seats.{Place}
use Rattle.gr_member.specs.Passes.{TurnsAll, TurnsSome}
use Rattle.gr_member.proofs.member.Member.query.Goals as goal

pub returns-clause-done : goal.returns-clause-done
returns-clause-done g c =
    subst (λ (p : List Place). IfOk c.query_each.result (λ replies. TurnsAll (λ reply. Asked c.args.client c.args.seq c.args.ask.now reply)
    p replies c.query_each.new.shards.items))
    c.pass.view_is c.query_each.ensures.done

pub returns-clause-refused : goal.returns-clause-refused
returns-clause-refused g c =
    subst (λ (p : List Place). OnErr c.query_each.result (TurnsSome (λ reply. Asked c.args.client c.args.seq c.args.ask.now reply) p
    c.query_each.new.shards.items))
    c.pass.view_is c.query_each.ensures.refused
