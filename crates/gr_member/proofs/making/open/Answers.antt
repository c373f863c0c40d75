use Rattle.std.proofs.Common.{ap}
use Rattle.gr_peek.specs.Views.{Note}
use Rattle.gr_member.proofs.Dealt.{origin_is, seats_of}
use Rattle.gr_member.proofs.making.open.Goals as goal

pub returns-in-Ok-clause-each : goal.returns-in-Ok-clause-each
returns-in-Ok-clause-each g c =
    seats_of c.args.plan c.args.shard c.args.passes c.in_ok-replica.replica
    (record { lock = c.in-Ok.made.0; name = c.tell-name.result }) c.in-Ok.made.1 c.in-Ok.ensures.count
    (origin_is c.args.plan c.args.shard c.in_ok-replica.replica.origin c.tell-name.result.copy c.in_ok-replica.ensures.id
    c.in_ok-replica.ensures.floor (ap (λ (n : Note). n.copy) c.tell-name.ensures))
    c.in_ok-replica.ensures.none c.in-Ok.ensures.each
