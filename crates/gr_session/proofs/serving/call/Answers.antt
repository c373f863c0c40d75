use Rattle.std.proofs.Common.{subst, sym}
use Rattle.gr_value.specs.Shard.{shard_of}
use Rattle.gr_history.specs.Asks.{key_of}
use Rattle.gr_history.specs.declared.deed.Deed.TheVariants.{Call}
use Rattle.gr_member.specs.declared.plan.Plan.{Plan}
use Rattle.gr_member.specs.Passes.{AddsAt}
use Rattle.gr_session.proofs.Making.{serves_call}
use Rattle.gr_session.proofs.serving.call.Goals as goal

pub returns-clause-served : goal.returns-clause-served
returns-clause-served g c =
    let desk = c.args.desk.now in
    let done = c.in_ok-done.done in
    serves_call desk.client desk.plan.shards c.args.seq c.args.ask.now c.in_ok-done.done c.args.pass.now c.call.new.pass
    c.args.courier.now.posted c.post.new.courier.posted
    (subst (λ (p : Plan). AddsAt (shard_of (key_of c.args.ask.now) p.shards) c.args.pass.now
    (Call desk.client done.to c.args.seq c.args.ask.now done.reply done.made) c.call.new.pass)
    (sym c.requires.plan.1) c.in_ok-done.ensures.done)
    c.in_ok-post.ensures.posted
