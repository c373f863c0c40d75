use Rattle.std.proofs.Common.{subst, sym}
use Rattle.gr_value.specs.Shard.{shard_of}
use Rattle.gr_history.specs.declared.deed.Deed.TheVariants.{Taken}
use Rattle.gr_post.specs.declared.mail.Mail.{Mail}
use Rattle.gr_member.specs.declared.plan.Plan.{Plan}
use Rattle.gr_member.specs.Passes.{AddsAt}
use Rattle.gr_host.specs.Works.{Follows}
use Rattle.gr_host.proofs.Steps.{follows_change}
use Rattle.gr_host.proofs.mail.follow.Goals as goal

pub returns-in_ok-take_in-in-Change-clause-done : goal.returns-in_ok-take_in-in-Change-clause-done
returns-in_ok-take_in-in-Change-clause-done g c =
    let change = c.in-Change.change in
    let told = c.in_ok-take_in-in-Change.field-0 in
    subst (λ (m : Mail). Follows c.args.plan.shards m c.args.pass.now c.take_in.new.pass) (sym c.in-Change.is)
    (follows_change c.args.plan.shards c.in-Change.shard c.in-Change.change told c.args.pass.now c.take_in.new.pass
    (subst (λ (p : Plan). AddsAt (shard_of change.key p.shards) c.args.pass.now (Taken change told) c.take_in.new.pass)
    (sym c.requires.plan) c.in_ok-take_in-in-Change.ensures.done))
