use Rattle.std.proofs.Common.{refl}
use Rattle.gr_history.specs.declared.deed.Deed.TheVariants.{Heard}
use Rattle.gr_shard.specs.declared.next.Next.TheVariants as next
use Rattle.gr_member.proofs.Acting.{at_adds, acts_heard}
use Rattle.gr_member.proofs.member.Member.hear.Goals as goal

pub returns-clause-done : goal.returns-clause-done
returns-clause-done g c =
    at_adds (next.Hear c.args.report) c.in_ok-act.field-0 (Heard c.args.report.now) c.args.shard c.args.shard c.args.pass.now
    c.act.new.pass refl
    (λ s t a. acts_heard s t c.args.report c.in_ok-act.field-0 a) c.in_ok-act.ensures.done
