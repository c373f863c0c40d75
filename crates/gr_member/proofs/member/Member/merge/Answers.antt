use Rattle.std.proofs.Common.{refl}
use Rattle.gr_history.specs.declared.deed.Deed.TheVariants.{Imaged}
use Rattle.gr_shard.specs.declared.next.Next.TheVariants as next
use Rattle.gr_member.proofs.Acting.{at_adds, acts_merged}
use Rattle.gr_member.proofs.member.Member.merge.Goals as goal

pub returns-clause-done : goal.returns-clause-done
returns-clause-done g c =
    at_adds (next.Merge c.args.image) c.in_ok-act.field-0 (Imaged c.args.image.now) c.args.shard c.args.shard c.args.pass.now c.act.new.pass
    refl (λ s t a. acts_merged s t c.args.image c.in_ok-act.field-0 a) c.in_ok-act.ensures.done
