use Rattle.std.proofs.Common.{ap, refl, ◌∙◌}
use Rattle.std.proofs.lemmas.Result.{IfOk-weaker}
use Rattle.gr_stamp.specs.declared.change.Change.{Change}
use Rattle.gr_value.specs.Shard.{shard_of}
use Rattle.gr_history.specs.declared.deed.Deed.TheVariants.{Taken}
use Rattle.gr_shard.specs.declared.next.Came.TheVariants as came
use Rattle.gr_shard.specs.declared.next.Next.TheVariants as next
use Rattle.gr_member.specs.Passes.{House}
use Rattle.gr_member.proofs.Acting.{at_adds, acts_taken}
use Rattle.gr_member.proofs.member.Member.take_in.Goals as goal

pub returns-clause-done : goal.returns-clause-done
returns-clause-done g c =
    IfOk-weaker c.act.result _ _ (λ told a.
    at_adds (next.TakeIn c.args.change) (came.Verdict told) (Taken c.args.change.now told) c.shard-shard.result
    (shard_of c.args.change.now.key c.args.self.now.plan.shards) c.args.pass.now c.act.new.pass
    (c.shard-shard.ensures ∙ ap (λ (change : Change). shard_of change.key c.self.inside.plan.shards) c.get.ensures
    ∙ ap (λ (h : House). shard_of c.args.change.now.key h.plan.shards) c.self.view_is)
    (λ s t acts. acts_taken s t c.args.change (came.Verdict told) told acts refl)
    a) c.act.ensures.done
