use Rattle.std.proofs.Common.{sym, subst}
use Rattle.gr_shard.specs.declared.next.Came.{Came}
use Rattle.gr_member.specs.Replicas.{Shows, told_of}
use Rattle.gr_member.proofs.Publishing.{shows_prepared}
use Rattle.gr_member.proofs.tasks.NextTask.show.Goals as goal

pub returns-clause-done : goal.returns-clause-done
returns-clause-done g c =
    subst (λ (came : Came). Shows c.args.shard.now c.args.self.now came c.commit.new.self (told_of c.args.published.now)
    (told_of c.publish.new.self)) (sym c.commit.ensures.came)
    (shows_prepared c.args.shard.now c.prepare.new.self c.commit.new.self c.prepare.new.self.spare c.args.self.now c.in_ok-prepared.prepared
    c.turned.result.now c.args.published.now c.publish.new.self c.in_ok-prepared.ensures.same c.in_ok-prepared.ensures.prepared
    c.commit.ensures.added c.turned.ensures c.in_ok-publish.ensures.ok)
