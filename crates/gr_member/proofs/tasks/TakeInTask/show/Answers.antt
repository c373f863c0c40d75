use Rattle.gr_member.specs.Replicas.{told_of}
use Rattle.gr_member.proofs.Publishing.{shows_taken}
use Rattle.gr_member.proofs.tasks.TakeInTask.show.Goals as goal

pub returns-clause-done : goal.returns-clause-done
returns-clause-done g c =
    shows_taken c.take_in_published.result c.args.shard.now c.take_in_published.new.self c.args.self.now.change (told_of c.args.published.now)
    (told_of c.take_in_published.new.published) c.take_in_published.ensures.verdict c.take_in_published.ensures.added c.take_in_published.ensures.turned
