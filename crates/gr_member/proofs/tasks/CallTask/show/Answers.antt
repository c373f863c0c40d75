use Rattle.gr_member.specs.Replicas.{told_of}
use Rattle.gr_member.proofs.Publishing.{shows_called}
use Rattle.gr_member.proofs.tasks.CallTask.show.Goals as goal

pub returns-clause-done : goal.returns-clause-done
returns-clause-done g c =
    shows_called c.call_published.result c.args.shard.now c.call_published.new.self c.args.self.now.client c.args.self.now.seq c.args.self.now.ask (told_of c.args.published.now)
    (told_of c.call_published.new.published) c.call_published.ensures.given c.call_published.ensures.added c.call_published.ensures.turned
