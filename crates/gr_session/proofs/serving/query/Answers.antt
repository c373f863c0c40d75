use Rattle.gr_session.proofs.Making.{serves_query}
use Rattle.gr_session.proofs.serving.query.Goals as goal

pub returns-clause-served : goal.returns-clause-served
returns-clause-served g c = λ posted.
    let desk = c.args.desk.now in
    serves_query desk.client desk.plan.shards c.args.seq c.args.ask.now c.in_ok-replies.replies c.args.pass.now c.query.new.pass
    posted c.in_ok-replies.ensures.done
