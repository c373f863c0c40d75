use Rattle.gr_runner.proofs.Gathered.{left_more}
use Rattle.gr_runner.proofs.gathering.meet_left.Goals as goal

pub returns-clause-more : goal.returns-clause-more
returns-clause-more c = λ firsts lefts know.
    left_more firsts c.args.desks.now c.meet_at.new.desks c.meet_visits.new.desks lefts c.args.left know c.meet_at.ensures.met
    c.meet_visits.ensures.met
