use Rattle.gr_runner.proofs.Desks.{met_its}
use Rattle.gr_runner.proofs.meeting.meet_at.Goals as goal

pub returns-clause-its : goal.returns-clause-its
returns-clause-its c =
    met_its c.args.members.now c.args.at c.args.desks.now c.args.pass c.meet_there.new.desks c.requires.desks c.meet_there.ensures
