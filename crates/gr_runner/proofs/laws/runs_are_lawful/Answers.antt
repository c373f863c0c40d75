use Rattle.gr_runner.proofs.Lawful.{run_lawful}
use Rattle.gr_runner.proofs.laws.runs_are_lawful.Goals as goal

pub returns : goal.returns
returns c heading lines houses rings desks news records script gone ended =
    run_lawful heading lines script houses rings desks news gone records ended
