use Rattle.gr_host.proofs.Hosting.{goes_trans, work_line, work_none}
use Rattle.gr_host.proofs.host.Host.work.Goals as goal

pub loop-place-init : goal.loop-place-init
loop-place-init g c = work_none c.args.members.now c.args.inboxes.now c.args.self.now c.requires.at

pub returns-in_err-line-clause-goes : goal.returns-in_err-line-clause-goes
returns-in_err-line-clause-goes g c =
    goes_trans c.args.self.now c.loop-place.self c.line.new.self c.loop-place.invariant.goes c.line.ensures.goes

pub loop-place-preserved : goal.loop-place-preserved
loop-place-preserved g c =
    work_line c.args.members.now c.args.inboxes.now c.args.self.now c.loop-place.self c.line.new.self c.loop-place.place
    c.loop-place.invariant c.line.ensures.at c.line.ensures.goes c.line.ensures.carries c.in_ok-line.ensures.worked
