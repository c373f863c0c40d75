use Rattle.std.proofs.Common.{length, refl}
use Rattle.gr_script.specs.declared.line.Act.TheVariants as act
use Rattle.gr_session.proofs.Growing.{at_pushed, get_less, goes_pushed, same_act, serves_more, stays_at, step_there, waits_on}
use Rattle.gr_session.proofs.Making.{peeks_still, serves_pushed}
use Rattle.gr_session.proofs.session.Session.step.Goals as goal

pub returns-in_err-answer-clause-at : goal.returns-in_err-answer-clause-at
returns-in_err-answer-clause-at g c =
    stays_at c.args.member.now c.args.inboxes.now c.args.self.now
    (record c.args.self.now { pass = c.serve.new.pass; courier = c.serve.new.courier }) c.requires refl c.serve.ensures.stays
    c.serve.ensures.carries

pub returns-in_err-push-clause-at : goal.returns-in_err-push-clause-at
returns-in_err-push-clause-at g c =
    at_pushed c.args.member.now c.args.inboxes.now c.args.self.now c.push-2.new.self c.serve.new.pass c.serve.new.courier
    c.push.new.self c.requires c.serve.ensures.stays c.serve.ensures.carries c.push.ensures.pushed

pub returns-in_err-push-clause-goes : goal.returns-in_err-push-clause-goes
returns-in_err-push-clause-goes g c =
    goes_pushed c.args.self.now c.push-2.new.self c.serve.new.pass c.serve.new.courier c.push.new.self c.serve.ensures.stays
    c.serve.ensures.carries c.push.ensures.pushed

pub returns-clause-at : goal.returns-clause-at
returns-clause-at g c =
    at_pushed c.args.member.now c.args.inboxes.now c.args.self.now c.push-2.new.self c.serve.new.pass c.serve.new.courier
    c.push.new.self c.requires c.serve.ensures.stays c.serve.ensures.carries c.push.ensures.pushed

pub returns-clause-goes : goal.returns-clause-goes
returns-clause-goes g c =
    goes_pushed c.args.self.now c.push-2.new.self c.serve.new.pass c.serve.new.courier c.push.new.self c.serve.ensures.stays
    c.serve.ensures.carries c.push.ensures.pushed

pub returns-clause-left : goal.returns-clause-left
returns-clause-left g c = λ e.
    let s = c.args.self.now in
    get_less s.steps (length s.answers) c.in-Some.step.now
    (step_there s.steps c.len.result (length s.answers) c.in-Some.step.now c.len.ensures c.in-Some.ensures)

pub returns-clause-served : goal.returns-clause-served
returns-clause-served g c = λ e.
    let s = c.args.self.now in
    serves_more c.args.self.now
    (record c.args.self.now { answers = c.push-2.new.self; pass = c.serve.new.pass; courier = c.push.new.self })
    c.in-Some.step.now c.in_ok-answer.answer (record { client = refl; plan = refl; steps = refl })
    (serves_pushed s.client s.plan.shards c.in-Some.step.now c.in_ok-answer.answer s.pass c.serve.new.pass s.courier.posted
    c.serve.new.courier c.push.new.self c.push.ensures.pushed c.in_ok-answer.ensures.served)
    c.in_ok-push.ensures.ok (step_there s.steps c.len.result (length s.answers) c.in-Some.step.now c.len.ensures c.in-Some.ensures)
    c.serve.ensures.stays

pub returns-clause-waited : goal.returns-clause-waited
returns-clause-waited g c =
    let s = c.args.self.now in
    waits_on s.plan s.client s.plan.shards c.in-Some.step.now c.in_ok-answer.answer s.pass c.serve.new.pass s.courier.posted
    c.serve.new.courier.posted c.serve.ensures.stays.many c.in_ok-answer.ensures.served

pub returns-clause-still : goal.returns-clause-still
returns-clause-still g c = λ e looks.
    let s = c.args.self.now in
    peeks_still s.client s.plan.shards c.in-Some.step.now c.in_ok-answer.answer s.pass c.serve.new.pass s.courier.posted
    c.serve.new.courier.posted looks.1 c.serve.ensures.stays c.in_ok-answer.ensures.served
    (same_act s.steps (length s.answers) c.in-Some.step.now (record { seq = looks.0; act = act.Peek looks.1 })
    (step_there s.steps c.len.result (length s.answers) c.in-Some.step.now c.len.ensures c.in-Some.ensures) looks.2)
