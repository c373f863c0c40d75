use Rattle.std.proofs.Common.{subst, sym}
use Rattle.gr_script.specs.declared.line.Act.{Act}
use Rattle.gr_session.specs.Steps.{Serves}
use Rattle.gr_session.proofs.serving.serve.Goals as goal

pub returns-in_ok-query-in-Query-clause-served : goal.returns-in_ok-query-in-Query-clause-served
returns-in_ok-query-in-Query-clause-served g c =
    subst (λ (act : Act). Serves c.args.desk.now.client c.args.desk.now.plan.shards (record { seq = c.args.step.now.seq; act = act })
    c.in_ok-query-in-Query.field-0 c.args.pass.now c.query.new.pass c.args.courier.now.posted c.args.courier.now.posted)
    (sym c.in-Query.is) (c.in_ok-query-in-Query.ensures.served c.args.courier.now.posted)

pub returns-in_ok-peek-in-Peek-clause-served : goal.returns-in_ok-peek-in-Peek-clause-served
returns-in_ok-peek-in-Peek-clause-served g c =
    subst (λ (act : Act). Serves c.args.desk.now.client c.args.desk.now.plan.shards (record { seq = c.args.step.now.seq; act = act })
    c.in_ok-peek-in-Peek.field-0 c.args.pass.now c.peek.new.pass c.args.courier.now.posted c.args.courier.now.posted)
    (sym c.in-Peek.is) (c.in_ok-peek-in-Peek.ensures.served c.args.courier.now.posted)
