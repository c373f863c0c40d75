use Rattle.std.proofs.Common.{◌≡◌, ◌∙◌, Option, Some, None, sym, ap, subst}
use Rattle.std.proofs.lemmas.List.{append-nil, take_all}
use Rattle.gr_script.specs.declared.line.Step.{Step}
use Rattle.gr_script.specs.Scripts.{heading_of}
use Rattle.gr_script.specs.Steps.{steps_of, AreNumbered}
use Rattle.gr_script.proofs.Numbers.{steps_numbered}
use Rattle.gr_script.proofs.Steps.{steps_with}
use Rattle.gr_script.proofs.script.Script.steps.Goals as goal
use Rattle.gr_script.proofs.script.Script.steps.Goals.{in-Some+in_ok-push, in_default}

pub loop-line-preserved : goal.loop-line-preserved
loop-line-preserved c =
    let with = λ (found : Option Step) (is : c.in_ok-step.field-0 ≡ found).
    steps_with c.args.client c.as_slice-line-items.result.now c.loop-line.line-index c.line-item.result c.loop-line.steps found
    c.loop-line-test.true c.line-item.is c.loop-line.invariant (sym is ∙ c.in_ok-step.ensures)
    in
    elim c.match-branch-3.branch [
      | in-Some+in_ok-push w ↦ w.steps-is ∙ w.in_ok-push.ensures.ok ∙ with (Some w.in-Some.step) w.in-Some.is
      | in_default w ↦ w.steps-is ∙ sym (append-nil c.loop-line.steps) ∙ with None w.in_default.is
    ]

pub returns-clause-numbered : goal.returns-clause-numbered
returns-clause-numbered c =
    let all : c.loop-line.steps ≡ steps_of c.args.client c.args.self.now.lines =
    c.loop-line.invariant ∙ ap (steps_of c.args.client)
    (take_all c.loop-line.line-index c.as_slice-line-items.result.now c.loop-line-test.false ∙ c.as_slice-line-items.ensures)
    in
    subst (AreNumbered 1) (sym all)
    (steps_numbered (heading_of c.args.self.now) c.args.client c.args.self.now.lines c.args.self.now.ruled.lines_stand)
