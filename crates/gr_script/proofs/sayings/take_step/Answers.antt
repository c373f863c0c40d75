use Rattle.std.proofs.Common.{◌∙◌, ◌≤◌, List, ◌∷◌, Option, Ok, Result, IfSome, refl, ap, sym, subst, arith}
use Rattle.gr_script.specs.declared.plain.PlainStep.{PlainStep}
use Rattle.gr_script.specs.declared.reason.Reason.{Reason}
use Rattle.gr_script.specs.declared.saying.Saying.{Saying}
use Rattle.gr_script.specs.Past.{stage}
use Rattle.gr_script.specs.Plain.{IsPrinted}
use Rattle.gr_script.specs.Printed.{act_saying}
use Rattle.gr_script.specs.Taken.{said, IsNext}
use Rattle.gr_script.proofs.Taking.{printed_says, said_next}
use Rattle.gr_script.proofs.sayings.take_step.Goals as goal

abbrev read : List Saying → Result (List Saying) Reason
read past = Ok past

pub push_step-requires-clause-next : goal.push_step-requires-clause-next
push_step-requires-clause-next c =
    let t = c.args.past.now in
    let step = c.in-Some.step in
    let printed = subst (λ (found : Option PlainStep). IfSome found (IsPrinted c.args.next.line.now)) c.in-Some.is c.in_ok-step.ensures in
    let whole : 4 ≤ stage (said t) = omega (arith, c.if-stage-lt-REQUIRED_LINES.false, c.stage.ensures) in
    record {
      line = c.args.next.line.now;
      ahead_is = c.requires;
      reads = printed_says t.runs (said t) c.args.next.line.now step _ printed whole refl c.if-serves.ensures.stated c.if-serves.ensures.staying
          c.if-serves.ensures.here;
    }

pub returns-in_ok-push_step-in-Some-clause-some : goal.returns-in_ok-push_step-in-Some-clause-some
returns-in_ok-push_step-in-Some-clause-some c =
    let t = c.args.past.now in
    let step = c.in-Some.step in
    let printed = subst (λ (found : Option PlainStep). IfSome found (IsPrinted c.args.next.line.now)) c.in-Some.is c.in_ok-step.ensures in
    let whole : 4 ≤ stage (said t) = omega (arith, c.if-stage-lt-REQUIRED_LINES.false, c.stage.ensures) in
    let next : IsNext t (act_saying step.client step.act ∷ said t) c.args.next.after.now = record {
      line = c.args.next.line.now;
      ahead_is = c.requires;
      reads = printed_says t.runs (said t) c.args.next.line.now step _ printed whole refl c.if-serves.ensures.stated c.if-serves.ensures.staying
          c.if-serves.ensures.here;
    } in
    record {
      taken = c.in_ok-push_step-in-Some.ensures.taken;
      reads = next.reads ∙ ap read (sym (ap said c.in_ok-push_step-in-Some.ensures.taken ∙ said_next t _ _ next));
      lines = c.in_ok-push_step-in-Some.ensures.line;
    }
