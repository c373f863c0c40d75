use Rattle.std.proofs.Common.{◌≡◌, ◌∙◌, ◌≤◌, List, ◌∷◌, Bool, Option, Ok, Result, IfSome, ap, sym, subst, arith}
use Rattle.gr_script.specs.declared.plain.Delivery.{Delivery}
use Rattle.gr_script.specs.declared.reason.Reason.{Reason}
use Rattle.gr_script.specs.declared.saying.Saying.{Saying}
use Rattle.gr_script.specs.Past.{stage}
use Rattle.gr_script.specs.Plain.{delivery_saying}
use Rattle.gr_script.specs.Printing.{saying_text}
use Rattle.gr_script.specs.Refusals.{past_with}
use Rattle.gr_script.specs.Taken.{said, IsNext}
use Rattle.gr_script.proofs.Taking.{delivery_says, said_next}
use Rattle.gr_script.proofs.sayings.take_delivery.Goals as goal

abbrev read : List Saying → Result (List Saying) Reason
read past = Ok past

pub push_delivery-requires : goal.push_delivery-requires
push_delivery-requires c =
    let t = c.args.past.now in
    let printed = subst (λ (found : Option Delivery). IfSome found (λ d. c.args.next.line.now ≡ saying_text (delivery_saying d))) c.in-Some.is
    c.delivery_in.ensures in
    let whole : 4 ≤ stage (said t) = omega (arith, c.if-stage-lt-REQUIRED_LINES.false, c.stage.ensures) in
    record {
      line = c.args.next.line.now;
      ahead_is = c.requires;
      reads = ap (λ (runs : Bool). past_with runs (said t) c.args.next.line.now) (sym c.runs.ensures ∙ c.if-runs.false)
          ∙ delivery_says (said t) c.args.next.line.now c.in-Some.delivery printed whole c.if-can_deliver.ensures.suit
          c.if-can_deliver.ensures.passes;
    }

pub returns-in_ok-push_delivery-in-Some-clause-some : goal.returns-in_ok-push_delivery-in-Some-clause-some
returns-in_ok-push_delivery-in-Some-clause-some c =
    let t = c.args.past.now in
    let delivery = c.in-Some.delivery in
    let printed = subst (λ (found : Option Delivery). IfSome found (λ d. c.args.next.line.now ≡ saying_text (delivery_saying d))) c.in-Some.is
    c.delivery_in.ensures in
    let whole : 4 ≤ stage (said t) = omega (arith, c.if-stage-lt-REQUIRED_LINES.false, c.stage.ensures) in
    let next : IsNext t (delivery_saying delivery ∷ said t) c.args.next.after.now = record {
      line = c.args.next.line.now;
      ahead_is = c.requires;
      reads = ap (λ (runs : Bool). past_with runs (said t) c.args.next.line.now) (sym c.runs.ensures ∙ c.if-runs.false)
          ∙ delivery_says (said t) c.args.next.line.now delivery printed whole c.if-can_deliver.ensures.suit c.if-can_deliver.ensures.passes;
    } in
    record {
      taken = c.in_ok-push_delivery-in-Some.ensures.taken;
      reads = next.reads ∙ ap read (sym (ap said c.in_ok-push_delivery-in-Some.ensures.taken ∙ said_next t _ _ next));
      lines = c.in_ok-push_delivery-in-Some.ensures.line;
    }
