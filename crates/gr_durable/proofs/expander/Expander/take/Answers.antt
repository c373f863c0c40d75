use Rattle.std.proofs.Common.{◌≡◌, ◌∙◌, ◌∷◌, ◌++◌, reverse, refl, sym, ap, subst}
use Rattle.gr_script.specs.declared.line.Line.{Line}
use Rattle.gr_script.specs.Expanded.{expanded}
use Rattle.gr_durable.specs.Expanding.{Fits, IsExpander}
use Rattle.gr_durable.proofs.expander.Expander.take.Goals as goal

pub returns-in_ok-step-in-Step-clause-kept : goal.returns-in_ok-step-in-Step-clause-kept
returns-in_ok-step-in-Step-clause-kept c clients past is fits =
    subst (λ (l : Line). IsExpander clients c.step.new.self (l ∷ past)) (sym c.in-Step.is)
    (c.in_ok-step-in-Step.ensures.kept clients past is (subst (Fits clients past) c.in-Step.is fits))

pub returns-in_ok-step-in-Step-clause-turn : goal.returns-in_ok-step-in-Step-clause-turn
returns-in_ok-step-in-Step-clause-turn c clients past is fits =
    ap (λ (l : Line). expanded (l ∷ past)) c.in-Step.is
    ∙ ap (λ (l : Line). l ∷ expanded past)
    (sym (c.in_ok-step-in-Step.ensures.line clients past is (subst (Fits clients past) c.in-Step.is fits).0))

pub returns-in-Deliver-clause-turn : goal.returns-in-Deliver-clause-turn
returns-in-Deliver-clause-turn c clients past is fits =
    ap (λ (l : Line). expanded (l ∷ past)) c.in-Deliver.is
    ∙ ap (λ (l : Line). l ∷ expanded past)
    (sym (c.deliver.ensures clients past is (subst (Fits clients past) c.in-Deliver.is fits)))

pub returns-in_ok-leave-in-Leave-clause-kept : goal.returns-in_ok-leave-in-Leave-clause-kept
returns-in_ok-leave-in-Leave-clause-kept c clients past is fits =
    subst (λ (l : Line). IsExpander clients c.leave.new.self (l ∷ past)) (sym c.in-Leave.is)
    (c.in_ok-leave-in-Leave.ensures.kept clients past is)

pub returns-in_ok-back-in-Back-clause-kept : goal.returns-in_ok-back-in-Back-clause-kept
returns-in_ok-back-in-Back-clause-kept c clients past is fits =
    subst (λ (l : Line). IsExpander clients c.back.new.self (l ∷ past)) (sym c.in-Back.is)
    (c.in_ok-back-in-Back.ensures.kept clients past is (subst (Fits clients past) c.in-Back.is fits))

pub returns-in_ok-back-in-Back-clause-turn : goal.returns-in_ok-back-in-Back-clause-turn
returns-in_ok-back-in-Back-clause-turn c clients past is fits =
    ap (λ (l : Line). expanded (l ∷ past)) c.in-Back.is
    ∙ sym (c.in_ok-back-in-Back.ensures.lines clients past is (subst (Fits clients past) c.in-Back.is fits) (expanded past))
