use Rattle.std.proofs.Common.{◌∙◌}
use Rattle.gr_script.specs.Refusals.{delivery_tests, refusal}
use Rattle.gr_script.specs.Taken.{said}
use Rattle.gr_script.proofs.refusal.delivery_refusal.Goals as goal

pub returns : goal.returns
returns c =
    c.undeliverable.ensures
    ∙ (λ i. refusal (delivery_tests (said c.args.past.now) (c.number.ensures i) (c.number-2.ensures i) (c.number-3.ensures i)))
