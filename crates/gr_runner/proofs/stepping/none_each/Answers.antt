use Rattle.std.proofs.Common.{ℕ, [], ◌∙◌, arith, subst}
use Rattle.gr_runner.specs.Stepping.{AreStepsOf}
use Rattle.gr_runner.proofs.StepsSorted.{none_more}
use Rattle.gr_runner.proofs.stepping.none_each.Goals as goal

pub loop-k-preserved : goal.loop-k-preserved
loop-k-preserved c =
    none_more c.loop-k._k c.loop-k.each.items c.push.new.self.items c.from_vec.result (c.from_vec.ensures ∙ c.in_ok-room.ensures.items)
    c.loop-k.invariant c.in_ok-push.ensures.items

pub returns : goal.returns
returns c =
    subst (λ (n : ℕ). AreStepsOf [] n c.loop-k.each.items) (omega (arith, c.loop-k-test.false, c.loop-k.auto._k-end)) c.loop-k.invariant
