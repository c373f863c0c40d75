use Rattle.std.proofs.Common.{◌≡◌, ◌∙◌, ℕ, length, subst, sym, arith}
use Rattle.std.specs.Prelude.{vec_len}
use Rattle.gr_runner.specs.Meeting.{MeetsAt}
use Rattle.gr_runner.proofs.Desks.{upto_all, upto_more}
use Rattle.gr_runner.proofs.meeting.meet_each.Goals as goal

pub loop-pass-preserved : goal.loop-pass-preserved
loop-pass-preserved c =
    let less = c.pop.new.self.items in
    let at : c.len-at.result ≡ length less = omega (arith, c.len-at.ensures, c.pop.new.self.ok) in
    let met = subst (λ (i : ℕ). MeetsAt i c.loop-pass.desks c.in-Some.pass c.meet_at.new.desks) at c.meet_at.ensures.met in
    record {
      desks = c.meet_at.ensures.its;
      met = upto_more c.args.desks.now c.args.visits.items c.loop-pass.desks c.meet_at.new.desks c.loop-pass.left.items less c.in-Some.pass
          (c.requires.visits.many ∙ sym c.requires.desks.many) c.loop-pass.invariant.met c.in-Some.ensures.items met;
    }

pub returns-clause-met : goal.returns-clause-met
returns-clause-met c =
    let ok = c.loop-pass.left.ok in
    let empty : vec_len c.loop-pass.left ≡ 0 = grind (arith) in
    let none : length c.loop-pass.left.items ≡ 0 = omega arith in
    upto_all c.args.desks.now c.args.visits.items c.loop-pass.desks c.loop-pass.left.items c.loop-pass.invariant.met none
