use Rattle.std.proofs.Common.{◌≡◌, ◌+◌, ◌-◌, length, ap, ◌∙◌, subst, arith, length-append, [], ◌∷◌, ℕ}
use Rattle.gr_thread_tests.specs.Numbers.{HasNumbers}
use Rattle.gr_thread_tests.proofs.Numbering.{own_last, slots_more}
use Rattle.gr_thread_tests.proofs.member.crowd.slots_of.Goals as goal

pub loop-k-preserved : goal.loop-k-preserved
loop-k-preserved c =
    let many = c.loop-k.invariant.count in
    let few = c.loop-k.invariant.few in
    let ok = c.loop-k.slots.ok in
    let room = c.loop-k.invariant.held in
    let same = c.push_reserved.ensures.capacity in
    let one = c.push_reserved.ensures.len in
    let less : length c.loop-k.left ≡ length c.pop.new.self + 1 =
    ap length c.in-Some.ensures.pass ∙ length-append c.pop.new.self (c.in-Some.pass ∷ []) in
    let last = own_last c.args.member.now c.loop-k.left c.pop.new.self c.in-Some.pass c.loop-k.invariant.own c.in-Some.ensures.pass in
    let low : length c.pop.new.self ≡ 7 - c.loop-k._k = omega arith in
    let high : length c.pop.new.self + 1 ≡ 8 - c.loop-k._k = omega arith in
    record {
      held = omega arith;
      count = omega arith;
      few = omega arith;
      own = last.0;
      each = slots_more (λ slot. slot.pass) c.args.member.now c.loop-k.slots.items c.push_reserved.new.self.items _ c.loop-k._k
          c.loop-k.invariant.each c.push_reserved.ensures.items (omega arith)
          (subst (λ (b : ℕ). HasNumbers c.args.member.now 8 (7 - c.loop-k._k) b c.in-Some.pass) high
          (subst (λ (a : ℕ). HasNumbers c.args.member.now 8 a (length c.pop.new.self + 1) c.in-Some.pass) low last.1));
    }
