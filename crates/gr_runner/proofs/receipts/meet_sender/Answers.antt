use Rattle.std.proofs.Common.{◌≡◌, ℕ, List, length, get_or, subst, sym}
use Rattle.gr_post.specs.Passes.{Ring}
use Rattle.gr_runner.specs.Receipts.{IsToldAt}
use Rattle.gr_runner.proofs.Told.{told_more, told_there}
use Rattle.gr_runner.proofs.receipts.meet_sender.Goals as goal

pub meet_one-requires-clause-takes : goal.meet_one-requires-clause-takes
meet_one-requires-clause-takes c = λ t r.
    let there = told_there c.args.inboxes.now c.args.takes.now c.loop-pass.takes c.args.own c.loop-pass.left c.pop.new.self c.in-Some.pass
    c.requires.takes c.requires.sends c.loop-pass.invariant c.in-Some.ensures.pass in
    subst (λ (k : ℕ). (get_or c.loop-pass.takes k t).table ≡ (get_or c.as_slice.result.now k r).table) (sym c.len.ensures)
    (subst (λ (rings : List Ring). (get_or c.loop-pass.takes (length c.pop.new.self) t).table ≡ (get_or rings (length c.pop.new.self) r).table)
    (sym c.as_slice.ensures) (there.0 t r))

pub meet_one-requires-clause-sends : goal.meet_one-requires-clause-sends
meet_one-requires-clause-sends c = λ r.
    let there = told_there c.args.inboxes.now c.args.takes.now c.loop-pass.takes c.args.own c.loop-pass.left c.pop.new.self c.in-Some.pass
    c.requires.takes c.requires.sends c.loop-pass.invariant c.in-Some.ensures.pass in
    subst (λ (k : ℕ). c.in-Some.pass.table ≡ (get_or c.as_slice.result.now k r).table) (sym c.len.ensures)
    (subst (λ (rings : List Ring). c.in-Some.pass.table ≡ (get_or rings (length c.pop.new.self) r).table)
    (sym c.as_slice.ensures) (there.1 r))

pub loop-pass-preserved : goal.loop-pass-preserved
loop-pass-preserved c =
    told_more c.args.takes.now c.loop-pass.takes c.meet_one.new.takes c.args.own c.loop-pass.left c.pop.new.self c.in-Some.pass
    c.loop-pass.invariant c.in-Some.ensures.pass
    (subst (λ (k : ℕ). IsToldAt k c.loop-pass.takes c.in-Some.pass c.meet_one.new.takes) c.len.ensures c.meet_one.ensures)
