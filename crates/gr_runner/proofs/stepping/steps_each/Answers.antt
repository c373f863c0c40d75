use Rattle.std.proofs.Common.{length, refl, subst, sym}
use Rattle.gr_script.specs.Rules.{IsScript}
use Rattle.gr_script.specs.Scripts.{heading_of}
use Rattle.gr_runner.proofs.StepsSorted.{place_at, steps_with}
use Rattle.gr_runner.proofs.stepping.steps_each.Goals as goal

pub sort-requires : goal.sort-requires
sort-requires c =
    place_at (heading_of c.args.script.now) c.as_slice-line-items.result.now c.loop-line.line-index c.line-item.result
    (length c.args.script.now.clients) c.loop-line.each.items
    (subst (IsScript (heading_of c.args.script.now)) (sym c.as_slice-line-items.ensures) c.args.script.now.ruled) c.loop-line-test.true
    c.line-item.is refl c.loop-line.invariant

pub loop-line-preserved : goal.loop-line-preserved
loop-line-preserved c =
    steps_with c.as_slice-line-items.result.now c.loop-line.line-index c.line-item.result (length c.args.script.now.clients)
    c.loop-line.each.items c.sort.new.each.items c.loop-line-test.true c.line-item.is c.loop-line.invariant c.in_ok-sort.ensures
