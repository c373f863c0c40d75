use Rattle.std.proofs.Common.{arith, length-drop}
use Rattle.std.proofs.lemmas.List.{take_rest}
use Rattle.gr_io.proofs.EndLemmas.{Appends-more}
use Rattle.gr_io.proofs.writing.write_all.Goals as goal

pub loop-written-preserved : goal.loop-written-preserved
loop-written-preserved g c =
    let rest = take_rest c.args.bytes.now c.loop-written.written in
    let taken = c.in_ok-written.ensures in
    record {
      within = omega (arith, simp rest at taken.bound, length-drop c.loop-written.written c.args.bytes.now);
      appended = Appends-more _ _ _ _ _ _ c.loop-written.invariant.appended (rw rest at taken.bytes);
      never_falls = omega (arith, taken.never_falls);
    }
