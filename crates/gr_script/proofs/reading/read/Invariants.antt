use Rattle.std.proofs.Common.{◌≡◌, length, reverse}
use Rattle.gr_script.specs.Taken.{ahead, lines_taken}
use Rattle.gr_script.specs.Scripts.{is_run}
use Rattle.gr_script.proofs.reading.read.Given as goal

abbrev pub invariant-loop-lines : goal.invariant-loop-lines
invariant-loop-lines l = record {
  runs : l.feed.runs ≡ is_run l.fn.form;
  text : l.feed.text ≡ l.fn.bytes;
  lines : l.lines ≡ reverse (lines_taken l.feed);
}

abbrev pub decreases-loop-lines : goal.decreases-loop-lines
decreases-loop-lines l = length (ahead l.feed)
