use Rattle.std.proofs.Common.{◌≡◌, ◌≤◌, ◌+◌, eqb, length}
use Rattle.std.specs.Prelude.{count_by}
use Rattle.gr_script.proofs.cuts.feeds_in.Given as goal

abbrev pub invariant-loop-rest : goal.invariant-loop-rest
invariant-loop-rest l = record {
  counted : l.feeds + count_by (λ byte. eqb byte 0x0A) l.rest ≡ count_by (λ byte. eqb byte 0x0A) l.text;
  within : l.feeds + length l.rest ≤ length l.text;
}

abbrev pub decreases-loop-rest : goal.decreases-loop-rest
decreases-loop-rest l = length l.rest
