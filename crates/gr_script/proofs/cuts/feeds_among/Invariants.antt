use Rattle.std.proofs.Common.{◌≡◌, ◌≤◌, eqb, take}
use Rattle.std.specs.Prelude.{count_by}
use Rattle.gr_script.proofs.cuts.feeds_among.Given as goal

abbrev pub invariant-loop-byte : goal.invariant-loop-byte
invariant-loop-byte l = record {
  counted : l.feeds ≡ count_by (λ byte. eqb byte 0x0A) (take l.byte-index l.few);
  within : l.feeds ≤ l.byte-index;
}
