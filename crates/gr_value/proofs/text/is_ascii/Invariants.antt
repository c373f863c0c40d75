use Rattle.std.proofs.Common.{◌<◌, take}
use Rattle.std.specs.Prelude.{All, IsTrue}
use Rattle.gr_value.proofs.text.is_ascii.Given as goal

abbrev pub invariant-loop-byte : goal.invariant-loop-byte
invariant-loop-byte l = IsTrue l.ascii → All (λ byte. byte < 128) (take l.byte-index l.bytes)
