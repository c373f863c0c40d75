use Rattle.std.proofs.Common.{◌≡◌, take}
use Rattle.std.specs.Prelude.{flat_map, IsTrue}
use Rattle.gr_value.specs.ValueText.{escaped}
use Rattle.gr_value.proofs.escapes.is_plain_block.Given as goal

abbrev pub invariant-loop-byte : goal.invariant-loop-byte
invariant-loop-byte l = IsTrue l.plain → flat_map escaped (take l.byte-index l.block) ≡ take l.byte-index l.block
