use Rattle.std.proofs.Common.{◌≡◌, ◌≤◌, ◌-◌, take, length}
use Rattle.std.specs.Prelude.{flat_map}
use Rattle.gr_value.specs.ValueText.{escaped}
use Rattle.gr_value.proofs.escapes.plain_blocks_len.Given as goal

abbrev pub invariant-further : goal.invariant-further
invariant-further l = record { within : l.len ≤ length l.bytes; plain : flat_map escaped (take l.len l.bytes) ≡ take l.len l.bytes }

abbrev pub decreases-further : goal.decreases-further
decreases-further l = length l.bytes - l.len
