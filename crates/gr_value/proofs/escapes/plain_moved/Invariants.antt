use Rattle.std.proofs.Common.{◌≡◌, ◌≤◌, ◌++◌, length}
use Rattle.std.specs.Prelude.{flat_map}
use Rattle.gr_value.specs.ValueText.{escaped}
use Rattle.gr_value.proofs.escapes.plain_moved.Given as goal

abbrev pub invariant-bytes : goal.invariant-bytes
invariant-bytes l = record {
  read : flat_map escaped l.fn.out.items ++ l.bytes ≡ flat_map escaped l.out.items ++ l.rest;
  printed : l.fn.out.items ++ flat_map escaped l.bytes ≡ l.out.items ++ flat_map escaped l.rest;
  within : length l.rest ≤ length l.bytes;
}

abbrev pub decreases-bytes : goal.decreases-bytes
decreases-bytes l = length l.rest
