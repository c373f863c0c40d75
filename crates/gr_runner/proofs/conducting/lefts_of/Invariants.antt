use Rattle.std.specs.Prelude.{◌≡◌, ◌≢◌, ◌≤◌, ◌+◌, All, None, vec_len}
use Rattle.std.specs.List.{AllByRecursion}
use Rattle.std.specs.Vec.{vec_capacity}
use Rattle.gr_runner.proofs.Unpacking.{IsUnpacked}
use Rattle.gr_runner.proofs.conducting.lefts_of.Given as goal

abbrev pub invariant-loop-slot : goal.invariant-loop-slot
invariant-loop-slot l = record {
  gone : All (λ slot. slot.worker ≡ None) l.rest.items;
  left : AllByRecursion (λ slot. slot.left ≢ None) l.rest.items;
  unpacked : IsUnpacked l.fn.slots.items l.rest.items l.lefts.items;
  room : vec_len l.lefts + vec_len l.rest ≤ vec_capacity l.lefts;
}

abbrev pub decreases-loop-slot : goal.decreases-loop-slot
decreases-loop-slot l = vec_len l.rest
