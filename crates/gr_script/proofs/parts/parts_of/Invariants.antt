use Rattle.std.proofs.Common.{◌≡◌, length}
use Rattle.gr_script.specs.Said.{parts_of}
use Rattle.gr_script.proofs.PartLemmas.{parts_onto}
use Rattle.gr_script.proofs.parts.parts_of.Given as goal

abbrev pub invariant-loop-item : goal.invariant-loop-item
invariant-loop-item l = parts_onto l.parts l.left ≡ parts_of l.fn.items

abbrev pub decreases-loop-item : goal.decreases-loop-item
decreases-loop-item l = length l.left
