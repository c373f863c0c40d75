use Rattle.std.proofs.Common.{◌≡◌, drop}
use Rattle.gr_script.specs.Past.{key_in}
use Rattle.gr_script.proofs.note.key_in.Given as goal

abbrev pub invariant-loop-item : goal.invariant-loop-item
invariant-loop-item l = key_in (drop l.item-index l.items) ≡ key_in l.items
