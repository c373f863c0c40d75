use Rattle.std.proofs.Common.{◌≡◌, drop, get_or}
use Rattle.gr_script.specs.Past.{numbers}
use Rattle.gr_script.proofs.saying.number.Given as goal

abbrev pub invariant-loop-item : goal.invariant-loop-item
invariant-loop-item l = get_or (numbers (drop l.item-index l.items)) l.left 0 ≡ get_or (numbers l.items) l.place 0
