use Rattle.std.proofs.Common.{◌≡◌, ◌++◌, take}
use Rattle.gr_report.specs.Texts.{spaced}
use Rattle.gr_report.proofs.lists.put_keys.Given as goal

abbrev pub invariant-loop-key : goal.invariant-loop-key
invariant-loop-key l = l.out.items ≡ l.initial.out.items ++ spaced (take l.key-index l.keys)
