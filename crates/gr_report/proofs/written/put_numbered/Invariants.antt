use Rattle.std.proofs.Common.{◌≡◌, ◌++◌, take}
use Rattle.gr_report.specs.Texts.{texts_from}
use Rattle.gr_report.proofs.written.put_numbered.Given as goal

abbrev pub invariant-loop-place : goal.invariant-loop-place
invariant-loop-place g l = l.out.items ≡ l.initial.out.items ++ texts_from (g.T.Numbered.text l.owner) l.first (take l.place l.items)
