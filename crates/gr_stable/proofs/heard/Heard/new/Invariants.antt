use Rattle.std.proofs.Common.{◌≡◌, replicate, None}
use Rattle.gr_stable.proofs.heard.Heard.new.Given as goal

abbrev pub invariant-loop : goal.invariant-loop
invariant-loop l = l.reports.items ≡ replicate l.counter None
