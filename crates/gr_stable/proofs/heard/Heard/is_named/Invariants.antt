use Rattle.std.proofs.Common.{◌≡◌, ◌≤◌}
use Rattle.gr_stable.specs.Heard.{is_named_by}
use Rattle.gr_stable.proofs.heard.Heard.is_named.Given as goal

abbrev pub invariant-loop-founder : goal.invariant-loop-founder
invariant-loop-founder l = record {
  most : l.founder ≤ l.fn.founders;
  so_far : is_named_by l.member l.founder l.self ≡ is_named_by l.member l.fn.founders l.self;
}

abbrev pub decreases-loop-founder : goal.decreases-loop-founder
decreases-loop-founder l = l.founder
