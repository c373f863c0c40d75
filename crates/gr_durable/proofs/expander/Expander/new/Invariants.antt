use Rattle.std.proofs.Common.{◌≡◌, ◌≤◌, ◌+◌, ◌-◌, ℕ, get_or, length}
use Rattle.gr_durable.specs.Expanding.{no_numbers}
use Rattle.gr_durable.proofs.expander.Expander.new.Given as goal

abbrev pub invariant-loop-numbers : goal.invariant-loop-numbers
invariant-loop-numbers l = record {
  none : (client : ℕ) → get_or l.numbers.items client no_numbers ≡ no_numbers;
  few : length l.numbers.items ≤ l.clients + 1;
}

abbrev pub decreases-loop-numbers : goal.decreases-loop-numbers
decreases-loop-numbers l = l.clients + 1 - length l.numbers.items
