use Rattle.std.proofs.Common.{◌≡◌, []}
use Rattle.gr_world.specs.Numbered.{numbers_from}
use Rattle.gr_world.proofs.tellings.Tellings.new.Given as goal

abbrev pub invariant-loop-client : goal.invariant-loop-client
invariant-loop-client l = l.lists.items ≡ numbers_from 1 l._client (λ _. [])
