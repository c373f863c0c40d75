use Rattle.std.proofs.Common.{◌≡◌}
use Rattle.gr_world.specs.Numbered.{numbers_from}
use Rattle.gr_world.specs.Worlds.{new_account}
use Rattle.gr_world.proofs.row.Row.new.Given as goal

abbrev pub invariant-loop-shard : goal.invariant-loop-shard
invariant-loop-shard l = l.cells.items ≡ numbers_from 0 l.shard (new_account l.fn.id l.fn.floor)
