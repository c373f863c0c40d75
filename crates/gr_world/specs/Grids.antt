-- The histories of all members at all shards, and those of one shard.
use Rattle.std.specs.Prelude.{ℕ, List}
use Rattle.gr_history.specs.declared.deed.Deed.{Deed}
use Rattle.gr_law.specs.Grids.{Grid}
use Rattle.gr_script.specs.Rules.{Heading}

-- of each member, and each of its shards, the history, the newest deed first
abbrev pub Histories : Type 0
Histories = ℕ → ℕ → List Deed

-- all members' histories of one shard
abbrev pub grid_from : Heading → Histories → ℕ → Grid
grid_from heading histories shard = record {
  members = heading.members;
  founders = heading.founders;
  shard = shard;
  shards = heading.shards;
  opening = λ _. heading.floor;
  history = λ member. histories member shard;
}
