-- What the members that end ready have in common: they took in every change, and have the same rows.
use Rattle.std.specs.Prelude.{◌≡◌, ◌≢◌, ◌⊎◌, ℕ, ◌≤◌, ◌<◌, List}
use Rattle.gr_stamp.specs.declared.change.Change.{Change}
use Rattle.gr_history.specs.declared.record.Region.{Region}
use Rattle.gr_history.specs.Regions.{IsRegionOf}
use Rattle.gr_law.specs.Grids.{Among}
use Rattle.gr_law.specs.Integrity.{IsMade}
use Rattle.gr_law.specs.Laws.{took}
use Rattle.gr_script.specs.declared.line.Line.{Line}
use Rattle.gr_script.specs.Rules.{Heading, IsMember}
use Rattle.gr_script.specs.Steps.{joins_of}
use Rattle.gr_world.specs.Grids.{Histories, grid_from}

-- The member is a founder, or it joins.
abbrev pub EndsReady : Heading → List Line → ℕ → Type 0
EndsReady heading lines member = IsMember heading member × ((member ≤ heading.founders) ⊎ (joins_of member lines ≢ 0))

-- Each such member took in each change that any member made.
abbrev pub TakesAll : Heading → List Line → Histories → Type 0
TakesAll heading lines histories = (member shard : ℕ) → EndsReady heading lines member → shard < heading.shards → (change : Change)
    → IsMade (grid_from heading histories shard) change
    → Among change (took (grid_from heading histories shard) (histories member shard))

-- The regions that two such members' histories leave have the same rows, stamps included.
abbrev pub HasSameRows : Heading → List Line → Histories → Type 0
HasSameRows heading lines histories = (one two shard : ℕ) → EndsReady heading lines one → EndsReady heading lines two
    → shard < heading.shards → (left right : Region) → IsRegionOf heading.floor (histories one shard) left
    → IsRegionOf heading.floor (histories two shard) right → left.rows ≡ right.rows
