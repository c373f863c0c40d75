-- What each event rests on was there before it.
use Rattle.std.specs.Prelude.{◌≡◌, ◌⊎◌, ◌≤◌, ◌<◌, ℕ, List, [], ◌∷◌, length, get_or}
use Rattle.gr_value.specs.Shard.{shard_of}
use Rattle.gr_history.specs.declared.deed.Deed.{Deed}
use Rattle.gr_history.specs.declared.deed.Deed.TheVariants.{Call, Asked, Taken, Gave, Imaged, Reported, Heard, Swept}
use Rattle.gr_history.specs.declared.query_ask.QueryAsk.{QueryAsk}
use Rattle.gr_history.specs.declared.query_reply.QueryReply.{QueryReply}
use Rattle.gr_history.specs.declared.query_reply.QueryReply.TheVariants.{Unknown}
use Rattle.gr_history.specs.Asks.{key_of}
use Rattle.gr_history.specs.Lawful.{IsLawfulDeed}
use Rattle.gr_history.specs.Standing.{present}
use Rattle.gr_law.specs.Grids.{Among, Grid, identity}
use Rattle.gr_law.specs.Integrity.{IsGenuineDeed, IsHeardDeed}
use Rattle.gr_law.specs.Next.{IsFirstImage}
use Rattle.gr_script.specs.Rules.{Heading, home_of}
use Rattle.gr_world.specs.Departures.{IsClosing}
use Rattle.gr_world.specs.Events.{Event, Did, Peeked, Gathered, history}
use Rattle.gr_world.specs.Grids.{grid_from}

-- all members' histories of one shard, as events have them
abbrev pub grid_at : Heading → ℕ → List Event → Grid
grid_at heading shard course = grid_from heading (λ member shard. history member shard course) shard

-- A call stands at its client's member, in the shard of its key. A query's step stands at its client's member.
abbrev pub IsPlaced : Heading → ℕ → ℕ → Deed → Type 0
IsPlaced heading member shard (Call client to seq ask reply made) =
    (member ≡ home_of heading client) × (shard ≡ shard_of (key_of ask) heading.shards)
IsPlaced heading member shard (Asked client seq ask reply) = member ≡ home_of heading client
IsPlaced heading member shard (Taken change verdict) = Unit {0}
IsPlaced heading member shard (Gave to what) = Unit {0}
IsPlaced heading member shard (Imaged image) = Unit {0}
IsPlaced heading member shard (Reported report) = Unit {0}
IsPlaced heading member shard (Heard report) = Unit {0}
IsPlaced heading member shard (Swept moment expired) = Unit {0}

-- Of each shard of the client's member the reply is that of a deed of this step.
pub record IsGathered (heading : Heading) (client number : ℕ) (replies : List QueryReply) (before : List Event) : Type 0 where
  pub one_each : length replies ≡ heading.shards
  pub told : (shard : ℕ) → shard < heading.shards → (ask : QueryAsk)
      × Among (Asked client number ask (get_or replies shard Unknown)) (history (home_of heading client) shard before)

-- A deed that comes next at the member is lawful after the history so far. A change that is taken in and a report that is
-- heard were made before, and an image that is merged was given before. A report that none made closes one of these members.
pub record IsNextDeed (grid : Grid) (gone : List ℕ) (m : ℕ) (deed : Deed) : Type 0 where
  pub from : 1 ≤ m
  pub to : m ≤ grid.members
  pub lawful : IsLawfulDeed (identity grid m) (grid.opening m) deed (grid.history m)
  pub genuine : IsGenuineDeed grid m deed
  pub once : IsFirstImage deed (grid.history m)
  pub heard : IsHeardDeed grid deed ⊎ IsClosing gone deed (grid.history m)

-- A peek sees what is present. What a client is told of a query its member's shards answered before.
abbrev pub IsNextEvent : Heading → List ℕ → Event → List Event → Type 0
IsNextEvent heading gone (Did member shard deed) before =
    IsNextDeed (grid_at heading shard before) gone member deed × IsPlaced heading member shard deed
IsNextEvent heading gone (Peeked client number peek) before =
    (peek.value ≡ present peek.key (history (home_of heading client) (shard_of peek.key heading.shards) before))
    × (peek.at ≡ length (history (home_of heading client) (shard_of peek.key heading.shards) before))
IsNextEvent heading gone (Gathered client number replies) before = IsGathered heading client number replies before

abbrev pub IsCausal : Heading → List ℕ → List Event → Type 0
IsCausal heading gone [] = Unit {0}
IsCausal heading gone (event ∷ before) = IsNextEvent heading gone event before × IsCausal heading gone before
