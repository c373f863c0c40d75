-- The heading of the script that is played, where it is played, and what is done by it.
use Rattle.std.specs.Prelude.{◌<◌, List}
use Rattle.gr_script.specs.Rules.{Heading, IsMember}
use Rattle.gr_script.specs.Scripts.{heading_of}
use Rattle.gr_world.specs.Events.{Event}
use Rattle.gr_world.specs.Worlds.{IsAtWork, Plays}
use Rattle.gr_world.specs.declared.site.Site.{Site}
use Rattle.gr_world.specs.declared.stage.Stage.{Stage}
use Rattle.gr_world.specs.declared.world.World.{World}

abbrev pub heading_at : Stage → Heading
heading_at stage = heading_of stage.script.now

-- The world is at work, and this is a shard of one of its members.
pub record HasSite (heading : Heading) (world : World) (site : Site) : Type 0 where
  pub work : IsAtWork heading world
  pub member : IsMember heading site.member
  pub shard : site.shard < heading.shards

-- What is done by this heading to each course that left the old world was done to it.
abbrev pub PlaysAt : Stage → (Heading → List Event → List Event) → World → World → Type 0
PlaysAt stage act old new = Plays (heading_at stage) (act (heading_at stage)) old new
