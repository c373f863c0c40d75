-- What is seen and done at one shard of a world.
use Rattle.std.proofs.Common.{◌≡◌, ◌∙◌, ap, sym, subst, ℕ, ◌<◌, ◌≤◌, List}
use Rattle.gr_value.specs.Shard.{shard_of}
use Rattle.gr_history.specs.declared.identity.Identity.{Identity}
use Rattle.gr_history.specs.Asks.{key_of}
use Rattle.gr_shard.specs.Merges.{IsImageFor}
use Rattle.gr_shard.specs.View.{Account}
use Rattle.gr_script.specs.Rules.{Heading, IsMember}
use Rattle.gr_world.specs.declared.site.Site.{Site}
use Rattle.gr_world.specs.declared.world.World.{World}
use Rattle.gr_world.specs.Doings.{Doing, Calls, Takes, Gives, Merges, Reports, Hears, Sweeps, Asks}
use Rattle.gr_world.specs.Events.{Event}
use Rattle.gr_world.specs.Tasks.{BelongsTo}
use Rattle.gr_world.specs.Courses.{identity_at}
use Rattle.gr_world.specs.Stages.{HasSite}
use Rattle.gr_world.specs.Worlds.{IsWorld, account_at, account_left}
use Rattle.gr_world.proofs.Worlds.{cell_left}

-- What belongs to a shard is told by whose it is.
pub belongs_too : (one other : Account) (doing : Doing) → other.id ≡ one.id → BelongsTo one doing → BelongsTo other doing
belongs_too one other (Calls client number ask) same is =
    subst (λ (id : Identity). shard_of (key_of ask) id.shards ≡ id.shard) (sym same) is
belongs_too one other (Takes change) same is = subst (λ (id : Identity). shard_of change.key id.shards ≡ id.shard) (sym same) is
belongs_too one other (Gives to what) same is = (is.0, subst (λ (id : Identity). to ≤ id.members) (sym same) is.1)
belongs_too one other (Merges image) same is = subst (λ (id : Identity). IsImageFor id image) (sym same) is
belongs_too one other Reports same is = tt
belongs_too one other (Hears report) same is = tt
belongs_too one other (Sweeps moment) same is = tt
belongs_too one other (Asks client number ask) same is = tt

-- a shard that is seen is the course's
pub seen_left : (heading : Heading) (world : World) (member shard : ℕ) (seen : Account) → IsMember heading member → shard < heading.shards
    → seen ≡ account_at world.grid member shard → (events : List Event) → IsWorld heading events world
    → seen ≡ account_left heading events member shard
seen_left heading world member shard seen is within at events left =
    at ∙ ap (λ grid. account_at grid member shard) left.grid_is ∙ cell_left heading events member shard is within

-- and so is whose it is
pub work_id : (heading : Heading) (world : World) (site : Site) (seen : Account) → HasSite heading world site
    → seen ≡ account_at world.grid site.member site.shard → seen.id ≡ identity_at heading site.member site.shard
work_id heading world site seen has at =
    ap (λ account. account.id) (seen_left heading world site.member site.shard seen has.member has.shard at has.work.0 has.work.1)
