use Rattle.std.proofs.Common.{sym, subst, ◌≡◌}
use Rattle.std.specs.List.{AllByRecursion}
use Rattle.gr_value.specs.Shard.{shard_of}
use Rattle.gr_shard.specs.Merges.{IsGiftFor}
use Rattle.gr_world.specs.Courses.{identity_at}
use Rattle.gr_world.specs.Stages.{heading_at}
use Rattle.gr_world.proofs.world.World.take_gift.Goals as goal

pub does-requires-clause-here : goal.does-requires-clause-here
does-requires-clause-here c =
    subst (IsGiftFor (identity_at (heading_at c.args.stage) c.args.site.member c.args.site.shard)) c.in-Image.is c.requires.fits

pub take_all-requires-clause-here : goal.take_all-requires-clause-here
take_all-requires-clause-here c =
    let heading = heading_at c.args.stage in
    let fits = subst (IsGiftFor (identity_at heading c.args.site.member c.args.site.shard)) c.in-Own.is c.requires.fits in
    subst (AllByRecursion (λ change. shard_of change.key heading.shards ≡ c.args.site.shard)) (sym c.as_slice.ensures) fits
