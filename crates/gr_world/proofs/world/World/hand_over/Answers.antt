use Rattle.std.proofs.Common.{ℕ, [], subst, refl}
use Rattle.gr_shard.specs.Merges.{IsGiftFor}
use Rattle.gr_script.specs.Rules.{Heading, IsMember}
use Rattle.gr_world.specs.declared.site.Site.{Site}
use Rattle.gr_world.specs.declared.world.World.{World}
use Rattle.gr_world.specs.Courses.{does}
use Rattle.gr_world.specs.Doings.{Gives}
use Rattle.gr_world.specs.Stages.{HasSite, heading_at}
use Rattle.gr_world.specs.Tasks.{IsGiven}
use Rattle.gr_world.specs.Worlds.{account_left}
use Rattle.gr_world.proofs.Handing.{fits_too, give_plays, handed_over}
use Rattle.gr_world.proofs.Opened.{belongs_too, work_id}
use Rattle.gr_world.proofs.Worlds.{work_cell, work_on}
use Rattle.gr_world.proofs.world.World.hand_over.Goals as goal

-- the giver's shard of the same number
abbrev at_giver : Site → ℕ → Site
at_giver site giver = record { member = giver; shard = site.shard }

has_giver : (heading : Heading) (world : World) (site : Site) (giver : ℕ) → HasSite heading world site → IsMember heading giver
    → HasSite heading world (at_giver site giver)
has_giver heading world site giver has is = record { work = has.work; member = is; shard = has.shard }

pub cell_mut-requires : goal.cell_mut-requires
cell_mut-requires c =
    let heading = heading_at c.args.stage in
    work_cell heading c.args.self.now (at_giver c.args.site c.args.giver)
    (has_giver heading c.args.self.now c.args.site c.args.giver c.requires.site c.requires.giver)

pub give-requires : goal.give-requires
give-requires c =
    let heading = heading_at c.args.stage in
    belongs_too (account_left heading [] c.args.giver c.args.site.shard) c.cell_mut.result.now (Gives c.args.site.member c.args.what)
    (work_id heading c.args.self.now (at_giver c.args.site c.args.giver) c.cell_mut.result.now
    (has_giver heading c.args.self.now c.args.site c.args.giver c.requires.site c.requires.giver) c.cell_mut.ensures.shows)
    c.requires.site.member

pub take_gift-requires-clause-site : goal.take_gift-requires-clause-site
take_gift-requires-clause-site c =
    let heading = heading_at c.args.stage in
    let giver = c.args.giver in
    let site = c.args.site in
    record {
      work = work_on heading (does heading giver site.shard (Gives site.member c.args.what)) c.args.self.now _ c.requires.site.work
          (give_plays heading c.args.self.now giver site.shard site.member c.args.what _ c.cell_mut.result.now c.give.new.self
          c.requires.giver c.requires.site.shard
          (record { lent = c.cell_mut.ensures.shows; deed_is = refl; added = c.in_ok-gift.ensures.added }));
      member = c.requires.site.member;
      shard = c.requires.site.shard;
    }

pub take_gift-requires-clause-fits : goal.take_gift-requires-clause-fits
take_gift-requires-clause-fits c =
    let heading = heading_at c.args.stage in
    let id = work_id heading c.args.self.now (at_giver c.args.site c.args.giver) c.cell_mut.result.now
    (has_giver heading c.args.self.now c.args.site c.args.giver c.requires.site c.requires.giver) c.cell_mut.ensures.shows in
    fits_too heading c.args.giver c.args.site.member c.args.site.shard c.in_ok-gift.gift
    (subst (λ d. IsGiftFor d c.in_ok-gift.gift) id c.in_ok-gift.ensures.given.1)

pub returns : goal.returns
returns c =
    let heading = heading_at c.args.stage in
    let giver = c.args.giver in
    let site = c.args.site in
    handed_over heading c.args.self.now _ _ site.member site.shard giver c.args.what c.in_ok-gift.gift c.requires.giver
    c.requires.site.shard
    (subst (λ account. IsGiven account c.args.what c.in_ok-gift.gift) c.cell_mut.ensures.shows c.in_ok-gift.ensures.given)
    (give_plays heading c.args.self.now giver site.shard site.member c.args.what _ c.cell_mut.result.now c.give.new.self c.requires.giver
    c.requires.site.shard (record { lent = c.cell_mut.ensures.shows; deed_is = refl; added = c.in_ok-gift.ensures.added }))
    c.in_ok-take_gift.ensures
