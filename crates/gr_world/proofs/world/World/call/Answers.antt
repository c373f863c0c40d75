use Rattle.std.proofs.Common.{◌≡◌, ◌∙◌, [], ap, sym, subst, refl, length, Some, None, if◌then◌else◌}
use Rattle.gr_value.specs.Shard.{shard_of}
use Rattle.gr_history.specs.Asks.{key_of}
use Rattle.gr_script.specs.Scripts.{heading_of}
use Rattle.gr_history.specs.declared.record.Answer.TheVariants.{Reply}
use Rattle.gr_shard.specs.Calls.{served}
use Rattle.gr_world.specs.Doings.{Calls}
use Rattle.gr_world.specs.Stages.{heading_at}
use Rattle.gr_world.specs.declared.place.DeedPlace.{DeedPlace}
use Rattle.gr_world.specs.Noted.{Notes}
use Rattle.gr_world.specs.Worlds.{account_left, gives_at, told_also}
use Rattle.gr_world.proofs.Opened.{belongs_too, work_id}
use Rattle.gr_world.proofs.Worlds.{call_plays, key_cell, placed, shard_within, stated_told}
use Rattle.gr_world.proofs.world.World.call.Goals as goal

pub cell-requires : goal.cell-requires
cell-requires c =
    key_cell c.args.stage.script.now c.args.self.now _ _ c.key.result.now c.requires.work c.home-member.ensures.member c.shard-shard.ensures

pub cell_mut-requires : goal.cell_mut-requires
cell_mut-requires c =
    key_cell c.args.stage.script.now c.args.self.now _ _ c.key.result.now c.requires.work c.home-member.ensures.member c.shard-shard.ensures

pub call-requires : goal.call-requires
call-requires c =
    let script = c.args.stage.script.now in
    let heading = heading_of script in
    let member = c.home-member.result in
    let shard = c.shard-shard.result in
    let at = c.shard-shard.ensures ∙ ap (λ k. shard_of k script.shards) c.key.ensures in
    belongs_too (account_left heading [] member shard) c.cell_mut.result.now (Calls c.args.step.client c.args.step.seq c.args.ask)
    (work_id heading c.args.self.now (record { member = member; shard = shard }) c.cell_mut.result.now (record {
      work = c.requires.work;
      member = c.home-member.ensures.member;
      shard = shard_within (key_of c.args.ask) shard script.shards script.ruled.heading.shards.0 at;
    }) c.cell_mut.ensures.shows) (sym at)

pub tell-requires-clause-stated : goal.tell-requires-clause-stated
tell-requires-clause-stated c =
    stated_told (heading_at c.args.stage) c.args.self.now c.args.step.client c.requires.work c.requires.stated

pub returns : goal.returns
returns c =
    let script = c.args.stage.script.now in
    let at = c.shard-shard.ensures ∙ ap (λ k. shard_of k script.shards) c.key.ensures in
    let step = c.args.step in
    let member = c.home-member.result in
    let shard = c.shard-shard.result in
    let old = c.args.self.now in
    let done = gives_at c.cell_mut.result.now c.args.ask in
    let told : c.in_ok-told.told ≡ served done = c.in_ok-told.ensures.told in
    let place : DeedPlace = record { site = record { member = member; shard = shard }; at = c.len-at.result } in
    call_plays (heading_of script) old _ member shard c.len-at.result step.client
    step.seq c.args.ask
    done c.cell_mut.result.now c.call.new.self c.home-member.ensures.member c.requires.stated c.home-member.ensures.home at
    (shard_within (key_of c.args.ask) shard script.shards script.ruled.heading.shards.0 at)
    (record { lent = c.cell_mut.ensures.shows; deed_is = refl; added = c.in_ok-told.ensures.added }) refl
    (c.len-at.ensures ∙ ap (λ deeds. length deeds) c.history.ensures.deeds ∙ ap (λ account. length account.deeds)
    (c.shard.ensures ∙ c.cell.ensures))
    (λ many. subst (λ noted. Notes step.client step.seq noted old.made c.note.new.noted)
    (ap (λ t. if t.made then Some place else None) told ∙ placed place done.made) (c.in_ok-note.ensures many))
    (c.in_ok-tell.ensures ∙ ap (λ t. told_also old.tellings step.client (Reply t.reply)) told)
