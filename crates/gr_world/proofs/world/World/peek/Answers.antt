use Rattle.std.proofs.Common.{◌∙◌, ap, length, refl, reverse}
use Rattle.gr_history.specs.declared.record.Answer.TheVariants as answer
use Rattle.gr_history.specs.Standing.{present}
use Rattle.gr_script.specs.Scripts.{heading_of}
use Rattle.gr_world.specs.Stages.{heading_at}
use Rattle.gr_world.proofs.Worlds.{key_cell, peek_plays, shard_within, stated_told}
use Rattle.gr_world.proofs.world.World.peek.Goals as goal

pub cell-requires : goal.cell-requires
cell-requires c =
    key_cell c.args.stage.script.now c.args.self.now _ _ c.args.key.now c.requires.work c.home-member.ensures.member c.shard-shard.ensures

pub tell-requires-clause-stated : goal.tell-requires-clause-stated
tell-requires-clause-stated c =
    stated_told (heading_at c.args.stage) c.args.self.now c.args.client c.requires.work c.requires.stated

pub returns : goal.returns
returns c seq =
    let script = c.args.stage.script.now in
    let shard = c.shard-shard.result in
    peek_plays (heading_of script) c.args.self.now _ c.home-member.result shard c.args.client seq c.args.key.now
    c.in_ok-answer.answer c.home-member.ensures.member c.requires.stated c.home-member.ensures.home c.shard-shard.ensures
    (shard_within c.args.key.now shard script.shards script.ruled.heading.shards.0 c.shard-shard.ensures)
    (c.in_ok-answer.ensures
    ∙ ap (λ account. answer.Peeked (present c.args.key.now (reverse account.deeds)) (length account.deeds))
    (c.shard.ensures ∙ c.cell.ensures)) refl
    c.in_ok-tell.ensures refl
