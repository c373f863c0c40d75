use Rattle.std.proofs.Common.{◌≡◌, ◌+◌, arith, refl, subst, sym}
use Rattle.gr_world.specs.Courses.{asks_at_each}
use Rattle.gr_world.specs.Stages.{heading_at}
use Rattle.gr_world.specs.Worlds.{AreAsked, with_account}
use Rattle.gr_world.specs.declared.world.World.{World}
use Rattle.gr_world.proofs.Asked.{asked_next, asked_none, query_plays}
use Rattle.gr_world.proofs.Worlds.{work_cell, work_clients, work_on}
use Rattle.gr_world.proofs.world.World.query.Goals as goal

pub cell_mut-requires : goal.cell_mut-requires
cell_mut-requires c =
    let heading = heading_at c.args.stage in
    let step = c.args.step in
    work_cell heading c.loop-shard.self (record { member = c.home-member.result; shard = c.loop-shard.shard }) (record {
      work = work_on heading (asks_at_each heading step.client step.seq c.args.ask.now c.loop-shard.shard) c.args.self.now
          c.loop-shard.self c.requires.work c.loop-shard.invariant.plays;
      member = c.home-member.ensures.member;
      shard = c.loop-shard-test.true;
    })

pub loop-shard-init : goal.loop-shard-init
loop-shard-init c =
    let step = c.args.step in
    asked_none (heading_at c.args.stage) step.client step.seq c.args.ask.now _ c.args.self.now c.in_ok-replies.ensures

pub loop-shard-preserved : goal.loop-shard-preserved
loop-shard-preserved c =
    let heading = heading_at c.args.stage in
    let step = c.args.step in
    let first = c.args.self.now in
    let now = c.loop-shard.self in
    let next : World = record now { grid = with_account now.grid c.home-member.result c.loop-shard.shard c.query.new.self } in
    subst
    (λ replies. AreAsked heading step.client step.seq c.args.ask.now (c.loop-shard.shard + 1) replies first next)
    (sym c.in_ok-push.ensures.ok)
    (asked_next heading step.client step.seq c.args.ask.now c.loop-shard.shard c.loop-shard.replies _ first now c.home-member.result
    c.cell_mut.result.now c.query.new.self c.home-member.ensures.member c.loop-shard-test.true c.home-member.ensures.home c.loop-shard.invariant
    (record { lent = c.cell_mut.ensures.shows; deed_is = c.in_ok-reply.ensures.reply; added = c.in_ok-reply.ensures.added }))

pub tell-requires-clause-stated : goal.tell-requires-clause-stated
tell-requires-clause-stated c =
    let heading = heading_at c.args.stage in
    let long = work_clients heading c.loop-shard.self
    (work_on heading (asks_at_each heading c.args.step.client c.args.step.seq c.args.ask.now c.loop-shard.shard) c.args.self.now
    c.loop-shard.self c.requires.work c.loop-shard.invariant.plays) in
    omega (arith, long, c.requires.stated.1)

pub returns : goal.returns
returns c =
    let heading = heading_at c.args.stage in
    let step = c.args.step in
    let whole : c.loop-shard.shard ≡ c.args.stage.script.now.shards =
    omega (arith, c.loop-shard-test.false, c.loop-shard.auto.shard-end) in
    let asked = subst (λ n. AreAsked heading step.client step.seq c.args.ask.now n c.loop-shard.replies c.args.self.now c.loop-shard.self)
    whole c.loop-shard.invariant in
    query_plays heading c.args.self.now c.loop-shard.self _ step.client step.seq c.args.ask.now c.loop-shard.replies c.requires.stated
    asked refl c.in_ok-tell.ensures refl
