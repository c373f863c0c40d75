use Rattle.std.proofs.Common.{◌∙◌, ap, subst, sym, reverse, Some, None}
use Rattle.gr_world.specs.Courses.{does, for_each, hears_of}
use Rattle.gr_world.specs.Doings.{Hears}
use Rattle.gr_world.specs.Named.{numbered, reports}
use Rattle.gr_world.specs.Stages.{heading_at}
use Rattle.gr_world.specs.Worlds.{Plays}
use Rattle.gr_world.proofs.Worlds.{for_each_plays, hear_plays, work_cell, work_on}
use Rattle.gr_world.proofs.world.World.hear.Goals as goal
use Rattle.gr_world.proofs.world.World.hear.Goals.{in-Some+in_ok-report+in_ok-does, in_default}

pub cell-requires : goal.cell-requires
cell-requires c =
    let heading = heading_at c.args.stage in
    work_cell heading c.loop-shard.self (record { member = c.args.of; shard = c.loop-shard.shard }) (record {
      work = work_on heading (for_each c.loop-shard.shard (hears_of heading c.args.by c.args.of c.args.number)) c.args.self.now
          c.loop-shard.self c.requires.work c.loop-shard.invariant;
      member = c.requires.of;
      shard = c.loop-shard-test.true;
    })

pub does-requires-clause-site : goal.does-requires-clause-site
does-requires-clause-site c =
    let heading = heading_at c.args.stage in
    record {
      work = work_on heading (for_each c.loop-shard.shard (hears_of heading c.args.by c.args.of c.args.number)) c.args.self.now
          c.loop-shard.self c.requires.work c.loop-shard.invariant;
      member = c.requires.by;
      shard = c.loop-shard-test.true;
    }

pub loop-shard-preserved : goal.loop-shard-preserved
loop-shard-preserved c =
    let heading = heading_at c.args.stage in
    let now = c.loop-shard.self in
    let shard = c.loop-shard.shard in
    let act = hears_of heading c.args.by c.args.of c.args.number in
    let cell = ap (λ account. numbered c.args.number (reports (reverse account.deeds))) c.cell.ensures in
    let step : Plays heading (act shard) now c.match-reported.self = elim c.match-reported.branch [
      | in-Some+in_ok-report+in_ok-does w ↦ subst (Plays heading (act shard) now) (sym w.self-is)
          (hear_plays heading now _ c.args.by c.args.of c.args.number shard (Some w.in-Some.report.now) c.requires.of
          c.loop-shard-test.true (w.in-Some.ensures ∙ cell)
          (subst (λ report. Plays heading (does heading c.args.by shard (Hears report)) now w.does.new.self) w.in_ok-report.ensures
          w.in_ok-does.ensures))
      | in_default w ↦ subst (Plays heading (act shard) now) (sym w.self-is)
          (hear_plays heading now now c.args.by c.args.of c.args.number shard None c.requires.of c.loop-shard-test.true
          (w.in_default.ensures ∙ cell) (λ events is. is))
    ] in
    for_each_plays heading act shard c.args.self.now now c.match-reported.self c.loop-shard.invariant step
