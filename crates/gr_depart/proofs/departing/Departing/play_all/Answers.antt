use Rattle.std.proofs.Common.{List, subst, arith}
use Rattle.gr_script.specs.declared.line.Line.{Line}
use Rattle.gr_world.specs.Stages.{heading_at}
use Rattle.gr_depart.proofs.Amid.{IsAmid, amid_last, amid_next}
use Rattle.gr_depart.proofs.departing.Departing.play_all.Goals as goal

pub play-requires-clause-work : goal.play-requires-clause-work
play-requires-clause-work c = c.loop-line.invariant.work

pub play-requires-clause-stated : goal.play-requires-clause-stated
play-requires-clause-stated c =
    (subst (λ (rest : List Line). IsAmid (heading_at c.args.stage) rest c.args.lines c.args.self.now c.loop-line.self) c.in-Some.ensures.steps.0
    c.loop-line.invariant).doable.0

pub loop-line-preserved : goal.loop-line-preserved
loop-line-preserved c =
    amid_next (heading_at c.args.stage) c.in-Some.line c.next.new.self.rest.items c.args.lines c.args.self.now c.loop-line.self c.play.new.self
    (subst (λ (rest : List Line). IsAmid (heading_at c.args.stage) rest c.args.lines c.args.self.now c.loop-line.self) c.in-Some.ensures.steps.0
    c.loop-line.invariant) c.in_ok-play.ensures.done c.in_ok-play.ensures.gone

pub returns : goal.returns
returns c =
    let rest = c.loop-line.line-iterator.rest.ok in
    let none = c.in-None.ensures.steps.0 in
    let last = amid_last (heading_at c.args.stage) c.loop-line.line-iterator.rest.items c.args.lines c.args.self.now c.loop-line.self
    (omega (arith, rest, none)) c.loop-line.invariant in
    record { done = last.0; gone = last.1 }
