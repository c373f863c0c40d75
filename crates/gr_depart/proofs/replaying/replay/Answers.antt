use Rattle.std.proofs.lemmas.Grind.{common_steps}
use Rattle.std.proofs.Common.{◌≡◌, ◌∙◌, ap, arith, subst, sym, reverse, take}
use Rattle.std.specs.List.{cons_option}
use Rattle.gr_script.specs.Scripts.{heading_of}
use Rattle.gr_script.specs.Steps.{departed, departs}
use Rattle.gr_world.specs.Courses.{after, course}
use Rattle.gr_world.specs.Records.{IsReplayed}
use Rattle.gr_world.specs.Worlds.{IsWorld}
use Rattle.gr_world.proofs.Playable.{copied_line, one_more}
use Rattle.gr_depart.specs.Lines.{CanDo}
use Rattle.gr_depart.proofs.Doable.{lines_doable}
use Rattle.gr_depart.proofs.replaying.replay.Goals as goal

pub play-requires-clause-work : goal.play-requires-clause-work
play-requires-clause-work c = (
  course (heading_of c.args.script.now) (reverse (take c.loop-line.line-index c.as_slice-line-items.result.now)),
  c.loop-line.invariant.0,
)

pub play-requires-clause-stated : goal.play-requires-clause-stated
play-requires-clause-stated c =
    let script = c.args.script.now in
    let heading = heading_of script in
    copied_line (CanDo heading) script.lines c.as_slice-line-items.result.now c.loop-line.line-index c.line-item.result
    c.in_ok-copy.field-0 (lines_doable heading script.lines script.ruled) c.as_slice-line-items.ensures c.in_ok-copy.ensures
    c.loop-line-test.true c.line-item.is

pub loop-line-preserved : goal.loop-line-preserved
loop-line-preserved c =
    let heading = heading_of c.args.script.now in
    let line = c.line-item.result in
    let items = c.as_slice-line-items.result.now in
    let i = c.loop-line.line-index in
    let before = course heading (reverse (take i items)) in
    let old = c.loop-line.departing in
    let new = c.play.new.self in
    let more = one_more items i line c.loop-line-test.true c.line-item.is in
    let done = c.in_ok-play.ensures.done before c.loop-line.invariant.0 in (
      subst (λ past. IsWorld heading (course heading past) new.world) (sym more)
          (subst (λ gone. IsWorld heading (after heading gone line before) new.world) c.loop-line.invariant.1
          (subst (λ one. IsWorld heading (after heading old.gone.items one before) new.world) c.in_ok-copy.ensures done)),
      c.in_ok-play.ensures.gone ∙ ap (λ one. cons_option (departs one) old.gone.items) c.in_ok-copy.ensures
          ∙ ap (cons_option (departs line)) c.loop-line.invariant.1 ∙ ap departed (sym more),
    )

pub returns : goal.returns
returns c =
    let script = c.args.script.now in
    let heading = heading_of script in
    let left = c.in_ok-finish.field-0 in
    let laws = c.records_keep_the_laws.ensures in
    let items = c.as_slice-line-items.result.now in
    let whole : take c.loop-line.line-index items ≡ items = grind (arith, common_steps, c.loop-line-test.false) in
    let all = subst (λ lines. IsReplayed heading lines left) (whole ∙ c.as_slice-line-items.ensures)
    (c.in_ok-finish.ensures _ c.loop-line.invariant.0) in
    record {
      replayed = all;
      laws = laws.abiding heading script.lines script.ruled left all;
      served = laws.served heading script.lines script.ruled left all;
      in_order = laws.in_order heading script.lines script.ruled left all;
      shut = c.laws_of_courses.ensures.shut heading script.lines script.ruled;
    }
