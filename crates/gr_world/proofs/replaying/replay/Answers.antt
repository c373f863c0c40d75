use Rattle.std.proofs.lemmas.Grind.{common_steps}
use Rattle.gr_world.specs.Records.{IsReplayed}
use Rattle.gr_world.proofs.Left.{plain_abiding, left_served, left_follows}
use Rattle.std.proofs.Common.{[], ◌≡◌, ◌∙◌, arith, subst, sym, reverse, take}
use Rattle.gr_script.specs.Scripts.{heading_of}
use Rattle.gr_script.specs.Steps.{departed}
use Rattle.gr_world.specs.Courses.{after, course}
use Rattle.gr_world.specs.Worlds.{CanPlay, IsWorld}
use Rattle.gr_world.proofs.Playable.{copied_line, lines_playable, none_so_far, one_more}
use Rattle.gr_world.proofs.replaying.replay.Goals as goal

pub play-requires-clause-work : goal.play-requires-clause-work
play-requires-clause-work c = (
  course (heading_of c.args.script.now) (reverse (take c.loop-line.line-index c.as_slice-line-items.result.now)),
  c.loop-line.invariant,
)

pub play-requires-clause-stated : goal.play-requires-clause-stated
play-requires-clause-stated c =
    let script = c.args.script.now in
    let heading = heading_of script in
    copied_line (CanPlay heading) script.lines c.as_slice-line-items.result.now c.loop-line.line-index c.line-item.result
    c.in_ok-copy.field-0 (lines_playable heading script.lines script.ruled c.requires) c.as_slice-line-items.ensures c.in_ok-copy.ensures
    c.loop-line-test.true c.line-item.is

pub loop-line-preserved : goal.loop-line-preserved
loop-line-preserved c =
    let heading = heading_of c.args.script.now in
    let line = c.line-item.result in
    let items = c.as_slice-line-items.result.now in
    let i = c.loop-line.line-index in
    let before = course heading (reverse (take i items)) in
    let none = none_so_far items i (subst (λ lines. departed lines ≡ []) (sym c.as_slice-line-items.ensures) c.requires) in
    subst (λ past. IsWorld heading (course heading past) c.play.new.self)
    (sym (one_more items i line c.loop-line-test.true c.line-item.is))
    (subst (λ gone. IsWorld heading (after heading gone line before) c.play.new.self) (sym none)
    (subst (λ one. IsWorld heading (after heading [] one before) c.play.new.self) c.in_ok-copy.ensures
    (c.in_ok-play.ensures before c.loop-line.invariant)))

pub returns : goal.returns
returns c =
    let script = c.args.script.now in
    let heading = heading_of script in
    let left = c.in_ok-finish.field-0 in
    let items = c.as_slice-line-items.result.now in
    let whole : take c.loop-line.line-index items ≡ items = grind (arith, common_steps, c.loop-line-test.false) in
    let all = subst (λ lines. IsReplayed heading lines left) (whole ∙ c.as_slice-line-items.ensures)
    (c.in_ok-finish.ensures _ c.loop-line.invariant) in
    record {
      replayed = all;
      laws = plain_abiding heading script.lines script.ruled c.requires left all;
      served = left_served heading script.lines script.ruled left all;
      in_order = left_follows heading script.lines script.ruled left all;
    }
