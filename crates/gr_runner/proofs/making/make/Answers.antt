use Rattle.std.proofs.Common.{ℕ, ◌+◌, ◌==◌, not, subst, arith}
use Rattle.gr_member.specs.Fresh.{AreShown}
use Rattle.gr_script.specs.Scripts.{heading_of}
use Rattle.gr_runner.specs.Makings.{passes_at, shows}
use Rattle.gr_runner.proofs.Made.{each_at, made_more, shown_more}
use Rattle.gr_runner.proofs.making.make.Goals as goal

pub undo-requires : goal.undo-requires
undo-requires g c =
    each_at (heading_of c.args.script.now) c.loop-k.k c.loop-k.members.items c.loop-k.passes.items c.loop-k.invariant.made

pub loop-k-preserved : goal.loop-k-preserved
loop-k-preserved g c =
    let held = c.loop-k.invariant.held in
    let room = c.loop-k.invariant.room in
    let same = c.push_reserved.ensures.capacity in
    let also = c.push_reserved-in-loop-k.ensures.capacity in
    let shown = subst (λ (n : ℕ). AreShown (not (n == 0)) (passes_at (heading_of c.args.script.now) (c.loop-k.k + 1)) c.in-Ok-make_one.made.1)
    c.peeks_of-shown.ensures c.in-Ok-make_one.ensures.shown in
    record {
      held = omega arith;
      room = omega arith;
      made = made_more (heading_of c.args.script.now) c.loop-k.k c.loop-k.members.items c.push_reserved.new.self.items
          c.loop-k.passes.items c.push_reserved-in-loop-k.new.self.items c.in-Ok-make_one.made.0 c.in-Ok-make_one.made.1
          c.loop-k.invariant.made c.in-Ok-make_one.ensures.made c.push_reserved.ensures.items c.push_reserved-in-loop-k.ensures.items;
      shown = shown_more (heading_of c.args.script.now) (shows c.args.script.now.lines) c.loop-k.k c.loop-k.passes.items c.push_reserved-in-loop-k.new.self.items
          c.in-Ok-make_one.made.1 c.loop-k.invariant.made.dealt c.loop-k.invariant.shown shown
          c.push_reserved-in-loop-k.ensures.items;
    }
