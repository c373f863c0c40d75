use Rattle.gr_runner.proofs.Made.{each_last}
use Rattle.gr_runner.proofs.undoing.undo.Goals as goal

pub undo_one-requires : goal.undo_one-requires
undo_one-requires g c =
    (each_last c.loop-member.members.items c.pop.new.self.items c.loop-member.passes.items c.pop-in-Some.new.self.items
    c.in-Some.member c.in-Some-pop.dealt c.loop-member.invariant c.in-Some.ensures.items c.in-Some-pop.ensures.items).1

pub loop-member-preserved : goal.loop-member-preserved
loop-member-preserved g c =
    (each_last c.loop-member.members.items c.pop.new.self.items c.loop-member.passes.items c.pop-in-Some.new.self.items
    c.in-Some.member c.in-Some-pop.dealt c.loop-member.invariant c.in-Some.ensures.items c.in-Some-pop.ensures.items).0
