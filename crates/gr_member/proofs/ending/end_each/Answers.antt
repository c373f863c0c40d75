use Rattle.std.proofs.Common.{◌≡◌, length, sym, subst, arith}
use Rattle.gr_member.specs.Left.{AreEndsOf}
use Rattle.gr_member.proofs.Leaving.{ended_all, ended_more, all_last, empty_of}
use Rattle.gr_member.proofs.Passing.{theirs_last}
use Rattle.gr_member.proofs.ending.end_each.Goals as goal

pub returns : goal.returns
returns g c =
    let empty : length c.loop-lock.shards.items ≡ 0 =
    omega (arith, c.in_default-pop.ensures.cases.0, c.loop-lock.locks.ok, c.loop-lock.invariant.theirs.many) in
    subst (AreEndsOf c.args.shards.items) (sym c.reverse.ensures)
    (ended_all c.args.shards.items c.loop-lock.shards.items c.loop-lock.records c.loop-lock.invariant.ended
    (empty_of c.loop-lock.shards.items empty))

pub loop-lock-preserved : goal.loop-lock-preserved
loop-lock-preserved g c = record {
  theirs = (theirs_last c.loop-lock.locks.items c.pop.new.self.items c.in-Some.lock c.loop-lock.shards.items c.pop-in-Some.new.self.items
      c.in-Some-pop.pass c.loop-lock.invariant.theirs c.in-Some.ensures.items c.in-Some-pop.ensures.items).0;
  all = (all_last c.loop-lock.shards.items c.pop-in-Some.new.self.items c.in-Some-pop.pass c.loop-lock.invariant.all
      c.in-Some-pop.ensures.items).0;
  ended = ended_more c.args.shards.items c.loop-lock.shards.items c.pop-in-Some.new.self.items c.in-Some-pop.pass c.loop-lock.records
      c.end_into.new.records c.loop-lock.invariant.ended c.in-Some-pop.ensures.items c.in-Ok-end_into.ensures;
}

pub stop_each-requires-in_default-end_into : goal.stop_each-requires-in_default-end_into
stop_each-requires-in_default-end_into g c =
    (theirs_last c.loop-lock.locks.items c.pop.new.self.items c.in-Some.lock c.loop-lock.shards.items c.pop-in-Some.new.self.items
    c.in-Some-pop.pass c.loop-lock.invariant.theirs c.in-Some.ensures.items c.in-Some-pop.ensures.items).0
