use Rattle.gr_member.specs.Plans.{identity_of}
use Rattle.gr_member.specs.Seats.{nowhere}
use Rattle.gr_member.proofs.Acting.{acts_given}
use Rattle.gr_member.proofs.Passing.{lock_at}
use Rattle.gr_member.proofs.member.Member.give.Goals as goal

pub gift_in-requires : goal.gift_in-requires
gift_in-requires g c = let a = (c.in_ok-came.ensures.done.turned nowhere).gives.0 in (a.0, a.1)

pub returns-clause-done : goal.returns-clause-done
returns-clause-done g c =
    let a = c.in_ok-came.ensures.done in
    record {
      after = a.after;
      there = a.there;
      now = a.now;
      turned = λ s. acts_given _ a.after c.args.to c.args.what c.in_ok-came.came c.gift_in.result
          (identity_of c.args.self.now.plan c.args.shard) c.args.self.now.plan.floor (a.turned s) c.gift_in.ensures
          (c.requires.pass.each c.args.shard (lock_at s) s a.there).based;
    }
