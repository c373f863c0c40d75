use Rattle.std.proofs.Common.{◌≡◌, length, sym, subst, arith}
use Rattle.gr_member.specs.Passes.{HaveAll}
use Rattle.gr_member.proofs.Leaving.{empty_of}
use Rattle.gr_runner.specs.Ending.{AreEnded}
use Rattle.gr_runner.proofs.Closing.{ended_all, ended_more, ended_none, its_last}
use Rattle.gr_runner.proofs.Gathered.{all_last}
use Rattle.gr_runner.proofs.ending.end_all.Goals as goal

pub loop-member-init : goal.loop-member-init
loop-member-init g c = record {
  its = c.requires.its;
  all = c.requires.all;
  ended = ended_none c.args.members.items c.args.desks.items c.in-Ok.records c.in-Ok.ensures;
}

pub end_into-requires-clause-its : goal.end_into-requires-clause-its
end_into-requires-clause-its g c =
    (its_last c.loop-member.members.items c.pop.new.self.items c.in-Some.member c.loop-member.desks.items c.pop-in-Some.new.self.items
    c.in-Some-pop.pass c.loop-member.invariant.its c.in-Some.ensures.items c.in-Some-pop.ensures.items).1

pub end_into-requires-clause-all : goal.end_into-requires-clause-all
end_into-requires-clause-all g c =
    (all_last HaveAll c.loop-member.desks.items c.pop-in-Some.new.self.items c.in-Some-pop.pass c.loop-member.invariant.all
    c.in-Some-pop.ensures.items).1

pub loop-member-preserved : goal.loop-member-preserved
loop-member-preserved g c = record {
  its = (its_last c.loop-member.members.items c.pop.new.self.items c.in-Some.member c.loop-member.desks.items
      c.pop-in-Some.new.self.items c.in-Some-pop.pass c.loop-member.invariant.its c.in-Some.ensures.items
      c.in-Some-pop.ensures.items).0;
  all = (all_last HaveAll c.loop-member.desks.items c.pop-in-Some.new.self.items c.in-Some-pop.pass c.loop-member.invariant.all
      c.in-Some-pop.ensures.items).0;
  ended = ended_more c.args.members.items c.loop-member.members.items c.pop.new.self.items c.in-Some.member c.args.desks.items
      c.loop-member.desks.items c.pop-in-Some.new.self.items c.in-Some-pop.pass c.loop-member.records c.end_into.new.records
      c.loop-member.invariant.ended c.in-Some.ensures.items c.in-Some-pop.ensures.items c.in-Ok-end_into.ensures;
}

pub stop_members-requires-in_default-end_into : goal.stop_members-requires-in_default-end_into
stop_members-requires-in_default-end_into g c =
    (its_last c.loop-member.members.items c.pop.new.self.items c.in-Some.member c.loop-member.desks.items c.pop-in-Some.new.self.items
    c.in-Some-pop.pass c.loop-member.invariant.its c.in-Some.ensures.items c.in-Some-pop.ensures.items).0

pub returns : goal.returns
returns g c =
    let none = c.in_default-pop.ensures.cases.0 in
    let ok = c.loop-member.members.ok in
    let many = c.loop-member.invariant.its.many in
    let empty : length c.loop-member.members.items ≡ 0 = omega arith in
    let alone : length c.loop-member.desks.items ≡ 0 = omega arith in
    subst (AreEnded c.args.members.items c.args.desks.items) (sym c.reverse.ensures)
    (ended_all c.args.members.items c.loop-member.members.items c.args.desks.items c.loop-member.desks.items c.loop-member.records
    c.loop-member.invariant.ended (empty_of c.loop-member.members.items empty) (empty_of c.loop-member.desks.items alone))
