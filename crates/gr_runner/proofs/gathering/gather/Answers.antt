use Rattle.std.proofs.Common.{arith}
use Rattle.gr_runner.specs.Gathering.{IsLeftAt}
use Rattle.gr_runner.proofs.Gathered.{all_last, gathered_ill, gathered_news, gathered_none}
use Rattle.gr_runner.proofs.gathering.gather.Goals as goal

pub loop-left-init : goal.loop-left-init
loop-left-init c =
    let none = c.requires.none in
    let room = c.requires.room in
    let ok = c.args.news.now.ok in
    record {
      desks = c.requires.desks;
      its = c.requires.its;
      gathered = gathered_none c.args.lefts.items c.args.desks.now c.args.news.now.items (omega arith);
      room = omega arith;
    }

pub meet_left-requires-clause-its : goal.meet_left-requires-clause-its
meet_left-requires-clause-its c =
    (all_last (IsLeftAt c.args.members.now) c.loop-left.rest.items c.pop.new.self.items c.in-Some.left c.loop-left.invariant.its
    c.in-Some.ensures.items).1

pub loop-left-preserved-in-Some-meet_left : goal.loop-left-preserved-in-Some-meet_left
loop-left-preserved-in-Some-meet_left c =
    let len = c.in-Some.ensures.len in
    let pushed = c.push_reserved.ensures.len in
    let capacity = c.push_reserved.ensures.capacity in
    let room = c.loop-left.invariant.room in
    record {
      desks = c.meet_left.ensures.desks;
      its = (all_last (IsLeftAt c.args.members.now) c.loop-left.rest.items c.pop.new.self.items c.in-Some.left c.loop-left.invariant.its
          c.in-Some.ensures.items).0;
      gathered = gathered_news c.args.desks.now c.args.lefts.items c.loop-left.rest.items c.pop.new.self.items c.in-Some.left
          c.loop-left.desks c.meet_left.new.desks c.loop-left.news.items c.loop-left.well c.push_reserved.new.self.items
          c.in-Some-meet_left.one c.loop-left.invariant.gathered c.in-Some.ensures.items c.meet_left.ensures.more
          c.in-Some-meet_left.ensures.news c.push_reserved.ensures.items;
      room = omega arith;
    }

pub loop-left-preserved : goal.loop-left-preserved
loop-left-preserved c =
    let len = c.in-Some.ensures.len in
    let room = c.loop-left.invariant.room in
    record {
      desks = c.meet_left.ensures.desks;
      its = (all_last (IsLeftAt c.args.members.now) c.loop-left.rest.items c.pop.new.self.items c.in-Some.left c.loop-left.invariant.its
          c.in-Some.ensures.items).0;
      gathered = gathered_ill c.args.desks.now c.args.lefts.items c.loop-left.rest.items c.pop.new.self.items c.in-Some.left
          c.loop-left.desks c.meet_left.new.desks c.loop-left.news.items c.loop-left.well c.loop-left.invariant.gathered
          c.in-Some.ensures.items c.meet_left.ensures.more;
      room = omega arith;
    }
