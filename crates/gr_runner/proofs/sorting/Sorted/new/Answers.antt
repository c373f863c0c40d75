use Rattle.gr_runner.proofs.Apart.{sorted_more}
use Rattle.gr_runner.proofs.sorting.Sorted.new.Goals as goal

pub loop-one-preserved : goal.loop-one-preserved
loop-one-preserved c =
    sorted_more c.args.news.items c.loop-one.left.items c.pop.new.self.items c.in-Some.one c.loop-one.sorted c.add.new.self
    c.loop-one.invariant c.in-Some.ensures.items c.in_ok-add.ensures
