use Rattle.gr_top.proofs.Wanted.{played}
use Rattle.gr_top.proofs.asking.replayed.Goals as goal

pub returns : goal.returns
returns c text read =
    let told = c.replay.ensures in
    let expanded = c.in_ok-expanded.ensures in
    played text c.args.script c.in_ok-expanded.expanded c.replay.result read expanded.heading expanded.lines told.replayed told.laws
    told.served told.in_order told.shut
