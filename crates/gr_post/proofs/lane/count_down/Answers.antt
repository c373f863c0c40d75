use Rattle.gr_post.proofs.Helds.{counted}
use Rattle.gr_post.proofs.lane.count_down.Goals as goal

pub returns-clause-held : goal.returns-clause-held
returns-clause-held c before one behind is at =
    counted c.args.held.now.items before c.args.place one c.index_mut.result.now c.index.result.now behind c.saturating_sub.result is at
    c.index_mut.ensures.value c.index.ensures c.if-left-eq1.false c.saturating_sub.ensures
