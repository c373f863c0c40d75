use Rattle.gr_post.proofs.Steps.{takes}
use Rattle.gr_post.proofs.inbox.Inbox.try_take.Goals as goal

pub try_pop_as-requires-clause-rule : goal.try_pop_as-requires-clause-rule
try_pop_as-requires-clause-rule c = takes _ _ c.pass.invariant.1
