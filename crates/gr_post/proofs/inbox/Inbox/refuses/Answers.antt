use Rattle.gr_post.proofs.Steps.{trails}
use Rattle.gr_post.proofs.inbox.Inbox.refuses.Goals as goal

pub is_full_as-full-requires-clause-rule : goal.is_full_as-full-requires-clause-rule
is_full_as-full-requires-clause-rule c = trails _ _ c.pass.invariant.1
