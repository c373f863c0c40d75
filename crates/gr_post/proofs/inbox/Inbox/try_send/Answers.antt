use Rattle.std.proofs.Common.{sym}
use Rattle.gr_post.proofs.Steps.{sends}
use Rattle.gr_post.proofs.inbox.Inbox.try_send.Goals as goal

pub try_push_as-requires-clause-rule : goal.try_push_as-requires-clause-rule
try_push_as-requires-clause-rule c = sends _ _ _ _ c.pass.invariant.1 (sym c.pass.invariant.2)
