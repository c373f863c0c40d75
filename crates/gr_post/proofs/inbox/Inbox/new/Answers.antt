use Rattle.std.proofs.Common.{ap}
use Rattle.gr_post.specs.declared.view.View.{View}
use Rattle.gr_post.proofs.Steps.{begins, forks}
use Rattle.gr_post.proofs.inbox.Inbox.new.Goals as goal

pub ruled-requires-clause-rule : goal.ruled-requires-clause-rule
ruled-requires-clause-rule c = begins

pub another-requires-clause-rule : goal.another-requires-clause-rule
another-requires-clause-rule c = forks _ _ (ap (λ (v : View). v.takes) c.loop-number.invariant.1)
