use Rattle.crossbeam_queue.specs.Passes.{view}
use Rattle.gr_post.proofs.Steps.{balances}
use Rattle.gr_post.proofs.Ends.{all_taken}
use Rattle.gr_post.proofs.inbox.Inbox.is_empty.Goals as goal

pub is_empty_as-requires-clause-rule : goal.is_empty_as-requires-clause-rule
is_empty_as-requires-clause-rule c = balances _ _ c.pass.invariant.1

pub returns-clause-empty : goal.returns-clause-empty
returns-clause-empty c is_so =
    let held = c.is_empty_as.ensures.rule is_so in
    all_taken (view c.pass.inside.token) (view c.is_empty_as.new.pass) held.0 c.is_empty_as.ensures.queue.1 held.1 held.2
