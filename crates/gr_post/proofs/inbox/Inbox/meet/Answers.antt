use Rattle.std.proofs.Common.{ap, ◌∙◌, subst}
use Rattle.crossbeam_queue.specs.Passes.{view}
use Rattle.gr_post.specs.declared.view.View.{View}
use Rattle.gr_post.specs.Mails.{of}
use Rattle.gr_post.specs.Passes.{Sending}
use Rattle.gr_post.proofs.Steps.{merges, balances}
use Rattle.gr_post.proofs.Ends.{met_last, in_order, closes}
use Rattle.gr_post.proofs.inbox.Inbox.meet.Goals as goal
use Rattle.gr_value.specs.Lists.{StartsWith}

pub absorb-requires-clause-rule : goal.absorb-requires-clause-rule
absorb-requires-clause-rule c = merges _ _ _ _ c.into.invariant.1 c.from.invariant.1

pub learn_as-requires-clause-rule : goal.learn_as-requires-clause-rule
learn_as-requires-clause-rule c = balances _ _ (ap (λ (v : View). v.takes) c.absorb.ensures.rule ∙ c.into.invariant.1)

pub returns-clause-order : goal.returns-clause-order
returns-clause-order c =
    in_order (view c.absorb.new.pass) (view c.learn_as.new.pass) c.learn_as.ensures.rule.0 c.learn_as.ensures.queue.1
    c.learn_as.ensures.rule.1

pub returns-clause-first : goal.returns-clause-first
returns-clause-first c =
    subst (λ (s : Sending). StartsWith s.sent (of s.number (view c.learn_as.new.pass).taken)) c.from.view_is
    (met_last (view c.into.inside.token) (view c.from.inside.token) c.from.inside.number (view c.absorb.new.pass) (view c.learn_as.new.pass)
    c.from.invariant.2 c.absorb.ensures.rule c.learn_as.ensures.queue.1 c.learn_as.ensures.rule.0 c.learn_as.ensures.rule.1)

pub returns-clause-whole : goal.returns-clause-whole
returns-clause-whole c = closes _ _ (returns-clause-first c)
