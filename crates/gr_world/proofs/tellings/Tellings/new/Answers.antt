use Rattle.std.proofs.Common.{◌∙◌, []}
use Rattle.gr_world.proofs.Lists.{numbers_more}
use Rattle.gr_world.proofs.tellings.Tellings.new.Goals as goal

pub loop-client-preserved : goal.loop-client-preserved
loop-client-preserved c =
    c.in_ok-push.ensures.items
    ∙ numbers_more 1 c.loop-client._client (λ _. []) _ _ c.loop-client.invariant c.in_ok-new.ensures
