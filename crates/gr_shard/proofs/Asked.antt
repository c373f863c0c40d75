-- What a shard keeps stays tied to its history by what a client asks of a query.
use Rattle.std.proofs.Common.{◌≡◌, ◌∙◌, ap, sym, refl, ℕ, List, ◌∷◌}
use Rattle.gr_cq.specs.Entries.{find}
use Rattle.gr_history.specs.declared.identity.Identity.{Identity}
use Rattle.gr_history.specs.declared.query_ask.QueryAsk.{QueryAsk}
use Rattle.gr_history.specs.declared.query_reply.QueryReply.{QueryReply}
use Rattle.gr_history.specs.declared.deed.Deed.{Deed}
use Rattle.gr_history.specs.declared.deed.Deed.TheVariants.{Asked}
use Rattle.gr_history.specs.Queries.{name_of, query_gives}
use Rattle.gr_history.specs.Recipients.{recipients}
use Rattle.gr_stable.proofs.Counting.{heard_next}
use Rattle.gr_shard.specs.declared.asking.Replies.{Replies}
use Rattle.gr_shard.specs.Asking.{twice}
use Rattle.gr_shard.specs.InStep.{rows_of_ask, reply_by, served}
use Rattle.gr_shard.specs.View.{IsKept, Kept}
use Rattle.gr_shard.proofs.Following.{served_in_step, served_reply}
use Rattle.gr_shard.proofs.KeptOn.{kept_on}
use Rattle.gr_shard.proofs.Slots.{stands_unchanged}

-- The reply that is noted, and so the one that is told, is what the history gives,
pub both_given : (id : Identity) (opening : ℕ) (now : Kept) (past : List Deed) (client : ℕ) (ask : QueryAsk) (replies : Replies)
    → IsKept id opening now past
    → replies ≡ twice (reply_by ask (rows_of_ask ask past) (find client (name_of ask) now.queries))
    → (replies.noted ≡ query_gives client ask past) × (replies.told ≡ query_gives client ask past)
both_given id opening now past client ask replies kept is =
    let gives = served_reply client ask past now.queries kept.in_step in
    (ap (λ (r : Replies). r.noted) is ∙ gives, ap (λ (r : Replies). r.told) is ∙ gives)

-- and what is kept stays tied to it.
pub kept_answered : (id : Identity) (opening : ℕ) (now : Kept) (past : List Deed) (client seq : ℕ) (ask : QueryAsk) (reply : QueryReply)
    → IsKept id opening now past → reply ≡ query_gives client ask past
    → IsKept id opening (record now { queries = served client ask now.queries }) (Asked client seq ask reply ∷ past)
unfolding recipients
kept_answered id opening now past client seq ask reply kept is =
    kept_on id opening now (Asked client seq ask reply) past kept refl is kept.of_shard tt
    now.slots (stands_unchanged now.slots (Asked client seq ask reply) past (λ key. refl) kept.stands)
    now.vector kept.noted now.heard (kept.told ∙ sym (heard_next (Asked client seq ask reply) past))
    (served client ask now.queries) (served_in_step client seq ask reply past now.queries kept.in_step is)
