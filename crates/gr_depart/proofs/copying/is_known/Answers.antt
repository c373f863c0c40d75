use Rattle.std.proofs.Common.{◌∙◌, ap, ℕ, reverse}
use Rattle.gr_law.proofs.Lists.{known_ids}
use Rattle.gr_vector.specs.Ids.{has_id}
use Rattle.gr_history.specs.Ids.{id_of}
use Rattle.gr_depart.proofs.copying.is_known.Goals as goal

pub returns : goal.returns
returns c =
    let past = reverse c.args.shard.now.deeds in
    let change = c.args.change.now in
    let known = c.vector.result.now.ids in
    c.holds.ensures
    ∙ ap (λ (m : ℕ). has_id (record { member = m; rv = c.rv.result }) known) c.member.ensures.member
    ∙ ap (λ (n : ℕ). has_id (record { member = change.stamp.member; rv = n }) known) c.rv.ensures.rv
    ∙ known_ids known past c.vector.ensures (id_of change)
