use Rattle.std.proofs.Common.{◌≡◌, ◌∙◌, ap, reverse, ℕ, Bool, Option, option_copied}
use Rattle.gr_vector.specs.Ids.{has_id}
use Rattle.gr_slots.specs.declared.slot.Slot.{Slot}
use Rattle.gr_history.specs.Clock.{since}
use Rattle.gr_history.specs.Ids.{id_of, ids}
use Rattle.gr_history.specs.Standing.{standing}
use Rattle.gr_law.proofs.Lists.{known_ids}
use Rattle.gr_shard.specs.Entries.{slot_of, verdict_at}
use Rattle.gr_shard.proofs.Made.{verdict-slot_of}
use Rattle.gr_shard.proofs.shard.Shard.verdict.Goals as goal

pub returns : goal.returns
returns c =
    let was = c.self.inside in
    let past = reverse was.history.deeds in
    let change = c.args.change.now in
    let known : c.holds-known.result ≡ has_id (id_of change) (ids past) =
    c.holds-known.ensures
    ∙ ap (λ (m : ℕ). has_id (record { member = m; rv = c.rv.result }) was.vector.ids) c.member.ensures.member
    ∙ ap (λ (n : ℕ). has_id (record { member = change.stamp.member; rv = n }) was.vector.ids) c.rv.ensures.rv
    ∙ known_ids was.vector.ids past c.self.invariant.0.noted (id_of change) in
    let found : option_copied c.find.result ≡ slot_of (standing change.key past) (since change.key past) =
    rw (← c.self.view_is) at c.find.ensures.slot in
    rw (← c.self.view_is)
    (c.verdict_at.ensures
    ∙ ap (λ (b : Bool). verdict_at b (option_copied c.find.result) change.stamp) known
    ∙ ap (λ (slot : Option Slot). verdict_at (has_id (id_of change) (ids past)) slot change.stamp) found
    ∙ verdict-slot_of (has_id (id_of change) (ids past)) (standing change.key past) (since change.key past) change)
