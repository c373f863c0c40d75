use Rattle.std.proofs.Common.{◌≡◌, ◌≤◌, ◌∙◌, ap, arith, reverse, Some}
use Rattle.gr_vector.specs.Ids.{Id}
use Rattle.gr_history.specs.Clock.{since}
use Rattle.gr_history.specs.Recipients.{recipients}
use Rattle.gr_history.specs.Standing.{standing}
use Rattle.gr_stable.specs.Heard.{heard, is_stable_now}
use Rattle.gr_shard.specs.Entries.{slot_of}
use Rattle.gr_shard.proofs.Counts.{stable_aimed}
use Rattle.gr_shard.proofs.Sweeps.{slot_stable}
use Rattle.gr_shard.proofs.shard.Shard.is_stable.Goals as goal

pub returns : goal.returns
returns c =
    let was = c.self.inside in
    let past = reverse was.history.deeds in
    let key = c.args.key.now in
    let slot = c.in-Some.slot.now in
    let at : Id = record { member = slot.stamp.member; rv = slot.stamp.rv } in
    let found : Some slot ≡ slot_of (standing key past) (since key past) = rw (← c.self.view_is) at c.in-Some.ensures.slot in
    let few : was.id.founders ≤ 8 =
    let place = c.self.invariant.0.place in let a = place.founded in let b = place.few in omega (arith, a, b) in
    rw (← c.self.view_is)
    (c.stable.ensures
    ∙ ap (λ to. is_stable_now was.id.member was.id.founders to at was.heard was.vector.ids) c.self.invariant.0.aimed
    ∙ ap (λ reports. is_stable_now was.id.member was.id.founders (recipients was.id past) at reports was.vector.ids)
    c.self.invariant.0.told
    ∙ ap (is_stable_now was.id.member was.id.founders (recipients was.id past) at (heard past)) c.self.invariant.0.noted
    ∙ stable_aimed was.id at past few
    ∙ slot_stable was.id past (standing key past) (since key past) slot found)
