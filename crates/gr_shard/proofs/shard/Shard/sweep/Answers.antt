use Rattle.std.proofs.Common.{◌≡◌, ◌∙◌, ap, subst, [], ◌∷◌, ◌++◌, reverse, length, ◌≤◌}
use Rattle.std.proofs.lemmas.List.{reverse-append}
use Rattle.gr_stamp.specs.declared.stamp.TheConstants.{LIMIT}
use Rattle.gr_history.specs.declared.deed.Deed.TheVariants.{Swept}
use Rattle.gr_history.specs.Stable.{due}
use Rattle.gr_slots.specs.Slots.{HeldSlots}
use Rattle.gr_shard.specs.Sweeps.{risen, without_all}
use Rattle.gr_shard.specs.View.{kept}
use Rattle.gr_shard.proofs.Looked.{looked_on}
use Rattle.gr_shard.proofs.Pushed.{on_ok}
use Rattle.gr_shard.proofs.Stocked.{unstocked}
use Rattle.gr_shard.proofs.Sweeps.{expired_is, kept_swept}
use Rattle.gr_shard.proofs.shard.Shard.sweep.Goals as goal

pub invariant_of-self-2 : goal.invariant_of-self-2
invariant_of-self-2 c = rw c.in_ok-timed_out.ensures.same (c.self.invariant.0, unstocked _ _ _ _ _ _ c.self.invariant.1.open_are, c.self.invariant.2)

pub invariant_of-self-3 : goal.invariant_of-self-3
invariant_of-self-3 c =
    let was = c.self.inside in
    let past = reverse was.history.deeds in
    let now = kept was.slots.entries was.vector.ids was.floor was.clock was.joined was.to was.heard was.queries.entries in
    let expired = c.in_ok-expired.expired in
    let ordered = c.in_ok-timed_out.ensures.ordered in
    let is : expired ≡ due was.id c.args.moment past =
    expired_is was.id was.opening c.args.moment c.max-clock.result was.looked now past c.as_slice.result.now expired c.self.invariant.0
    c.self.invariant.2 ordered
    c.max-clock.ensures (c.as_slice.ensures ∙ c.in_ok-timed_out.ensures.keys)
    c.in_ok-expired.ensures in
    let same = c.timed_out.ensures.same in
    let rises : c.risen-self-inside.result ≡ risen was.slots.entries was.floor expired = c.risen-self-inside.ensures.risen
    ∙ ap (λ (s : HeldSlots). risen s.entries was.floor c.as_slice-2.result.now) same
    ∙ ap (risen was.slots.entries was.floor) c.as_slice-2.ensures in
    let low : risen was.slots.entries was.floor expired ≤ LIMIT = subst (λ n. n ≤ LIMIT) rises c.risen-self-inside.ensures.within in
    let pushed : c.push.new.self.deeds ≡ was.history.deeds ++ Swept c.args.moment expired ∷ [] =
    on_ok c.push.result (c.push.ensures.room c.in_ok-reserve.ensures.room) c.push.ensures.ok
    ∙ ap (λ deeds. deeds ++ c.in_ok-deed.deed ∷ []) c.in_ok-reserve.ensures.deeds
    ∙ ap (λ deed. was.history.deeds ++ deed ∷ []) c.in_ok-deed.ensures
    ∙ ap (λ keys. was.history.deeds ++ Swept c.args.moment keys ∷ []) c.in_ok-named.ensures in
    let dropped : c.drop_all.new.slots.entries ≡ without_all expired was.slots.entries = c.drop_all.ensures
    ∙ ap (λ (s : HeldSlots). without_all c.as_slice-3.result.now s.entries) same
    ∙ ap (λ keys. without_all keys was.slots.entries) c.as_slice-3.ensures in
    let behind = kept_swept was.id was.opening c.args.moment now past expired c.self.invariant.0 ordered is low in
    rw (pushed, reverse-append, dropped, rises, c.looked_after-self-inside.ensures, c.in_ok-deed.ensures, c.max-clock.ensures) (
      behind,
      unstocked _ _ _ _ _ _ c.self.invariant.1.open_are,
      looked_on was.id was.opening was.looked _ (Swept c.args.moment expired) past behind c.self.invariant.2,
    )

pub returns-clause-expired : goal.returns-clause-expired
returns-clause-expired c =
    let was = c.self.inside in
    let past = reverse was.history.deeds in
    let now = kept was.slots.entries was.vector.ids was.floor was.clock was.joined was.to was.heard was.queries.entries in
    rw (← c.self.view_is) (c.len-count.ensures
    ∙ ap length (expired_is was.id was.opening c.args.moment c.max-clock.result was.looked now past c.as_slice.result.now
    c.in_ok-expired.expired c.self.invariant.0 c.self.invariant.2 c.in_ok-timed_out.ensures.ordered c.max-clock.ensures
    (c.as_slice.ensures ∙ c.in_ok-timed_out.ensures.keys)
    c.in_ok-expired.ensures))

pub returns-clause-added : goal.returns-clause-added
returns-clause-added c =
    let was = c.self.inside in
    let past = reverse was.history.deeds in
    let now = kept was.slots.entries was.vector.ids was.floor was.clock was.joined was.to was.heard was.queries.entries in
    let is : c.in_ok-expired.expired ≡ due was.id c.args.moment past =
    expired_is was.id was.opening c.args.moment c.max-clock.result was.looked now past c.as_slice.result.now c.in_ok-expired.expired
    c.self.invariant.0 c.self.invariant.2 c.in_ok-timed_out.ensures.ordered c.max-clock.ensures (c.as_slice.ensures ∙ c.in_ok-timed_out.ensures.keys)
    c.in_ok-expired.ensures in
    let pushed : c.push.new.self.deeds ≡ was.history.deeds ++ Swept c.args.moment (due was.id c.args.moment past) ∷ [] =
    on_ok c.push.result (c.push.ensures.room c.in_ok-reserve.ensures.room) c.push.ensures.ok
    ∙ ap (λ deeds. deeds ++ c.in_ok-deed.deed ∷ []) c.in_ok-reserve.ensures.deeds
    ∙ ap (λ deed. was.history.deeds ++ deed ∷ []) c.in_ok-deed.ensures
    ∙ ap (λ keys. was.history.deeds ++ Swept c.args.moment keys ∷ []) (c.in_ok-named.ensures ∙ is) in
    rw (← c.self.view_is) (ap (λ deeds. record { id = was.id; opening = was.opening; deeds = deeds; spare = 0 }) pushed)
