use Rattle.std.proofs.Common.{◌≡◌, ◌∙◌, ◌∷◌, ap, sym, subst, length, map, reverse, Some}
use Rattle.gr_history.specs.declared.deed.Deed.TheVariants.{Swept}
use Rattle.gr_history.specs.Floor.{floor as floor_of}
use Rattle.gr_history.specs.Stable.{due}
use Rattle.gr_shard.specs.declared.effect.SlotsAfter.TheVariants as slots_
use Rattle.gr_shard.specs.declared.next.Came.TheVariants as came
use Rattle.gr_shard.specs.Prepared.{IsFit}
use Rattle.gr_shard.specs.Sweeps.{valueless}
use Rattle.gr_shard.specs.View.{Account, with_spare}
use Rattle.gr_shard.proofs.Expiring.{fit_swept, turned_swept}
use Rattle.gr_shard.proofs.shard.Shard.prepare_sweep.Goals as goal

pub returns-clause-prepared : goal.returns-clause-prepared
returns-clause-prepared c =
    let account = c.args.self.now in
    let past = reverse account.deeds in
    let named = c.in_ok-named.named in
    let is = c.in_ok-expired.ensures.due in
    rw c.in_ok-deed.ensures record {
      gives = (ap came.Swept (c.len-count.ensures ∙ ap length is), ap (Swept c.args.moment) (c.in_ok-named.ensures ∙ is));
      turned_are = c.in_ok-turned.ensures ∙ ap (map valueless) (c.as_slice.ensures ∙ sym c.in_ok-named.ensures)
          ∙ sym (turned_swept account.id account.opening c.args.moment named past (c.in_ok-named.ensures ∙ is));
    }

pub returns-clause-made : goal.returns-clause-made
returns-clause-made c =
    let account = c.due.new.self in
    let past = reverse account.deeds in
    let moment = c.args.moment in
    let expired = c.in_ok-expired.expired in
    let is : expired ≡ due account.id moment past =
    subst (λ (a : Account). expired ≡ due a.id moment (reverse a.deeds)) (sym c.in_ok-expired.ensures.same) c.in_ok-expired.ensures.due in
    let floored : c.floor_after-floor.result ≡ floor_of account.opening (Swept moment expired ∷ past) =
    c.floor_after-floor.ensures.floor ∙ ap (λ keys. floor_of account.opening (Swept moment keys ∷ past)) c.as_slice-2.ensures in
    subst (λ a. IsFit a c.in_ok-deed.deed (record c.none.result {
      slots = slots_.Without expired;
      floor = Some c.floor_after-floor.result;
      clock = Some c.clock_at-clock.result;
    })) (sym c.in_ok-make_room.ensures.same)
    (rw (c.in_ok-deed.ensures, c.none.ensures, c.in_ok-named.ensures)
    (fit_swept (with_spare c.make_room.new.self.spare account) c.in_ok-make_room.ensures.room moment expired c.floor_after-floor.result
    c.clock_at-clock.result is floored c.floor_after-floor.ensures.low c.clock_at-clock.ensures))
