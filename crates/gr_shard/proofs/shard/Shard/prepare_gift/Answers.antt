use Rattle.std.proofs.Common.{◌≤◌, ◌∙◌, sym, subst, refl, reverse, Some}
use Rattle.gr_law.proofs.Turns.{turned_gave}
use Rattle.gr_shard.specs.Prepared.{IsFit}
use Rattle.gr_shard.specs.View.{Account, with_spare}
use Rattle.gr_shard.proofs.Prepares.{fit_gave}
use Rattle.gr_shard.proofs.shard.Shard.prepare_gift.Goals as goal

pub returns-clause-prepared : goal.returns-clause-prepared
returns-clause-prepared c = rw c.in_ok-deed.ensures record {
  gives = ((c.in_ok-gift.gift, refl, c.in_ok-gift.ensures.gift, c.in_ok-gift.ensures.fits, c.in_ok-gift.ensures.room), refl);
  turned_are = c.none_turned.ensures ∙ sym (turned_gave c.args.to c.args.what (reverse c.args.self.now.deeds));
}

pub returns-clause-made : goal.returns-clause-made
returns-clause-made c =
    let few : c.args.self.now.id.members ≤ 8 =
    subst (λ (a : Account). a.id.members ≤ 8) c.self.view_is c.self.invariant.0.place.few in
    subst (λ a. IsFit a c.in_ok-deed.deed (record c.none.result { to = Some c.args.to })) (sym c.in_ok-make_room.ensures.same)
    (rw (c.in_ok-deed.ensures, c.none.ensures)
    (fit_gave (with_spare c.make_room.new.self.spare c.args.self.now) c.in_ok-make_room.ensures.room c.args.to c.args.what
    c.requires.from c.requires.stated few))
