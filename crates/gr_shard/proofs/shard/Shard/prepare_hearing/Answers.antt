use Rattle.std.proofs.Common.{◌∙◌, ap, sym, subst, refl, reverse, Some}
use Rattle.gr_history.specs.declared.deed.Deed.TheVariants.{Heard}
use Rattle.gr_law.proofs.Turns.{turned_heard}
use Rattle.gr_shard.specs.Prepared.{IsFit}
use Rattle.gr_shard.specs.View.{with_spare}
use Rattle.gr_shard.proofs.Prepares.{fit_heard}
use Rattle.gr_shard.proofs.shard.Shard.prepare_hearing.Goals as goal

pub returns-clause-prepared : goal.returns-clause-prepared
returns-clause-prepared c = rw c.in_ok-deed.ensures record {
  gives = (refl, ap Heard c.in_ok-noted.ensures);
  turned_are = c.none_turned.ensures ∙ sym (turned_heard c.in_ok-noted.noted (reverse c.args.self.now.deeds));
}

pub returns-clause-made : goal.returns-clause-made
returns-clause-made c =
    subst (λ a. IsFit a c.in_ok-deed.deed (record c.none.result { heard = Some c.in_ok-heard.heard }))
    (sym c.in_ok-make_room.ensures.same)
    (rw (c.in_ok-deed.ensures, c.in_ok-noted.ensures, c.in_ok-heard.ensures, c.none.ensures)
    (fit_heard (with_spare c.make_room.new.self.spare c.args.self.now) c.in_ok-make_room.ensures.room c.args.report.now))
