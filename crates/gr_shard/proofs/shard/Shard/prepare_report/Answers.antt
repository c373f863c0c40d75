use Rattle.std.proofs.Common.{◌∙◌, ap, sym, subst, refl, reverse}
use Rattle.gr_history.specs.declared.deed.Deed.TheVariants.{Reported}
use Rattle.gr_law.proofs.Turns.{turned_reported}
use Rattle.gr_shard.specs.Prepared.{IsFit}
use Rattle.gr_shard.specs.View.{with_spare}
use Rattle.gr_shard.proofs.Prepares.{fit_reported}
use Rattle.gr_shard.proofs.shard.Shard.prepare_report.Goals as goal

pub returns-clause-prepared : goal.returns-clause-prepared
returns-clause-prepared c = rw c.in_ok-deed.ensures record {
  gives = (c.in_ok-report.report, refl, c.in_ok-report.ensures.report, c.in_ok-report.ensures.room, ap Reported c.in_ok-noted.ensures);
  turned_are = c.none_turned.ensures ∙ sym (turned_reported c.in_ok-noted.noted (reverse c.args.self.now.deeds));
}

pub returns-clause-made : goal.returns-clause-made
returns-clause-made c =
    subst (λ a. IsFit a c.in_ok-deed.deed c.none.result) (sym c.in_ok-make_room.ensures.same)
    (rw (c.in_ok-deed.ensures, c.in_ok-noted.ensures, c.none.ensures)
    (fit_reported (with_spare c.make_room.new.self.spare c.args.self.now) c.in_ok-make_room.ensures.room c.in_ok-report.report
    c.in_ok-report.ensures.report))
