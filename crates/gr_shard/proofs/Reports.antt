-- What a shard keeps stays tied to its history by a report that it makes, and by one that it hears.
use Rattle.std.proofs.Common.{◌∙◌, ap, sym, refl, ℕ, List, ◌∷◌}
use Rattle.gr_vector.specs.declared.report.Report.{Report}
use Rattle.gr_history.specs.declared.identity.Identity.{Identity}
use Rattle.gr_history.specs.declared.deed.Deed.{Deed}
use Rattle.gr_history.specs.declared.deed.Deed.TheVariants.{Reported, Heard}
use Rattle.gr_history.specs.Gifts.{IsReportOf}
use Rattle.gr_history.specs.Recipients.{recipients}
use Rattle.gr_stable.specs.Heard.{with_report}
use Rattle.gr_law.proofs.Turns.{turned_heard, turned_reported}
use Rattle.gr_stable.proofs.Counting.{heard_next}
use Rattle.gr_shard.specs.View.{IsKept, Kept}
use Rattle.gr_shard.proofs.Following.{quiet_in_step}
use Rattle.gr_shard.proofs.KeptOn.{kept_on}
use Rattle.gr_shard.proofs.Slots.{stands_unchanged}

module _ (id : Identity) (opening : ℕ) (now : Kept) (past : List Deed) where
  pub kept_reported : (report : Report) → IsKept id opening now past → IsReportOf id past report
      → IsKept id opening now (Reported report ∷ past)
  unfolding recipients
  kept_reported report kept is =
      kept_on id opening now (Reported report) past kept refl is kept.of_shard tt
      now.slots (stands_unchanged now.slots (Reported report) past (λ key. refl) kept.stands)
      now.vector kept.noted now.heard (kept.told ∙ sym (heard_next (Reported report) past))
      now.queries
      (quiet_in_step (Reported report) past now.queries (λ client name. refl) (turned_reported report past) kept.in_step)

  pub kept_heard : (report : Report) → IsKept id opening now past
      → IsKept id opening (record now { heard = with_report report now.heard }) (Heard report ∷ past)
  unfolding recipients
  kept_heard report kept =
      kept_on id opening now (Heard report) past kept refl tt kept.of_shard tt
      now.slots (stands_unchanged now.slots (Heard report) past (λ key. refl) kept.stands)
      now.vector kept.noted
      (with_report report now.heard) (ap (with_report report) kept.told ∙ sym (heard_next (Heard report) past))
      now.queries (quiet_in_step (Heard report) past now.queries (λ client name. refl) (turned_heard report past) kept.in_step)
