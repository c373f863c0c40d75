use Rattle.std.proofs.Common.{◌≡◌, ◌+◌, ◌<◌, ℕ, slice_index_or, Bor}
use Rattle.std.specs.declared.cmp.Ordering.TheVariants.{Less}
use Rattle.std.specs.Ordering.{nat_cmp}
use Rattle.std.specs.Cmp.Lexicographic.{slice_cmp}
use Rattle.gr_stamp.specs.declared.change.Change.{Change}
use Rattle.gr_report.proofs.rows.are_in_order.Given as goal

abbrev pub invariant-loop-place : goal.invariant-loop-place
invariant-loop-place l =
    (at : ℕ) (d : Bor Change) → at + 1 < l.place
    → slice_cmp nat_cmp (slice_index_or l.rows at d).now.key (slice_index_or l.rows (at + 1) d).now.key ≡ Less
