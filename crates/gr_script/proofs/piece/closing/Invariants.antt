use Rattle.std.proofs.Common.{◌≡◌, ◌≤◌, drop}
use Rattle.gr_script.specs.Pieces.{nesting_of, closing}
use Rattle.gr_script.specs.declared.piece.Place.TheVariants.{Outside}
use Rattle.gr_script.proofs.Places.{further}
use Rattle.gr_script.proofs.piece.closing.Given as goal

abbrev pub invariant-loop-place : goal.invariant-loop-place
invariant-loop-place l = record {
  near : l.before.depth ≤ l.place;
  same : further l.place (closing l.before (drop l.place l.text)) ≡ closing (nesting_of 0 Outside) l.text;
}
