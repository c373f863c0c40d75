use Rattle.std.proofs.Common.{◌∙◌, ap}
use Rattle.std.specs.Ordering.{nat_cmp}
use Rattle.std.specs.Cmp.Lexicographic.{slice_cmp}
use Rattle.std.specs.FinMap as finite
use Rattle.gr_stamp.specs.declared.change.Change.{Change}
use Rattle.gr_route.proofs.turning.turned_each.Goals as goal

pub loop-deed-init : goal.loop-deed-init
loop-deed-init c = record {
  lists = c.new-lists.ensures.items;
  behind = (
    λ key. ap (λ all. finite.get all key) c.new.ensures ∙ finite.get-empty {X = Change} (slice_cmp nat_cmp) key,
    ap (λ vector. vector.ids) c.in_ok-new.ensures,
  );
}
