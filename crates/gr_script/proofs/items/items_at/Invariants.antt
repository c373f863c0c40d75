use Rattle.std.proofs.Common.{◌≡◌, drop}
use Rattle.gr_script.specs.Items.{items_at}
use Rattle.gr_script.proofs.ItemLemmas.{behind}
use Rattle.gr_script.proofs.items.items_at.Given as goal

abbrev pub invariant-loop-kind : goal.invariant-loop-kind
invariant-loop-kind l = behind l.items (items_at l.setting (drop l.kind-index l.kinds) l.rest) ≡ items_at l.fn.setting l.fn.kinds l.fn.text
