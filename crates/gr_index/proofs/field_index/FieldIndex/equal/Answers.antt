use Rattle.std.proofs.Common.{◌≡◌, ◌∙◌, ap, subst}
use Rattle.std.specs.List.Sorted.{IsStrictlySortedBy}
use Rattle.gr_index.specs.declared.cell.Place.TheVariants.{Before, Behind}
use Rattle.gr_index.specs.Cells.{cell_cmp, placed, keys_between}
use Rattle.gr_index.proofs.Marked.{forward}
use Rattle.gr_index.proofs.Under.{are_keys}
use Rattle.gr_index.proofs.field_index.FieldIndex.equal.Goals as goal

pub keys_between-requires : goal.keys_between-requires
keys_between-requires c =
    ap (λ from. cell_cmp from c.in_ok-to.to) c.in_ok-from.ensures
    ∙ ap (cell_cmp (placed c.args.scalar.now Before)) c.in_ok-to.ensures
    ∙ forward c.args.scalar.now

pub returns : goal.returns
returns c map index =
    let cells_are : c.self.inside.cells.keys ≡ c.args.self.now.cells = ap (λ i. i.cells) c.self.view_is in
    are_keys c.args.scalar.now c.args.self.now c.in_ok-keys_between.field-0
    (c.in_ok-keys_between.ensures.keys
    ∙ ap (λ from. keys_between from c.in_ok-to.to c.self.inside.cells.keys) c.in_ok-from.ensures
    ∙ ap (λ to. keys_between (placed c.args.scalar.now Before) to c.self.inside.cells.keys) c.in_ok-to.ensures
    ∙ ap (keys_between (placed c.args.scalar.now Before) (placed c.args.scalar.now Behind)) cells_are)
    (subst (IsStrictlySortedBy cell_cmp) cells_are c.in_ok-keys_between.ensures.ordered)
    map index
