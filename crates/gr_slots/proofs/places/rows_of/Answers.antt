use Rattle.std.proofs.Common.{◌∙◌, ◌++◌, ◌∷◌, [], ap, sym}
use Rattle.gr_slots.specs.Cells.{rows_of}
use Rattle.gr_slots.proofs.Rows.{row_pushed}
use Rattle.gr_slots.proofs.places.rows_of.Goals as goal

pub loop-cell-preserved : goal.loop-cell-preserved
loop-cell-preserved c =
    c.in_ok-push_row.ensures
    ∙ ap (λ rows. rows ++ rows_of (c.cell-item.result ∷ [])) c.loop-cell.invariant
    ∙ sym (row_pushed c.args.cells.now c.loop-cell.cell-index c.cell-item.result c.loop-cell-test.true c.cell-item.is)
