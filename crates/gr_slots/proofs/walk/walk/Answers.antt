use Rattle.std.proofs.Common.{◌∙◌, ap, sym, ◌-◌, Some, option_map, arith}
use Rattle.std.proofs.lemmas.Slice.Eq.{bytes_eq-Decides}
use Rattle.gr_slots.specs.declared.cell.Cell.{Cell}
use Rattle.gr_slots.proofs.Links.{behind_end, behind_next}
use Rattle.gr_slots.proofs.walk.walk.Goals as goal

pub returns-then-at-eq0 : goal.returns-then-at-eq0
returns-then-at-eq0 c linked =
    behind_end c.args.seats.now c.args.cells.now c.args.key.now c.loop.at c.if-at-eq0.true (c.loop.invariant linked)

pub returns-then-eq : goal.returns-then-eq
returns-then-eq c =
    ap (option_map (λ (cell : Cell). cell.key)) (sym c.in-Some-cell_at.ensures)
    ∙ ap Some ((bytes_eq-Decides c.in-Some-cell_at.cell.now.key c.args.key.now).0 (sym c.eq.ensures ∙ c.if-eq.true))

pub loop-preserved : goal.loop-preserved
loop-preserved c linked =
    behind_next c.args.seats.now c.args.cells.now c.args.key.now c.in-Some.head c.loop.at (c.loop.at - 1) c.in-Some-cell_at.cell.now
    (sym c.in-Some.ensures) linked (omega arith) (sym c.in-Some-cell_at.ensures)
    (λ same. let t = (bytes_eq-Decides c.in-Some-cell_at.cell.now.key c.args.key.now).1 same in absurd cc) (c.loop.invariant linked)
