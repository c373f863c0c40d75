use Rattle.std.proofs.Common.{◌≡◌, ◌∙◌, ◌≤◌, ap, subst, sym, length, filter, List, ℕ, None, true, arith}
use Rattle.std.specs.BTreeMap.{get}
use Rattle.std.specs.Cmp.Lexicographic.{slice_cmp}
use Rattle.std.specs.Ordering.{nat_cmp}
use Rattle.gr_slots.specs.declared.cell.Cell.{Cell}
use Rattle.gr_slots.specs.Cells.{rows_in, AreTied}
use Rattle.gr_slots.proofs.Packed.{fewer, none_in, packed_rows, packed_tied}
use Rattle.gr_slots.proofs.Tied.{same_rows, same_tied}
use Rattle.gr_slots.proofs.packing.pack.Goals as goal

pub link_all-requires-clause-few : goal.link_all-requires-clause-few
link_all-requires-clause-few c =
    let all = c.if-len.false in
    let long = c.len.ensures in
    let less = fewer c.args.cells.now.items in
    let same : length c.drop_empty.new.cells.items ≡ length (filter (λ (cell : Cell). cell.live) c.args.cells.now.items) =
    ap (λ (cells : List Cell). length cells) c.drop_empty.ensures in
    omega (arith, all, long, less, same)

empty_is : (c : goal.After-link_all) → c.is_empty.result ≡ true
empty_is c = c.if-not-is_empty.false

pub returns-clause-tied : goal.returns-clause-tied
returns-clause-tied c =
    same_tied c.args.far.now c.drop_empty.new.cells.items c.link_all.new.cells.items c.link_all.ensures.keys c.link_all.ensures.nears
    (subst (AreTied c.args.far.now) (sym c.drop_empty.ensures)
    (packed_tied c.args.far.now c.args.cells.now.items c.requires.tied (none_in c.args.far.now (c.is_empty.ensures.0 (empty_is c)))))

pub returns-clause-rows : goal.returns-clause-rows
returns-clause-rows c =
    same_rows c.drop_empty.new.cells.items c.link_all.new.cells.items c.link_all.ensures.keys c.link_all.ensures.slots
    c.link_all.ensures.length
    ∙ ap rows_in c.drop_empty.ensures ∙ packed_rows c.args.cells.now.items
