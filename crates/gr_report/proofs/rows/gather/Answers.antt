use Rattle.std.proofs.Common.{◌≡◌, ◌∙◌, ap, sym, [], ◌∷◌, ◌++◌, take, ◌+◌}
use Rattle.std.specs.List.{fold}
use Rattle.std.proofs.lemmas.List.{take_more}
use Rattle.std.proofs.lemmas.List.Sums.{fold-append}
use Rattle.std.specs.BTreeMap.{insert_entry}
use Rattle.std.specs.Ordering.{nat_cmp}
use Rattle.std.specs.Cmp.Lexicographic.{slice_cmp}
use Rattle.gr_report.specs.Rows.{with_row}
use Rattle.gr_report.specs.Shown.{shown}
use Rattle.gr_report.proofs.Gathered.{shown-insert}
use Rattle.gr_report.proofs.rows.gather.Goals as goal

pub loop-row-preserved : goal.loop-row-preserved
loop-row-preserved g c =
    let row = c.row-item.result in
    let all = c.args.more.now in
    let step = with_row g.T.Keyed.key in
    let start = shown c.args.rows.now.entries in
    let longer : take (c.loop-row.row-index + 1) all ≡ take c.loop-row.row-index all ++ row ∷ [] =
    take_more all c.loop-row.row-index row c.loop-row-test.true ∙ ap (λ x. take c.loop-row.row-index all ++ x ∷ []) (sym c.row-item.is) in
    ap shown c.in_ok-insert.ensures.entries
    ∙ shown-insert c.loop-row.rows.entries c.in_ok-copy.field-0 _
    ∙ ap (λ key. insert_entry (slice_cmp nat_cmp) (shown c.loop-row.rows.entries) key row) (c.in_ok-copy.ensures ∙ c.key.ensures)
    ∙ ap (λ rows. step rows row) c.loop-row.invariant
    ∙ sym (ap (fold step start) longer ∙ fold-append step start (take c.loop-row.row-index all) (row ∷ []))
