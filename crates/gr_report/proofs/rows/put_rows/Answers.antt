use Rattle.std.proofs.Common.{◌≡◌, ◌∙◌, ◌++◌, ap, subst, flat_map, map, List, Bor}
use Rattle.std.specs.Prelude.{OnOk}
use Rattle.std.specs.Map.Iter.{deref}
use Rattle.gr_stamp.specs.declared.change.Change.{Change}
use Rattle.gr_report.specs.Regions.{row_line}
use Rattle.gr_report.specs.Rows.{rows_of, AreInOrder}
use Rattle.gr_report.proofs.Ordered.{rows_sorted}
use Rattle.gr_report.proofs.rows.put_rows.Goals as goal

pub returns-then-are_in_order : goal.returns-then-are_in_order
returns-then-are_in_order c =
    let sorted : AreInOrder (map deref c.sort.new.rows.items) =
    subst (λ (rows : List (Bor Change)). AreInOrder (map deref rows)) c.deref.ensures.value c.if-are_in_order.ensures in
    let is : map deref c.sort.new.rows.items ≡ rows_of c.args.shards.now =
    rows_sorted c.args.shards.now (map deref c.in_ok-rows.rows.items) (map deref c.sort.new.rows.items) c.in_ok-rows.ensures c.sort.ensures sorted in
    subst (λ rows. OnOk c.put_lent.result (c.put_lent.new.out.items ≡ c.args.out.now.items ++ flat_map row_line rows))
    (ap (map deref) c.deref-then-are_in_order.ensures.value ∙ is) c.put_lent.ensures
