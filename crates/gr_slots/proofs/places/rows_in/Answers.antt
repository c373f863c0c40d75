use Rattle.std.proofs.Common.{rules}
use Rattle.std.proofs.lemmas.List.Sorted.{answers_always}
use Rattle.gr_slots.proofs.Rows.{Lent, in_rows}
use Rattle.gr_slots.proofs.places.rows_in.Goals as goal

pub returns : goal.returns
returns c =
    in_rows c.args.cells.now c.in_ok-rows.rows.items c.sort_unstable_by_key.new.self.items c.requires c.in_ok-rows.ensures
    c.sort_unstable_by_key.ensures.permutation
    (c.sort_unstable_by_key.ensures.sorted (λ (row : Lent). row.0) (answers_always _ _ _ (λ f a r g h. search rules)))
