use Rattle.std.proofs.Common.{◌≡◌, ◌∙◌, ap, sym, map, ◌++◌, ◌∷◌, []}
use Rattle.std.specs.Cmp.Lexicographic.{slice_cmp}
use Rattle.std.specs.List.Sorted.{IsStrictlySortedBy}
use Rattle.std.specs.Map.{keys_of}
use Rattle.std.specs.Map.Iter.{deref_pair}
use Rattle.std.specs.Ordering.{nat_cmp}
use Rattle.std.proofs.lemmas.List.{map-append}
use Rattle.std.proofs.lemmas.List.Elements.{filter_map-append}
use Rattle.gr_shard.specs.Asking.{row_in, rows_in}
use Rattle.gr_shard.proofs.Opened.{rows_held}
use Rattle.gr_shard.proofs.Rows.{all_yielded}
use Rattle.gr_shard.proofs.opening.rows_of.Goals as goal

pub loop-key-preserved : goal.loop-key-preserved
loop-key-preserved c =
    let query = c.args.query.now in
    let before = map deref_pair c.loop-key.yielded in
    c.in_ok-push_row.ensures
    ∙ ap (λ rows. rows ++ rows_in query ((c.in-Some.key.now, c.in-Some.slot.now) ∷ [])) c.loop-key.invariant
    ∙ sym (filter_map-append (row_in query) before ((c.in-Some.key.now, c.in-Some.slot.now) ∷ []))
    ∙ ap (rows_in query) (sym (map-append deref_pair c.loop-key.yielded ((c.in-Some.key, c.in-Some.slot) ∷ [])))

pub returns : goal.returns
returns c past hold =
    let query = c.args.query.now in
    let slots = c.args.slots.now.entries in
    let whole : map deref_pair c.loop-key.yielded ≡ c.args.slots.now.entries =
    all_yielded deref_pair c.in_ok-items.items c.loop-key.yielded c.into_iter-key-iterator.result c.loop-key.key-iterator
    c.next.new.self c.next.result c.into_iter-key-iterator.ensures.into_iter_gives.0
    c.into_iter-key-iterator.ensures.into_iter_gives.1 c.loop-key.yielded_by c.in-None.is c.next.ensures.steps
    ∙ c.in_ok-items.ensures.rows in
    let ordered : IsStrictlySortedBy (slice_cmp nat_cmp) (keys_of slots) = c.rows.ensures.ordered in
    c.loop-key.invariant ∙ ap (rows_in query) whole ∙ rows_held query slots past hold ordered
