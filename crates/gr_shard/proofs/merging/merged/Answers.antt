use Rattle.std.proofs.Common.{◌≡◌, ◌∙◌, ap, sym, map, ◌∷◌, []}
use Rattle.std.specs.List.{fold}
use Rattle.std.specs.Map.Iter.{deref_pair}
use Rattle.std.proofs.lemmas.List.{map-append}
use Rattle.std.proofs.lemmas.List.Sums.{fold-append}
use Rattle.gr_shard.specs.Merges.{rows_leave, with_unknown}
use Rattle.gr_shard.proofs.Rows.{all_yielded}
use Rattle.gr_shard.proofs.merging.merged.Goals as goal

pub loop-key-preserved : goal.loop-key-preserved
loop-key-preserved c =
    let ids = c.args.image.now.vector.ids in
    let before = map deref_pair c.loop-key.yielded in
    let first = rows_leave c.args.known.now.ids c.args.clock c.args.slots.now.entries c.args.image.now.rows in
    c.in_ok-set_unknown.ensures
    ∙ ap (λ left. with_unknown ids left (c.in-Some.key.now, c.in-Some.slot.now)) c.loop-key.invariant
    ∙ sym (fold-append (with_unknown ids) first before ((c.in-Some.key.now, c.in-Some.slot.now) ∷ []))
    ∙ ap (fold (with_unknown ids) first) (sym (map-append deref_pair c.loop-key.yielded ((c.in-Some.key, c.in-Some.slot) ∷ [])))

pub returns-clause-merged : goal.returns-clause-merged
returns-clause-merged c =
    let whole : map deref_pair c.loop-key.yielded ≡ c.args.slots.now.entries =
    all_yielded deref_pair c.in_ok-items.items c.loop-key.yielded c.into_iter-key-iterator.result c.loop-key.key-iterator
    c.next.new.self c.next.result c.into_iter-key-iterator.ensures.into_iter_gives.0
    c.into_iter-key-iterator.ensures.into_iter_gives.1 c.loop-key.yielded_by c.in-None.is c.next.ensures.steps
    ∙ c.in_ok-items.ensures.rows in
    let first = rows_leave c.args.known.now.ids c.args.clock c.args.slots.now.entries c.args.image.now.rows in
    c.loop-key.invariant ∙ ap (fold (with_unknown c.args.image.now.vector.ids) first) whole
