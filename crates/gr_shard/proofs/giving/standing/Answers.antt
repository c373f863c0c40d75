use Rattle.std.proofs.Common.{◌≡◌, ◌∙◌, ap, sym, map, ◌++◌, ◌∷◌, []}
use Rattle.std.specs.Map.Iter.{deref_pair}
use Rattle.std.proofs.lemmas.List.{map-append}
use Rattle.gr_shard.specs.Entries.{changes_in}
use Rattle.gr_shard.proofs.Puts.{changes_in-push}
use Rattle.gr_shard.proofs.Rows.{all_yielded}
use Rattle.gr_shard.proofs.giving.standing.Goals as goal

pub loop-key-preserved : goal.loop-key-preserved
loop-key-preserved c =
    let before = map deref_pair c.loop-key.yielded in
    let key = c.in-Some.key.now in
    let slot = c.in-Some.slot.now in
    c.in_ok-push.ensures.ok
    ∙ ap (λ changes. changes ++ c.in_ok-change_of.field-0 ∷ []) c.loop-key.invariant
    ∙ ap (λ change. changes_in before ++ change ∷ []) c.in_ok-change_of.ensures
    ∙ sym (changes_in-push before key slot)
    ∙ ap changes_in (sym (map-append deref_pair c.loop-key.yielded ((c.in-Some.key, c.in-Some.slot) ∷ [])))

pub returns-clause-changes : goal.returns-clause-changes
returns-clause-changes c =
    let whole : map deref_pair c.loop-key.yielded ≡ c.args.slots.now.entries =
    all_yielded deref_pair c.in_ok-items.items c.loop-key.yielded c.into_iter-key-iterator.result c.loop-key.key-iterator
    c.next.new.self c.next.result c.into_iter-key-iterator.ensures.into_iter_gives.0
    c.into_iter-key-iterator.ensures.into_iter_gives.1 c.loop-key.yielded_by c.in-None.is c.next.ensures.steps
    ∙ c.in_ok-items.ensures.rows in
    c.loop-key.invariant ∙ ap changes_in whole
