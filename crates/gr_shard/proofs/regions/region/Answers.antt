use Rattle.std.proofs.Common.{◌≡◌, ◌∙◌, ap, sym, map, ◌++◌, ◌∷◌, []}
use Rattle.std.specs.Map.Iter.{deref_pair}
use Rattle.std.proofs.lemmas.List.{map-append}
use Rattle.gr_shard.specs.Entries.{changes_in, change_of, puts_of}
use Rattle.gr_shard.proofs.Puts.{puts_of-push, changes_in-push, removals_held}
use Rattle.gr_shard.proofs.Rows.{all_yielded}
use Rattle.gr_shard.proofs.regions.region.Goals as goal

pub loop-key-preserved : goal.loop-key-preserved
loop-key-preserved c =
    let before = map deref_pair c.loop-key.yielded in
    let change = change_of c.in-Some.key.now c.in-Some.slot.now in
    c.in_ok-push_change.ensures
    ∙ ap (λ rows. rows ++ puts_of (change ∷ [])) c.loop-key.invariant
    ∙ sym (puts_of-push (changes_in before) change)
    ∙ ap puts_of (sym (changes_in-push before c.in-Some.key.now c.in-Some.slot.now))
    ∙ ap (λ entries. puts_of (changes_in entries)) (sym (map-append deref_pair c.loop-key.yielded ((c.in-Some.key, c.in-Some.slot) ∷ [])))

pub returns-clause-rows : goal.returns-clause-rows
returns-clause-rows c =
    let whole : map deref_pair c.loop-key.yielded ≡ c.args.slots.now.entries =
    all_yielded deref_pair c.in_ok-items.items c.loop-key.yielded c.into_iter-key-iterator.result c.loop-key.key-iterator
    c.next.new.self c.next.result c.into_iter-key-iterator.ensures.into_iter_gives.0
    c.into_iter-key-iterator.ensures.into_iter_gives.1 c.loop-key.yielded_by c.in-None.is c.next.ensures.steps
    ∙ c.in_ok-items.ensures.rows in
    c.loop-key.invariant ∙ ap (λ entries. puts_of (changes_in entries)) whole

pub returns-clause-tombstones : goal.returns-clause-tombstones
returns-clause-tombstones c = c.tombstones.ensures ∙ removals_held c.args.slots.now.entries
