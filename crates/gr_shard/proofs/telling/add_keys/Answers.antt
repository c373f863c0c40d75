use Rattle.std.proofs.Common.{◌∙◌, ap, sym, map, ◌∷◌, []}
use Rattle.std.specs.Map.Iter.{deref_pair}
use Rattle.std.proofs.lemmas.List.{map-append}
use Rattle.gr_history.specs.Regions.{with_key}
use Rattle.gr_shard.specs.Telling.{with_keys}
use Rattle.gr_shard.proofs.Turning.{inserted, with_keys-push}
use Rattle.gr_shard.proofs.telling.add_keys.Goals as goal

pub loop-key-preserved : goal.loop-key-preserved
loop-key-preserved c =
    let first = c.args.keys.now.keys in
    let before = map deref_pair c.loop-key.yielded in
    let key = c.in-Some.key.now in
    c.in_ok-insert.ensures.keys
    ∙ inserted c.loop-key.keys.keys c.in_ok-copy.field-0
    ∙ ap (λ k. with_key k c.loop-key.keys.keys) c.in_ok-copy.ensures
    ∙ ap (with_key key) c.loop-key.invariant
    ∙ sym (with_keys-push first before key c.in-Some.field-0-1.now)
    ∙ ap (with_keys first) (sym (map-append deref_pair c.loop-key.yielded ((c.in-Some.key, c.in-Some.field-0-1) ∷ [])))
