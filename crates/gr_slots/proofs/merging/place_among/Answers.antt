use Rattle.std.proofs.Common.{◌≡◌, ◌∙◌, ◌<◌, ap, sym, refl, ℕ, List, length, Some, map, get_or, option_map, true, false, is_lt, add-one, arith}
use Rattle.std.specs.List.{slice_get}
use Rattle.std.specs.Map.Iter.{deref_pair}
use Rattle.std.specs.declared.cmp.Ordering.{Ordering}
use Rattle.std.specs.declared.cmp.Ordering.TheVariants.{Less, Equal, Greater}
use Rattle.std.proofs.lemmas.Option.{slice_get-get_or, slice_get-map}
use Rattle.gr_slots.proofs.Merged.{merged_at, passed, placed}
use Rattle.gr_slots.proofs.merging.place_among.Goals as goal

is_less : (o : Ordering) → is_lt o ≡ true → o ≡ Less
is_less Less e = refl
is_less Equal e = absurd cc
is_less Greater e = absurd cc

-- what stands at a place within, seen as another thing
seen_at : {A B : Type 0} (f : A → B) (rows : List A) (place : ℕ) (other : A) → place < length rows
    → slice_get (map f rows) place ≡ Some (f (get_or rows place other))
seen_at f rows place other within = slice_get-map f rows place ∙ ap (option_map f) (slice_get-get_or rows place other within)

pub loop-place-preserved : goal.loop-place-preserved
loop-place-preserved c slot =
    let rows = map deref_pair c.args.rows.now in
    let place = c.loop-place.place in
    let row = get_or c.args.rows.now place c.index-rows-place.result in
    c.loop-place.invariant slot
    ∙ passed c.args.key.now slot rows place (deref_pair row)
    (seen_at deref_pair c.args.rows.now place c.index-rows-place.result (omega (arith, c.loop-place-test.true)))
    c.requires
    (λ less. let never : true ≡ false = sym (ap is_lt (c.cmp.ensures ∙ less)) ∙ sym c.is_lt.ensures ∙ c.if-is_lt.false in cc)
    ∙ ap (merged_at c.args.key.now slot rows) (sym (add-one place))

pub returns-then-is_lt-clause-place : goal.returns-then-is_lt-clause-place
returns-then-is_lt-clause-place c slot =
    let rows = map deref_pair c.args.rows.now in
    let place = c.loop-place.place in
    let row = get_or c.args.rows.now place c.index-rows-place.result in
    c.loop-place.invariant slot
    ∙ placed c.args.key.now slot rows place (deref_pair row)
    (seen_at deref_pair c.args.rows.now place c.index-rows-place.result (omega (arith, c.loop-place-test.true)))
    (sym c.cmp.ensures ∙ is_less c.cmp.result (sym c.is_lt.ensures ∙ c.if-is_lt.true))
