use Rattle.std.proofs.Common.{◌≡◌, ◌∙◌, ℕ, ◌+◌, ◌<◌, List, ◌++◌, length, drop, get_or, sym, ap, refl}
use Rattle.std.proofs.lemmas.List.{drop_more}
use Rattle.gr_script.specs.declared.items.Item.{Item}
use Rattle.gr_script.specs.Past.{numbers_of, numbers}
use Rattle.gr_script.proofs.saying.number.Goals as goal

numbers_next : (items : List Item) (i : ℕ) (item : Item) → i < length items → item ≡ get_or items i item
    → numbers (drop i items) ≡ numbers_of item ++ numbers (drop (i + 1) items)
numbers_next items i item within is = rw (drop_more items i item within, sym is) refl

-- what an item leaves to find is what was to be found before it
found_behind : (items : List Item) (i left : ℕ) (item : Item) {before after : ℕ} → i < length items → item ≡ get_or items i item
    → get_or (numbers_of item ++ numbers (drop (i + 1) items)) left 0 ≡ after → get_or (numbers (drop i items)) left 0 ≡ before
    → after ≡ before
found_behind items i left item within is told found =
    sym told ∙ ap (λ (ns : List ℕ). get_or ns left 0) (sym (numbers_next items i item within is)) ∙ found

pub returns-in-Ok : goal.returns-in-Ok
returns-in-Ok c =
    found_behind c.args.items.now c.loop-item.item-index c.loop-item.left c.item-item.result c.loop-item-test.true c.item-item.is
    (c.in-Ok.ensures (numbers (drop (c.loop-item.item-index + 1) c.args.items.now))) c.loop-item.invariant

pub loop-item-preserved : goal.loop-item-preserved
loop-item-preserved c =
    found_behind c.args.items.now c.loop-item.item-index c.loop-item.left c.item-item.result c.loop-item-test.true c.item-item.is
    (c.in-Err.ensures (numbers (drop (c.loop-item.item-index + 1) c.args.items.now))) c.loop-item.invariant
