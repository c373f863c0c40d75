use Rattle.std.proofs.Common.{◌≡◌, ◌≤◌, ◌+◌, ◌∙◌, ◌||◌, ◌==◌, Bool, false, ap, sym, subst, arith, take, drop, get_or}
use Rattle.std.proofs.lemmas.List.{take-append-drop}
use Rattle.gr_vector.specs.Blocks.{is_noted, AreAscending}
use Rattle.gr_vector.proofs.Places.{behind_at}
use Rattle.gr_vector.proofs.Edits.{ascending_insert, told_inserted, missing_beyond}
use Rattle.gr_vector.proofs.blocks.enter_apart.Goals as goal

or_none : {a : Bool} (x : Bool) → a ≡ false → (x || a) ≡ x
or_none {a} x h = grind arith

pub returns-clause-ascending : goal.returns-clause-ascending
returns-clause-ascending c =
    let first : c.with.result.first ≡ c.max-first.result = c.with.ensures.first ∙ c.empty.ensures.first in
    subst (λ xs. AreAscending 0 xs) (sym c.in_ok-insert.ensures.items)
    (ascending_insert 0 c.args.number c.args.count c.args.blocks.now.items c.with.result (record { first = 0; bits = 0 })
    c.requires.within c.requires.above (omega (arith, first, c.max-first.ensures, c.requires.low)) (omega arith)
    (behind_at (λ k. (get_or c.args.blocks.now.items k (record { first = 0; bits = 0 })).first ≤ c.with.result.first) c.args.count
    (λ some. omega (arith, first, c.max-first.ensures, c.requires.behind some (record { first = 0; bits = 0 }))))
    c.requires.ascending)

pub returns-clause-noted : goal.returns-clause-noted
returns-clause-noted c = λ v.
    let first : c.with.result.first ≡ c.max-first.result = c.with.ensures.first ∙ c.empty.ensures.first in
    ap (is_noted v) c.in_ok-insert.ensures.items
    ∙ told_inserted v c.args.number (take c.args.count c.args.blocks.now.items) (drop c.args.count c.args.blocks.now.items) c.with.result
    c.requires.above (omega (arith, first, c.max-first.ensures, c.requires.low))
    (λ le. missing_beyond v c.args.number c.args.count c.args.low c.args.blocks.now.items (record { first = 0; bits = 0 })
    c.requires.within c.requires.above c.requires.fresh
    (behind_at (λ k. (get_or c.args.blocks.now.items k (record { first = 0; bits = 0 })).first + 63 ≤ c.args.low) c.args.count
    (λ some. c.requires.behind some (record { first = 0; bits = 0 })))
    c.requires.low (omega (arith, le, first, c.max-first.ensures)))
    (λ le. c.with.ensures.has v (omega (arith, le, c.with.ensures.first)) ∙ or_none (v == c.args.number) (c.empty.ensures.has v))
    ∙ ap (λ xs. v == c.args.number || is_noted v xs) (take-append-drop c.args.count c.args.blocks.now.items)
