use Rattle.std.proofs.Common.{◌≡◌, ◌∙◌, ◌&&◌, ap, length, Some, cond, rules}
use Rattle.std.specs.BTreeMap.{get, is_at}
use Rattle.std.specs.Cmp.Lexicographic.{slice_cmp}
use Rattle.std.specs.Ordering.{nat_cmp}
use Rattle.gr_slots.proofs.Tied.{enter_rows, entered_tied}
use Rattle.gr_slots.proofs.places.enter.Goals as goal

pub returns-clause-tied : goal.returns-clause-tied
returns-clause-tied c =
    let long : c.len-place.result ≡ length c.args.cells.now.items = search rules in
    rw (c.push_reserved.ensures.items, c.in_ok-reserve.ensures.items, c.in_ok-own.ensures)
    (entered_tied c.args.far.now c.add_far.new.far c.args.cells.now.items c.args.key.now c.args.slot c.args.is_far c.requires.tied
    c.requires.absent c.add_far.ensures.ordered
    (λ q. c.in_ok-add_far.ensures.ok q
    ∙ ap (λ place. cond (c.args.is_far && is_at (slice_cmp nat_cmp c.args.key.now) q) (Some place)
    (get (slice_cmp nat_cmp) c.args.far.now q)) long))

pub returns-clause-ok : goal.returns-clause-ok
returns-clause-ok c =
    rw (c.push_reserved.ensures.items, c.in_ok-reserve.ensures.items, c.in_ok-own.ensures)
    (enter_rows c.args.cells.now.items c.args.key.now c.args.slot c.args.is_far c.requires.absent)
