use Rattle.std.proofs.Common.{◌≡◌, ◌∙◌, ap, sym, length, rules}
use Rattle.gr_slots.specs.Cells.{rows_in}
use Rattle.gr_slots.specs.Slots.{with_slot}
use Rattle.gr_slots.proofs.Links.{kept_entered}
use Rattle.gr_slots.proofs.Tied.{on_err, same_rows}
use Rattle.gr_slots.proofs.cells.add.Goals as goal

pub returns-in_err-make_room-clause-err : goal.returns-in_err-make_room-clause-err
returns-in_err-make_room-clause-err c =
    on_err c.from_residual-in_err-make_room.result
    (same_rows c.args.cells.now.items c.make_room.new.cells.items c.make_room.ensures.keys c.make_room.ensures.slots
    c.make_room.ensures.length)

pub returns-in_err-enter-clause-err : goal.returns-in_err-enter-clause-err
returns-in_err-enter-clause-err c =
    on_err c.from_residual-in_err-enter.result
    (ap rows_in c.in_err-enter.ensures.same
    ∙ same_rows c.args.cells.now.items c.make_room.new.cells.items c.make_room.ensures.keys c.make_room.ensures.slots
    c.make_room.ensures.length)

pub returns-clause-kept : goal.returns-clause-kept
returns-clause-kept c =
    let at : c.len-place.result ≡ length c.args.cells.now.items = search rules in
    kept_entered c.make_room.new.seats c.link.new.seats c.make_room.new.cells.items c.enter.new.cells.items c.link.new.cells.items _
    c.len-place.result (at ∙ sym c.make_room.ensures.length) c.in_ok-enter.ensures.grown c.link.ensures.length c.make_room.ensures.kept
    c.link.ensures.linked

pub returns-clause-ok : goal.returns-clause-ok
returns-clause-ok c =
    same_rows c.enter.new.cells.items c.link.new.cells.items c.link.ensures.keys c.link.ensures.slots c.link.ensures.length
    ∙ c.in_ok-enter.ensures.ok
    ∙ ap (with_slot c.args.key.now c.args.slot)
    (same_rows c.args.cells.now.items c.make_room.new.cells.items c.make_room.ensures.keys c.make_room.ensures.slots
    c.make_room.ensures.length)
