use Rattle.std.proofs.Common.{◌≡◌, ◌∙◌, ap, sym, Some, None}
use Rattle.gr_slots.specs.Cells.{key_in, IsPlaceOf}
use Rattle.gr_slots.specs.Slots.{removed_at, slot_at, with_slot}
use Rattle.gr_slots.proofs.Links.{kept_on}
use Rattle.gr_slots.proofs.Tied.{found, put_rows, within}
use Rattle.gr_slots.proofs.cells.Cells.set.Goals as goal

-- the key's cell
here : (c : goal.After-put_in) → key_in c.self.inside.cells.items c.in-Some.place ≡ Some c.args.key.now
here c = rw c.as_slice.ensures.value at c.in-Some.ensures

pub put_in-requires : goal.put_in-requires
put_in-requires c =
    within c.args.key.now c.self.inside.cells.items c.in-Some.place (rw c.as_slice.ensures.value at c.in-Some.ensures)

pub invariant_of-self : goal.invariant_of-self
invariant_of-self c =
    kept_on c.self.inside.far c.self.inside.seats c.self.inside.cells.items c.put_in.new.cells.items c.put_in.ensures.keys
    c.put_in.ensures.nears c.put_in.ensures.nexts c.put_in.ensures.length c.self.invariant

pub returns-in-Some-clause-before : goal.returns-in-Some-clause-before
returns-in-Some-clause-before c =
    c.put_in.ensures.before
    ∙ ap removed_at (sym (found c.args.key.now c.self.inside.cells.items (Some c.in-Some.place) c.self.invariant.0.apart (here c))
    ∙ ap (slot_at c.args.key.now) c.self.view_is)

pub returns-in-Some-clause-ok : goal.returns-in-Some-clause-ok
returns-in-Some-clause-ok c =
    put_rows c.self.inside.cells.items c.put_in.new.cells.items c.self.invariant.0.apart c.args.key.now c.in-Some.place (here c)
    c.put_in.ensures.keys c.args.slot c.put_in.ensures.slots
    ∙ ap (with_slot c.args.key.now c.args.slot) c.self.view_is

pub returns-in-None-clause-before : goal.returns-in-None-clause-before
returns-in-None-clause-before c =
    let none : IsPlaceOf c.self.inside.cells.items c.args.key.now None = rw c.as_slice.ensures.value at c.in-None.ensures in
    sym (ap removed_at (ap (slot_at c.args.key.now) (sym c.self.view_is)
    ∙ found c.args.key.now c.self.inside.cells.items None c.self.invariant.0.apart none))
