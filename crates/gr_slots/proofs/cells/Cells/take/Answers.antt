use Rattle.std.proofs.Common.{◌≡◌, ◌∙◌, ap, sym, subst, Some, None}
use Rattle.std.specs.Cmp.Lexicographic.{slice_cmp}
use Rattle.std.specs.List.Sorted.{IsStrictlySortedBy}
use Rattle.std.specs.Map.{keys_of}
use Rattle.std.specs.Ordering.{nat_cmp}
use Rattle.gr_slots.specs.Cells.{key_in, IsPlaceOf}
use Rattle.gr_slots.specs.Slots.{slot_at, without}
use Rattle.gr_slots.proofs.Found.{without-none}
use Rattle.gr_slots.proofs.Links.{kept_on}
use Rattle.gr_slots.proofs.Tied.{found, left_rows, rows_ordered, within}
use Rattle.gr_slots.proofs.cells.Cells.take.Goals as goal

-- the key's cell
here : (c : goal.After-take_in) → key_in c.self.inside.cells.items c.in-Some.place ≡ Some c.args.key.now
here c = rw c.as_slice.ensures.value at c.in-Some.ensures

none : (c : goal.In-None) → IsPlaceOf c.self.inside.cells.items c.args.key.now None
none c = rw c.as_slice.ensures.value at c.in-None.ensures

pub take_in-requires : goal.take_in-requires
take_in-requires c =
    within c.args.key.now c.self.inside.cells.items c.in-Some.place (rw c.as_slice.ensures.value at c.in-Some.ensures)

pub invariant_of-self : goal.invariant_of-self
invariant_of-self c =
    kept_on c.self.inside.far c.self.inside.seats c.self.inside.cells.items c.take_in.new.cells.items c.take_in.ensures.keys
    c.take_in.ensures.nears c.take_in.ensures.nexts c.take_in.ensures.length c.self.invariant

-- what is found of a key without a cell
absent : (c : goal.In-None) → slot_at c.args.key.now c.args.self.now ≡ None
absent c =
    ap (slot_at c.args.key.now) (sym c.self.view_is)
    ∙ found c.args.key.now c.self.inside.cells.items None c.self.invariant.0.apart (none c)

pub returns-in-Some-clause-slot : goal.returns-in-Some-clause-slot
returns-in-Some-clause-slot c =
    c.take_in.ensures.slot
    ∙ sym (found c.args.key.now c.self.inside.cells.items (Some c.in-Some.place) c.self.invariant.0.apart (here c))
    ∙ ap (slot_at c.args.key.now) c.self.view_is

pub returns-in-Some-clause-gone : goal.returns-in-Some-clause-gone
returns-in-Some-clause-gone c =
    left_rows c.self.inside.cells.items c.take_in.new.cells.items c.self.invariant.0.apart c.args.key.now c.in-Some.place (here c)
    c.take_in.ensures.keys c.take_in.ensures.slots
    ∙ ap (without c.args.key.now) c.self.view_is

pub returns-in-Some-clause-ordered : goal.returns-in-Some-clause-ordered
returns-in-Some-clause-ordered c = rows_ordered c.take_in.new.cells.items

pub returns-in-None-clause-slot : goal.returns-in-None-clause-slot
returns-in-None-clause-slot c = sym (absent c)

pub returns-in-None-clause-gone : goal.returns-in-None-clause-gone
returns-in-None-clause-gone c = sym (without-none c.args.key.now c.args.self.now (absent c))

pub returns-in-None-clause-ordered : goal.returns-in-None-clause-ordered
returns-in-None-clause-ordered c =
    subst (λ es. IsStrictlySortedBy (slice_cmp nat_cmp) (keys_of es)) c.self.view_is (rows_ordered c.self.inside.cells.items)
