use Rattle.std.proofs.Common.{◌≡◌, ◌∙◌, ap, sym, subst, Some, None}
use Rattle.std.specs.Cmp.Lexicographic.{slice_cmp}
use Rattle.std.specs.List.Sorted.{IsStrictlySortedBy}
use Rattle.std.specs.Map.{keys_of}
use Rattle.std.specs.Ordering.{nat_cmp}
use Rattle.gr_slots.specs.Cells.{key_in, IsPlaceOf}
use Rattle.gr_slots.specs.Slots.{removed_at, slot_at, with_slot}
use Rattle.gr_slots.proofs.Links.{kept_on}
use Rattle.gr_slots.proofs.Tied.{found, put_rows, rows_ordered, within}
use Rattle.gr_slots.proofs.cells.Cells.put.Goals as goal

-- the key's cell
here : (c : goal.After-put_in) → key_in c.self.inside.cells.items c.in-Some.place ≡ Some c.args.key.now
here c = rw c.as_slice.ensures.value at c.in-Some.ensures

none : (c : goal.In-None) → IsPlaceOf c.self.inside.cells.items c.args.key.now None
none c = rw c.as_slice.ensures.value at c.in-None.ensures

pub put_in-requires : goal.put_in-requires
put_in-requires c =
    within c.args.key.now c.self.inside.cells.items c.in-Some.place (rw c.as_slice.ensures.value at c.in-Some.ensures)

pub invariant_of-self : goal.invariant_of-self
invariant_of-self c =
    kept_on c.self.inside.far c.self.inside.seats c.self.inside.cells.items c.put_in.new.cells.items c.put_in.ensures.keys
    c.put_in.ensures.nears c.put_in.ensures.nexts c.put_in.ensures.length c.self.invariant

pub returns-in-Some-clause-before : goal.returns-in-Some-clause-before
returns-in-Some-clause-before c =
    c.put_in.ensures.before
    ∙ ap removed_at (sym (found c.args.key.now c.self.inside.cells.items (Some c.in-Some.place) c.self.invariant.0.apart (here c))
    ∙ ap (slot_at c.args.key.now) c.self.view_is)

pub returns-in-Some-clause-ok : goal.returns-in-Some-clause-ok
returns-in-Some-clause-ok c =
    put_rows c.self.inside.cells.items c.put_in.new.cells.items c.self.invariant.0.apart c.args.key.now c.in-Some.place (here c)
    c.put_in.ensures.keys c.args.slot c.put_in.ensures.slots
    ∙ ap (with_slot c.args.key.now c.args.slot) c.self.view_is

pub returns-in-Some-clause-ordered : goal.returns-in-Some-clause-ordered
returns-in-Some-clause-ordered c = rows_ordered c.put_in.new.cells.items

pub returns-in-None-clause-absent : goal.returns-in-None-clause-absent
returns-in-None-clause-absent c =
    ap (slot_at c.args.key.now) (sym c.self.view_is)
    ∙ found c.args.key.now c.self.inside.cells.items None c.self.invariant.0.apart (none c)

pub returns-in-None-clause-ordered : goal.returns-in-None-clause-ordered
returns-in-None-clause-ordered c =
    subst (λ es. IsStrictlySortedBy (slice_cmp nat_cmp) (keys_of es)) c.self.view_is (rows_ordered c.self.inside.cells.items)
