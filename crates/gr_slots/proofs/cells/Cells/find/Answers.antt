use Rattle.std.proofs.Common.{◌≡◌, ◌∙◌, ap, sym, Some, None, option_copied}
use Rattle.gr_slots.specs.Cells.{key_in, slot_in, IsPlaceOf}
use Rattle.gr_slots.specs.Slots.{slot_at}
use Rattle.gr_slots.proofs.Tied.{found}
use Rattle.gr_slots.proofs.cells.Cells.find.Goals as goal

pub returns-in_err-place : goal.returns-in_err-place
returns-in_err-place c =
    let none : IsPlaceOf c.self.inside.cells.items c.args.key.now None = rw c.as_slice.ensures.value at c.in_err-place.ensures in
    ap option_copied c.from_residual.ensures
    ∙ sym (found c.args.key.now c.self.inside.cells.items None c.self.invariant.0.apart none)
    ∙ ap (slot_at c.args.key.now) c.self.view_is

pub returns : goal.returns
returns c =
    let here : key_in c.self.inside.cells.items c.in_ok-place.place ≡ Some c.args.key.now =
    rw c.as_slice.ensures.value at c.in_ok-place.ensures in
    c.slot_in.ensures ∙ ap (λ cells. slot_in cells c.in_ok-place.place) c.as_slice-2.ensures.value
    ∙ sym (found c.args.key.now c.self.inside.cells.items (Some c.in_ok-place.place) c.self.invariant.0.apart here)
    ∙ ap (slot_at c.args.key.now) c.self.view_is
