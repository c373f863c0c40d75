use Rattle.std.proofs.Common.{◌≡◌, ◌∙◌, ◌<◌, ◌==◌, ap, sym, refl, Bool, true, false, Some, length, option_map, arith}
use Rattle.std.proofs.lemmas.Bool.Decides.{nat_tests}
use Rattle.std.proofs.lemmas.Option.{slice_get_read}
use Rattle.std.proofs.lemmas.Slice.Eq.{bytes_eq-Decides}
use Rattle.gr_slots.specs.declared.cell.Cell.{Cell}
use Rattle.gr_slots.specs.Cells.{key_in}
use Rattle.gr_slots.proofs.Lists.{same_of}
use Rattle.gr_slots.proofs.Tied.{some_one, within}
use Rattle.gr_slots.proofs.places.scan.Goals as goal

pub returns-then-eq : goal.returns-then-eq
returns-then-eq c =
    let cells = c.args.cells.now in
    ap (option_map (λ (cell : Cell). cell.key)) (slice_get_read cells (length cells) c.loop-place.place c.index-cells-place.result refl
    c.loop-place-test.true c.index-cells-place.is)
    ∙ ap (λ (cell : Cell). Some cell.key) c.index-cells-place.is
    ∙ ap Some ((bytes_eq-Decides _ c.args.key.now).0 (sym c.eq.ensures ∙ c.if-eq.true))

pub loop-place-preserved : goal.loop-place-preserved
loop-place-preserved c place less is = at_test (place == c.loop-place.place) refl
  where
    here : key_in c.args.cells.now c.loop-place.place ≡ Some c.index-cells-place.result.key
    here = ap (option_map (λ (cell : Cell). cell.key)) (slice_get_read c.args.cells.now (length c.args.cells.now) c.loop-place.place
        c.index-cells-place.result refl c.loop-place-test.true c.index-cells-place.is)

    at_test : (b : Bool) → (place == c.loop-place.place) ≡ b → ⊥
    at_test true e =
        let same : c.index-cells-place.result.key ≡ c.args.key.now =
        some_one _ _ (sym here ∙ ap (key_in c.args.cells.now) (sym (same_of place c.loop-place.place e)) ∙ is) in
        let t = (bytes_eq-Decides _ c.args.key.now).1 (ap (λ (cell : Cell). cell.key) (sym c.index-cells-place.is) ∙ same) in
        let f : true ≡ false = sym t ∙ sym c.eq.ensures ∙ c.if-eq.false in cc
    at_test false e = c.loop-place.invariant place (grind (arith, nat_tests)) is

pub returns : goal.returns
returns c place is =
    let less : place < length c.args.cells.now = within c.args.key.now c.args.cells.now place is in
    c.loop-place.invariant place (omega (arith, less, c.loop-place-test.false)) is
