use Rattle.std.proofs.Common.{◌∙◌, ◌-◌, ap, sym, reverse, arith}
use Rattle.std.specs.Prelude.{slice_get}
use Rattle.gr_world.specs.Named.{numbered, reports}
use Rattle.gr_world.proofs.Numbering.{none_numbered, numbered_at}
use Rattle.gr_world.proofs.cell.Cell.reported.Goals as goal

pub returns-then-number-eq0 : goal.returns-then-number-eq0
returns-then-number-eq0 c =
    let all = reports (reverse c.args.self.now.deeds) in
    sym (ap (λ n. numbered n all) c.if-number-eq0.true ∙ none_numbered all)

pub returns : goal.returns
returns c =
    let was = c.self.inside in
    let all = reports (reverse was.shard.deeds) in
    rw (← c.self.view_is) (c.at.ensures ∙ ap (λ xs. slice_get xs (c.args.number - 1)) (c.deref.ensures.value ∙ c.self.invariant)
    ∙ numbered_at c.args.number all (omega (arith, c.if-number-eq0.false)))
