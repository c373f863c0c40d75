use Rattle.std.proofs.Common.{◌∙◌, ◌++◌, [], ◌∷◌, sym, ap}
use Rattle.gr_index.specs.declared.cell.Place.TheVariants.{At}
use Rattle.gr_index.proofs.Under.{one_more, none_more}
use Rattle.gr_index.proofs.field_index.keys_between.Goals as goal

pub loop-cell-preserved-in_ok-push : goal.loop-cell-preserved-in_ok-push
loop-cell-preserved-in_ok-push c =
    c.in_ok-push.ensures.ok
    ∙ ap (λ keys. keys ++ c.in_ok-copy.field-0 ∷ []) c.loop-cell.invariant
    ∙ sym (one_more c.loop-cell.yielded c.in-Some.cell c.in_ok-copy.field-0 (c.in-At.is ∙ ap At (sym c.in_ok-copy.ensures)))

pub loop-cell-preserved : goal.loop-cell-preserved
loop-cell-preserved c = c.loop-cell.invariant ∙ sym (none_more c.loop-cell.yielded c.in-Some.cell c.in_default.not-At)
