use Rattle.gr_value.proofs.Kept.{kept_more, on_err}
use Rattle.gr_value.proofs.printing.put_rest.Goals as goal

pub returns-in_err-put_field-clause-kept : goal.returns-in_err-put_field-clause-kept
returns-in_err-put_field-clause-kept c =
    on_err _ (kept_more _ _ _ _ c.loop-field.invariant
    (kept_more _ _ _ _ c.in_ok-push.ensures.items c.in_err-put_field.ensures.kept))
