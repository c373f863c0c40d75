use Rattle.gr_value.proofs.Kept.{kept_more, on_err}
use Rattle.gr_value.proofs.printing.put_quoted.Goals as goal

pub returns-in_err-put_escapes-clause-kept : goal.returns-in_err-put_escapes-clause-kept
returns-in_err-put_escapes-clause-kept c =
    on_err _ (kept_more _ _ _ _ c.in_ok-push.ensures.items
    (kept_more _ _ _ _ c.in_ok-put_run.ensures.ok c.in_err-put_escapes.ensures.kept))
