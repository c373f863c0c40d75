use Rattle.std.proofs.Common.{◌≡◌, subst, sym, Bool, List, ℕ, Ok}
use Rattle.gr_script.specs.Sayings.{Ends}
use Rattle.gr_script.specs.Scripts.{heading_of}
use Rattle.gr_script.specs.Said.{script_of}
use Rattle.gr_top.specs.Outcomes.{IsWhole}
use Rattle.gr_top.proofs.giving.script_from.Goals as goal

pub returns-in-Ok : goal.returns-in-Ok
returns-in-Ok g c request reads same = (
  c.in_ok-text.text.items,
  record {
    whole = c.in_ok-text.ensures request reads;
    read = subst (λ (p : Bool × List ℕ). script_of p.0 p.1 ≡ Ok (heading_of c.in-Ok.script, c.in-Ok.script.lines))
        (λ i. (same i, c.as_slice-bytes.ensures.value i)) c.in-Ok.ensures.exact;
  },
)

pub returns : goal.returns
returns g c request reads same =
    c.cause_of.ensures request _ reads (subst (IsWhole _) (sym c.as_slice-bytes.ensures.value) (c.in_ok-text.ensures request reads))
    (subst (λ (b : Bool). Ends c.in-Err.end (script_of b c.as_slice-bytes.result.now)) same c.in-Err.ensures.exact)
