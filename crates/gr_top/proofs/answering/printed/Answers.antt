use Rattle.std.proofs.Common.{subst, sym}
use Rattle.gr_top.specs.declared.words.Mode.TheVariants as mode
use Rattle.gr_top.specs.declared.words.Request.TheVariants as request
use Rattle.gr_top.specs.Outcomes.{IsWhole}
use Rattle.gr_top.proofs.answering.printed.Goals as goal

pub returns-in-Ok : goal.returns-in-Ok
returns-in-Ok g c = record {
  text = c.as_slice-bytes.result.now;
  whole = subst (IsWhole _) (sym c.as_slice-bytes.ensures.value) (c.in_ok-text.ensures (request.Alone mode.Check) tt);
  print = c.in-Ok.ensures;
}

pub returns : goal.returns
returns g c =
    let asked = request.Alone mode.Check in
    c.cause_of.ensures asked _ tt (subst (IsWhole _) (sym c.as_slice-bytes.ensures.value) (c.in_ok-text.ensures asked tt)) c.in-Err.ensures
