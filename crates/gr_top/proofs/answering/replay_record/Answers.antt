use Rattle.std.proofs.Common.{refl, subst, sym}
use Rattle.gr_top.specs.declared.words.Mode.TheVariants as mode
use Rattle.gr_top.specs.declared.words.Request.TheVariants as request
use Rattle.gr_top.specs.Outcomes.{IsReplayOf, IsWhole}
use Rattle.gr_top.proofs.Endings.{within}
use Rattle.gr_top.proofs.answering.replay_record.Goals as goal

pub returns-in-Ok : goal.returns-in-Ok
returns-in-Ok g c detail =
    let whole = subst (IsWhole _) (sym c.as_slice-bytes.ensures.value) (c.in_ok-text.ensures (request.Alone (mode.Replay detail)) tt) in
    let replayed : IsReplayOf _ _ = record { text = c.as_slice-bytes.result.now; whole = whole; played = c.in-Ok.ensures } in
    record { within = within _ _ whole; keeps = replayed; prints = (replayed, refl) }

pub returns-in-Err : goal.returns-in-Err
returns-in-Err g c detail =
    let asked = request.Alone (mode.Replay detail) in
    c.cause_of.ensures asked _ tt (subst (IsWhole _) (sym c.as_slice-bytes.ensures.value) (c.in_ok-text.ensures asked tt)) c.in-Err.ensures
