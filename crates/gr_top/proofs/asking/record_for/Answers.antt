use Rattle.std.proofs.Common.{refl}
use Rattle.std.proofs.lemmas.Result.{err_from_is_err_and}
use Rattle.gr_top.specs.declared.words.Mode.TheVariants as mode
use Rattle.gr_top.specs.declared.words.Request.TheVariants as request
use Rattle.gr_top.proofs.Endings.{within}
use Rattle.gr_top.proofs.Wanted.{lacks_stops, replay_for}
use Rattle.gr_top.proofs.asking.record_for.Goals as goal

pub returns-in-Ok : goal.returns-in-Ok
returns-in-Ok g c =
    let given = c.in_ok-script.ensures (request.Alone (mode.At c.args.member c.args.wanted.now)) tt refl in
    replay_for _ _ _ given.0 c.in_ok-script.script _ given.1 (c.in-Ok.ensures given.0 given.1.read) c.in_ok-find_wanted.ensures

pub returns-in-Err : goal.returns-in-Err
returns-in-Err g c sink untouched =
    let given = c.in_ok-script.ensures (request.Alone (mode.At c.args.member c.args.wanted.now)) tt refl in
    (tt, within _ given.0 given.1.whole, untouched)

pub returns-in_err-script : goal.returns-in_err-script
returns-in_err-script g c =
    let passed = err_from_is_err_and c.from_residual.result c.from_residual.ensures.1 in
    rw (passed.1, passed.2) (c.in_err-script.ensures (request.Alone (mode.At c.args.member c.args.wanted.now)) tt refl)

pub returns-in_err-find_wanted : goal.returns-in_err-find_wanted
returns-in_err-find_wanted g c =
    let given = c.in_ok-script.ensures (request.Alone (mode.At c.args.member c.args.wanted.now)) tt refl in
    let passed = err_from_is_err_and c.from_residual-in_err-find_wanted.result c.from_residual-in_err-find_wanted.ensures.1 in
    rw (passed.1, passed.2) (lacks_stops _ _ _ given.0 c.in_ok-script.script _ given.1 c.in_err-find_wanted.ensures)
