use Rattle.std.proofs.Common.{◌∙◌, None, ap, arith}
use Rattle.gr_script.specs.Taken.{said, lines_taken}
use Rattle.gr_script.proofs.Standing.{quiet}
use Rattle.gr_script.proofs.Taking.{found_next}
use Rattle.gr_script.proofs.past.Past.push.Goals as goal

pub returns-in_ok-push_heading-clause-line : goal.returns-in_ok-push_heading-clause-line
returns-in_ok-push_heading-clause-line c =
    let t = c.args.self.now in
    let saying = c.args.saying in
    ap lines_taken c.in_ok-push_heading.ensures
    ∙ found_next t saying None c.args.after.now c.requires
    (quiet (said t) saying.kind saying.items (omega (arith, c.if-rank-lt-LAST_RANK.true, c.rank.ensures)))
