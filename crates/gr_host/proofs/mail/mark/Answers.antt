use Rattle.std.proofs.Common.{◌++◌, ◌∷◌, [], List, Bool, length, ap, subst, sym}
use Rattle.gr_post.specs.declared.mail.Posted.{Posted}
use Rattle.gr_post.specs.Mails.{is_end}
use Rattle.gr_host.specs.Ends.{AreEnds}
use Rattle.gr_host.proofs.Marking.{ends_marked, ends_unmarked}
use Rattle.gr_host.proofs.mail.mark.Goals as goal

pub returns-in-End : goal.returns-in-End
returns-in-End c = λ taken ends.
    let one : Posted = record { from = c.args.sender; mail = c.args.mail.now } in
    subst (λ (l : List Bool). AreEnds (length c.args.ends.now) (taken ++ one ∷ []) l) (sym c.mark.ensures)
    (ends_marked (length c.args.ends.now) taken c.args.ends.now one (ap is_end c.in-End.is) c.requires ends)

pub returns-in_default : goal.returns-in_default
returns-in_default c = λ taken ends.
    let one : Posted = record { from = c.args.sender; mail = c.args.mail.now } in
    ends_unmarked (length c.args.ends.now) taken c.args.ends.now one c.in_default.not-End ends
