use Rattle.std.proofs.Common.{◌≡◌, ◌-◌, ◌∙◌, List, ℕ, ap, get_or, subst, sym}
use Rattle.gr_script.specs.Rules.{IsMember}
use Rattle.gr_script.specs.Scripts.{heading_of}
use Rattle.gr_run_law.proofs.Clients.{home_is_member}
use Rattle.gr_runner.proofs.kits.home_of.Goals as goal

pub returns-clause-member : goal.returns-clause-member
returns-clause-member c =
    let is : get_or c.as_slice.result.now c.from.result 0 ≡ get_or c.args.script.now.clients (c.args.client - 1) 0 =
    ap (λ (l : List ℕ). get_or l c.from.result 0) c.as_slice.ensures
    ∙ ap (λ (k : ℕ). get_or c.args.script.now.clients k 0) c.from.ensures in
    subst (IsMember (heading_of c.args.script.now)) (sym is)
    (home_is_member (heading_of c.args.script.now) c.args.script.now.ruled.heading c.args.client c.requires)
