use Rattle.std.proofs.Common.{◌-◌, ap, ◌∙◌, sym, subst, slice_index}
use Rattle.gr_script.specs.Rules.{IsMember}
use Rattle.gr_script.specs.Scripts.{heading_of}
use Rattle.gr_world.proofs.Causal.{home_stated}
use Rattle.gr_world.proofs.world.home.Goals as goal

pub returns-clause-member : goal.returns-clause-member
returns-clause-member c =
    let heading = heading_of c.args.script.now in
    subst (IsMember heading) (sym (ap (λ xs. slice_index xs (c.from.result - 1)) c.as_slice.ensures
    ∙ ap (λ n. slice_index c.args.script.now.clients (n - 1)) c.from.ensures))
    (home_stated heading c.args.client c.args.script.now.ruled.heading c.requires)
