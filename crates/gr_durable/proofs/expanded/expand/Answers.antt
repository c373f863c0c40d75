use Rattle.std.proofs.Common.{subst, sym}
use Rattle.gr_script.specs.Rules.{IsScript}
use Rattle.gr_script.specs.Scripts.{heading_of}
use Rattle.gr_durable.proofs.expanded.expand.Goals as goal

pub expanded_lines-requires : goal.expanded_lines-requires
expanded_lines-requires c = (heading_of c.args.script, sym c.len.ensures, c.args.script.ruled)

pub invariant_of-result : goal.invariant_of-result
invariant_of-result c =
    let heading = heading_of c.args.script in
    let still = c.expanded_scripts_are_scripts.ensures heading c.args.script.lines c.args.script.ruled in
    record { ruled = subst (IsScript heading) (sym c.in_ok-lines.ensures) still }
