use Rattle.std.proofs.Common.{◌≡◌, ◌++◌, List, drop, map, reverse}
use Rattle.gr_script.specs.declared.line.Line.{Line}
use Rattle.gr_script.specs.Expanded.{return_of, steps_on}
use Rattle.gr_durable.proofs.expander.steps_on.Given as goal

abbrev pub invariant-loop-name : goal.invariant-loop-name
invariant-loop-name l =
    (before : List Line)
    → steps_on l.client l.seq (map (return_of l.late) (drop l.name-index l.names)) (reverse l.lines ++ before)
    ≡ steps_on l.client l.first (map (return_of l.late) l.names) before
