-- What was found so far, with what the literals behind say, is what all say.
use Rattle.std.proofs.Common.{◌≡◌, drop}
use Rattle.std.specs.Option.{option_copied}
use Rattle.gr_oql.specs.Matching.{among}
use Rattle.gr_oql.specs.Truth.{or_truth}
use Rattle.gr_oql.proofs.matching.among.Given as goal

abbrev pub invariant-loop-literal : goal.invariant-loop-literal
invariant-loop-literal l = or_truth l.found (among (option_copied l.scalar) (drop l.literal-index l.literals))
    ≡ among (option_copied l.scalar) l.literals
