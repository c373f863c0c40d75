use Rattle.std.proofs.Common.{false}
use Rattle.gr_vector.proofs.Edits.{ascending_set, told_own}
use Rattle.gr_vector.proofs.blocks.enter_own.Goals as goal

pub returns-clause-ascending : goal.returns-clause-ascending
returns-clause-ascending c =
    ascending_set 0 c.args.place c.args.blocks.now c.with.result (record { first = 0; bits = 0 }) c.requires.within c.with.ensures.first
    c.requires.ascending

pub returns-clause-noted : goal.returns-clause-noted
returns-clause-noted c = λ v.
    told_own v c.args.number false c.args.place c.args.blocks.now c.with.result (record { first = 0; bits = 0 }) c.requires.within
    c.with.ensures.first (c.requires.begun (record { first = 0; bits = 0 })) c.requires.above (c.with.ensures.has v)
