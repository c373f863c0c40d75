use Rattle.std.proofs.Common.{arith}
use Rattle.gr_vector.proofs.Walk.{lesser_begins}
use Rattle.gr_vector.proofs.united.next_first.Goals as goal

pub returns-clause-some : goal.returns-clause-some
returns-clause-some c =
    lesser_begins c.args.our c.args.their c.min.result c.args.ours.now c.args.theirs.now _ _ (omega arith) (omega arith) c.min.ensures
