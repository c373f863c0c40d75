use Rattle.std.specs.Prelude.{vec_len}
use Rattle.gr_member.specs.Dealing.{HaveNoSeats}
use Rattle.gr_member.proofs.dealing.let_go.Given as goal

abbrev pub invariant-loop-shards : goal.invariant-loop-shards
invariant-loop-shards l = HaveNoSeats l.passes.items

abbrev pub decreases-loop-shards : goal.decreases-loop-shards
decreases-loop-shards l = vec_len l.passes
