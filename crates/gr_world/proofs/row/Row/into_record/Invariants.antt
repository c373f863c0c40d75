use Rattle.gr_shard.specs.Records.{IsRecordOf}
use Rattle.gr_world.specs.Numbered.{PairsFrom}
use Rattle.gr_world.proofs.row.Row.into_record.Given as goal

abbrev pub invariant-loop-cell : goal.invariant-loop-cell
invariant-loop-cell l = PairsFrom (λ _. IsRecordOf) 0 l.yielded l.shards
