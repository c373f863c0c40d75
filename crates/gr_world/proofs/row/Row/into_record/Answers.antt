use Rattle.std.proofs.Common.{sym, subst}
use Rattle.gr_shard.specs.Records.{IsRecordOf}
use Rattle.gr_world.specs.Numbered.{PairsFrom}
use Rattle.gr_world.proofs.Lists.{pairs_more}
use Rattle.gr_world.proofs.row.Row.into_record.Goals as goal

pub loop-cell-preserved : goal.loop-cell-preserved
loop-cell-preserved c =
    subst (PairsFrom (λ _. IsRecordOf) 0 _) (sym c.in_ok-push.ensures.ok)
    (pairs_more
    (λ _. IsRecordOf) 0 c.loop-cell.yielded c.loop-cell.shards c.in-Some.cell c.in_ok-into_record.field-0 c.loop-cell.invariant
    (subst (λ account. IsRecordOf account c.in_ok-into_record.field-0) c.into_shard.ensures c.in_ok-into_record.ensures.record_of))
