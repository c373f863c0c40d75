use Rattle.std.proofs.Common.{reverse, refl}
use Rattle.gr_shard.specs.View.{kept}
use Rattle.gr_shard.proofs.Left.{region-kept}
use Rattle.gr_shard.proofs.shard.Shard.into_record.Goals as goal

pub returns-clause-record_of : goal.returns-clause-record_of
returns-clause-record_of c =
    let was = c.self.inside in
    rw (← c.self.view_is) record {
      deeds = refl;
      region = region-kept was.id was.opening (kept was.slots.entries was.vector.ids was.floor was.clock was.joined was.to was.heard
          was.queries.entries)
          (reverse was.history.deeds) c.self.invariant.0
          c.in_ok-region.ensures.ordered c.in_ok-region.region c.in_ok-region.ensures.rows c.in_ok-region.ensures.tombstones
          c.in_ok-region.ensures.floor c.in_ok-region.ensures.vector;
    }
