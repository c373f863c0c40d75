use Rattle.gr_oql.proofs.Names.{region_is_key}
use Rattle.gr_oql.proofs.cursor.TokenCursor.region.Goals as goal

pub region_key-requires : goal.region_key-requires
region_key-requires c = region_is_key c.in-Some.name.now c.if-name-le-MOST_REGION_BYTES.true c.in-Some.ensures.named
