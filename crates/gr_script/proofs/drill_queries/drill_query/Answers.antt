use Rattle.gr_script.proofs.DrillQuery.{region_read}
use Rattle.gr_script.proofs.drill_queries.drill_query.Goals as goal

pub returns-in-Ok-clause-region : goal.returns-in-Ok-clause-region
returns-in-Ok-clause-region c = region_read c.in-Ok.query c.in-Ok.ensures.only
