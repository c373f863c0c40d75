use Rattle.std.proofs.Common.{◌≡◌, take, flat_map}
use Rattle.gr_durable.specs.Tables.{rows_named}
use Rattle.gr_durable.proofs.gathered.rows_over.Given as goal

abbrev pub invariant-loop-held : goal.invariant-loop-held
invariant-loop-held l = l.rows.items ≡ flat_map (rows_named l.name) (take l.held-index l.all)
