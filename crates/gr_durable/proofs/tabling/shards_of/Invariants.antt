use Rattle.std.proofs.Common.{◌≡◌, drop}
use Rattle.gr_durable.specs.Tables.{shards_of}
use Rattle.gr_durable.proofs.tabling.shards_of.Given as goal

abbrev pub invariant-loop-one : goal.invariant-loop-one
invariant-loop-one l = shards_of l.member (drop l.one-index l.members) ≡ shards_of l.member l.members
