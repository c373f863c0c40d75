use Rattle.std.proofs.Common.{◌≡◌, drop}
use Rattle.gr_ask.specs.Wants.{shards_at}
use Rattle.gr_ask.proofs.wanted.shards_at.Given as goal

-- the shards are among those that are left
abbrev pub invariant-loop-one : goal.invariant-loop-one
invariant-loop-one l = shards_at l.member (drop l.one-index l.members) ≡ shards_at l.member l.members
