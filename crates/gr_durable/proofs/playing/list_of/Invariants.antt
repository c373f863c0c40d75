use Rattle.std.proofs.Common.{◌≡◌, map}
use Rattle.gr_history.specs.Queries.{row_of}
use Rattle.gr_durable.proofs.playing.list_of.Given as goal

abbrev pub invariant-loop-key : goal.invariant-loop-key
invariant-loop-key l = l.list ≡ map (λ entry. row_of entry.0.now entry.1.now) l.yielded
