use Rattle.std.proofs.Common.{◌≡◌, drop}
use Rattle.gr_law.specs.QueryMaps.{followed}
use Rattle.gr_durable.proofs.playing.follow.Given as goal

abbrev pub invariant-loop-event : goal.invariant-loop-event
invariant-loop-event l = followed l.rows (drop l.event-index l.events) ≡ followed l.initial.rows l.events
