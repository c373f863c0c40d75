use Rattle.std.proofs.Common.{◌≡◌, ◌++◌, take, flat_map}
use Rattle.gr_report.specs.Queries.{event_text}
use Rattle.gr_ask.specs.Told.{events_among}
use Rattle.gr_ask.proofs.telling.put_told.Given as goal

abbrev pub invariant-loop-told : goal.invariant-loop-told
invariant-loop-told l = l.out.items ≡ l.initial.out.items ++ flat_map event_text (events_among l.seq (take l.told-index l.shards))
