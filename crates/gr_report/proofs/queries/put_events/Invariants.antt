use Rattle.std.proofs.Common.{◌≡◌, ◌++◌, take, flat_map}
use Rattle.gr_report.specs.Queries.{fetched_events, event_text}
use Rattle.gr_report.proofs.queries.put_events.Given as goal

abbrev pub invariant-loop-reply : goal.invariant-loop-reply
invariant-loop-reply l =
    l.out.items ≡ l.initial.out.items ++ flat_map event_text (flat_map fetched_events (take l.reply-index l.replies))
