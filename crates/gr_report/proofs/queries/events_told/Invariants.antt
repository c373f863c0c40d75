use Rattle.std.proofs.Common.{◌≡◌, ◌*◌, ◌≤◌, ◌^◌, take}
use Rattle.gr_report.specs.Queries.{events_told}
use Rattle.gr_report.proofs.queries.events_told.Given as goal

abbrev pub invariant-loop-reply : goal.invariant-loop-reply
invariant-loop-reply l = record {
  counted : l.total ≡ events_told (take l.reply-index l.replies);
  most : l.total ≤ l.reply-index * 2 ^ 64;
}
