use Rattle.std.proofs.Common.{◌≡◌, take, flat_map}
use Rattle.gr_report.specs.Queries.{opened_rows}
use Rattle.gr_report.specs.Rows.{by_key}
use Rattle.gr_report.specs.Shown.{shown}
use Rattle.gr_report.proofs.queries.gather_replies.Given as goal

abbrev pub invariant-loop-reply : goal.invariant-loop-reply
invariant-loop-reply l = shown l.rows.entries ≡ by_key (λ row. row.key) (flat_map opened_rows (take l.reply-index l.replies))
