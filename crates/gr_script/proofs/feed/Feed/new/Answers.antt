use Rattle.std.proofs.Common.{arith}
use Rattle.gr_script.proofs.LineCounts.{lines_counted}
use Rattle.gr_script.proofs.feed.Feed.new.Goals as goal

pub new-requires : goal.new-requires
new-requires c = omega (arith, lines_counted c.args.bytes.now, c.line_count-lines.ensures, c.if-lines-gt-MOST_LINES.false)
