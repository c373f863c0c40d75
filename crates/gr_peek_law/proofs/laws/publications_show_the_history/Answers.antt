use Rattle.gr_peek_law.proofs.Shown as shown
use Rattle.gr_peek_law.proofs.laws.publications_show_the_history.Goals as goal

pub returns : goal.returns
returns c = record { count = shown.count; grows = shown.grows; whole = shown.whole; place = shown.place; shows = shown.shows }
