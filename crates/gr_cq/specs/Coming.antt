-- What a call that is coming refuses, and the queries after it.
use Rattle.std.specs.Prelude.{List, Option, None}
use Rattle.gr_cq.specs.declared.coming.Coming.{Coming}
use Rattle.gr_cq.specs.declared.coming.Coming.TheVariants.{Enrol, Take, Note}
use Rattle.gr_cq.specs.declared.query_end.QueryEnd.{QueryEnd}
use Rattle.gr_cq.specs.Ends.{enrol_end, known_end}
use Rattle.gr_cq.specs.Entries.{Entry, find, changed_at, kept_taken, enrolled, noted}

abbrev pub coming_end : Coming → List Entry → Option QueryEnd
coming_end (Enrol client name query) entries = enrol_end (find client name.now entries)
coming_end (Take client name) entries = known_end (find client name.now entries)
coming_end (Note turned) entries = None

abbrev pub entries_after : Coming → List Entry → List Entry
entries_after (Enrol client name query) entries = enrolled client name.now query.now entries
entries_after (Take client name) entries = changed_at client name.now kept_taken entries
entries_after (Note turned) entries = noted turned.now entries
