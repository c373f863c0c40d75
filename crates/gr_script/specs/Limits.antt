-- How many there may be in a script. The greatest floor is the greatest version of an entry.
use Rattle.std.specs.Prelude.{ℕ}

-- ---- what the heading says

abbrev pub most_members : ℕ
most_members = 8

abbrev pub most_shards : ℕ
most_shards = 32

abbrev pub most_inbox : ℕ
most_inbox = 4096

abbrev pub most_trouble : ℕ
most_trouble = 2147483646

abbrev pub most_clients : ℕ
most_clients = 64

-- ---- lines

abbrev pub most_lines : ℕ
most_lines = 200000

abbrev pub most_reports : ℕ
most_reports = 200

abbrev pub most_hears : ℕ
most_hears = 1400

abbrev pub most_sweeps : ℕ
most_sweeps = 10000

-- the greatest moment of a sweep
abbrev pub most_moment : ℕ
most_moment = 4294967295

abbrev pub most_opens : ℕ
most_opens = 16

-- the most steps on queries, openings among them
abbrev pub most_queries : ℕ
most_queries = 10000
