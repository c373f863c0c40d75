-- The inbox of one that takes mails.
use Rattle.gr_post.specs.Passes.{Ring, Taking}

abbrev pub ring_of : Taking → Ring
ring_of taker = record { table = taker.table; capacity = 16 }
