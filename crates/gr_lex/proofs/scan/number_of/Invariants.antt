use Rattle.std.proofs.Common.{◌≡◌, ◌≤◌, take}
use Rattle.gr_lex.specs.Bytes.{number_of, greatest_number}
use Rattle.gr_lex.proofs.scan.number_of.Given as goal

abbrev pub invariant-loop-byte : goal.invariant-loop-byte
invariant-loop-byte l = record { so_far : l.number ≡ number_of (take l.byte-index l.digits); not_large : l.number ≤ greatest_number }
