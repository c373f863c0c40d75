use Rattle.std.proofs.Common.{◌≡◌, ◌++◌, length, string_bytes}
use denote.Text.{Utf8}
use denote.Shadow.{shadow}
use Rattle.gr_oql.specs.Terminals.{undoubled}
use Rattle.gr_oql.proofs.terms.unquoted.Given as goal

abbrev pub invariant-loop-before : goal.invariant-loop-before
invariant-loop-before l = shadow (Utf8 l.left) × (string_bytes l.text ++ undoubled l.left ≡ undoubled l.inside)

abbrev pub decreases-loop-before : goal.decreases-loop-before
decreases-loop-before l = length l.left
