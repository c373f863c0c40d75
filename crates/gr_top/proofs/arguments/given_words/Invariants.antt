-- The words so far are those of the arguments before the place.
use Rattle.std.proofs.Common.{map, string_bytes}
use Rattle.gr_top.proofs.Wording.{AreWordsBefore}
use Rattle.gr_top.proofs.arguments.given_words.Given as goal

abbrev pub invariant-loop-place : goal.invariant-loop-place
invariant-loop-place g l = AreWordsBefore (g.A.Arguments.list l.fn.arguments) l.place (map (λ word. string_bytes word) l.words.items)
