use Rattle.std.proofs.Common.{length}
use Rattle.gr_lex.specs.declared.token.Symbol.TheVariants as symbols
use Rattle.gr_oql.specs.Terminals.{is_symbol}
use Rattle.gr_oql.specs.Reader.Reading.{literal_at}
use Rattle.gr_oql.proofs.Rows.{SoFar}
use Rattle.gr_oql.proofs.cursor.TokenCursor.literals.Given as goal

abbrev pub invariant-items : goal.invariant-items
invariant-items l = SoFar (is_symbol symbols.Comma) literal_at l.fn.self l.found l.self

abbrev pub decreases-items : goal.decreases-items
decreases-items l = length l.self
