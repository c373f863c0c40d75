use Rattle.std.proofs.Common.{◌≡◌, take}
use Rattle.gr_oql.specs.Reader.Lexemes.{terminals}
use Rattle.gr_oql.specs.Terminals.{terminals_of}
use Rattle.gr_oql.proofs.lexeme.lexemes.Given as goal

abbrev pub invariant-loop-token : goal.invariant-loop-token
invariant-loop-token l = terminals l.found.items ≡ terminals_of l.text (take l.token-index l.tokens)
