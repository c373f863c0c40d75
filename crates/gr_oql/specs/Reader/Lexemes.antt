-- The terminal that a lexeme is.
use Rattle.std.specs.Prelude.{List, map}
use Rattle.gr_oql.specs.declared.lexeme.Lexeme.{Lexeme}
use Rattle.gr_oql.specs.declared.lexeme.Lexeme.TheVariants as lexeme
use Rattle.gr_oql.specs.Terminals.{Terminal, keyword, name, number, quoted, symbol, undoubled}

abbrev pub terminal : Lexeme → Terminal
terminal (lexeme.Keyword k w) = keyword k w.now
terminal (lexeme.Name w) = name w.now
terminal (lexeme.Number n) = number n
terminal (lexeme.Quoted text) = quoted (undoubled text.now)
terminal (lexeme.Symbol s) = symbol s

abbrev pub terminals : List Lexeme → List Terminal
terminals lexemes = map terminal lexemes
