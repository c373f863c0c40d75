-- The names among a query's tokens.
use Rattle.std.specs.Prelude.{ℕ, List, IsTrue, IfSome, All}
use Rattle.std.specs.List.{list_all}
use Rattle.gr_lex.specs.Bytes.{is_word_byte}
use Rattle.gr_oql.specs.Terminals.{Terminal, as_name}

abbrev pub HasWordBytes : List ℕ → Type 0
HasWordBytes name = IsTrue (list_all is_word_byte name)

-- Each name is made of the bytes that a word has.
abbrev pub AreNamed : List Terminal → Type 0
AreNamed ts = All (λ t. IfSome (as_name t) HasWordBytes) ts
