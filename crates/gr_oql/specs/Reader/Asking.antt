-- What a query asks, without where it lies in memory.
use Rattle.std.specs.Prelude.{ℕ, List, option_map}
use Rattle.gr_oql.specs.declared.clauses.Clauses.{Clauses}
use Rattle.gr_oql.specs.Question.{Asked, Question}
use Rattle.gr_oql.specs.View.{tree_of}

abbrev pub asked : Clauses → Asked
asked c = record { region = c.region; alias = c.alias; condition = option_map tree_of c.condition }

-- the same, with the text in which it is asked
abbrev pub question : List ℕ → Clauses → Question
question text c = record { text = text; asked = asked c }
