-- What a text asks, or its first fault, as one answer of the text alone. It is what the grammar and the first fault by
-- it say: that is a law, `texts_ask_by_the_grammar`.
use Rattle.std.specs.Prelude.{ℕ, List, Result}
use Rattle.gr_lex.specs.Reader.Reading.{tokens_of}
use Rattle.gr_oql.specs.declared.fault.OqlFault.{OqlFault}
use Rattle.gr_oql.specs.Question.{Question}
use Rattle.gr_oql.specs.Reader.Answers.{answer_of_tokens}

abbrev pub question_of : List ℕ → Result Question OqlFault
question_of text = answer_of_tokens text (tokens_of text)
