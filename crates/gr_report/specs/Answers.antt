-- The text of what the clients were told.
use Rattle.std.specs.Prelude.{ℕ, List, ◌++◌, codes, decimal, Option, Some, None}
use Rattle.gr_value.specs.declared.value.Field.{Field}
use Rattle.gr_value.specs.ValueText.{value_text}
use Rattle.gr_history.specs.declared.reply.Reply.{Reply}
use Rattle.gr_history.specs.declared.reply.Reply.TheVariants.{Null, Value, Done, Yes, No, NotFound, NotReady, Limit}
use Rattle.gr_history.specs.declared.record.Answer.{Answer}
use Rattle.gr_history.specs.declared.record.Answer.TheVariants as answer
use Rattle.gr_history.specs.declared.record.ClientRecord.{ClientRecord}
use Rattle.gr_report.specs.Queries.{replies_text}
use Rattle.gr_report.specs.Texts.{texts_from}

abbrev pub reply_text : Reply → List ℕ
reply_text Null = codes "null"
reply_text (Value value) = value_text value
reply_text Done = codes "done"
reply_text Yes = codes "true"
reply_text No = codes "false"
reply_text NotFound = codes "not-found"
reply_text NotReady = codes "not-ready"
reply_text Limit = codes "limit"

-- what was seen, and the place at which it was
abbrev pub peeked_text : Option (List Field) → ℕ → List ℕ
peeked_text None at = codes "null" ++ codes " @" ++ decimal at
peeked_text (Some value) at = value_text value ++ codes " @" ++ decimal at

abbrev pub answer_text : Answer → List ℕ
answer_text (answer.Reply reply) = reply_text reply
answer_text (answer.Peeked value at) = peeked_text value at
answer_text (answer.Asked replies) = replies_text replies

-- the line of one answer, with its client and the number of its step
unfoldable pub answer_line : ℕ → ℕ → Answer → List ℕ
answer_line client seq told = decimal client ++ codes "." ++ decimal seq ++ codes " " ++ answer_text told ++ codes "\n"

-- Steps are numbered from 1.
abbrev pub client_text : ClientRecord → List ℕ
client_text client_record = texts_from (answer_line client_record.client) 1 client_record.answers
