-- What was asked, as the line of a script has it.
use Rattle.std.proofs.Common.{◌≡◌, ℕ, List, [], ◌∷◌, ◌++◌, codes, decimal, ap, sym, ◌∙◌, append_assoc, append-nil}
use Rattle.gr_value.specs.ValueText.{value_text}
use Rattle.gr_history.specs.declared.ask.Ask.{Ask}
use Rattle.gr_history.specs.declared.query_ask.QueryAsk.{QueryAsk}
use Rattle.gr_history.specs.declared.query_ask.QueryAsk.TheVariants as query
use Rattle.gr_script.specs.declared.line.Act.TheVariants.{Call, Query}
use Rattle.gr_script.specs.declared.line.Line.TheVariants.{Step}
use Rattle.gr_script.specs.declared.operation.Operation.TheVariants.{OfKey, OfValue, OfPair}
use Rattle.gr_script.specs.Operations.{Wording, WithKey, WithValue, WithPair, operation_word, wording}
use Rattle.gr_script.specs.Printed.{line_text, ask_text, query_ask_text, wording_saying, wording_text}
use Rattle.gr_script.specs.Printing.{saying_text}

-- what stands on a line behind the client's number
ended : (front rest : List ℕ) → (front ++ 0x20 ∷ rest) ++ 0x0A ∷ [] ≡ front ++ codes " " ++ rest ++ codes "\n"
ended front rest = ap (λ (text : List ℕ). text ++ 0x0A ∷ []) (sym (append_assoc front (codes " ") rest))

worded : (client : ℕ) (w : Wording) → saying_text (wording_saying client w) ++ 0x0A ∷ []
    ≡ decimal client ++ codes " " ++ wording_text w ++ codes "\n"
worded client (WithKey operation key) =
    ap (λ (k : List ℕ). (decimal client ++ 0x20 ∷ (operation_word (OfKey operation) ++ 0x20 ∷ k)) ++ 0x0A ∷ []) (append-nil key)
    ∙ ended (decimal client) (operation_word (OfKey operation) ++ 0x20 ∷ key)
worded client (WithValue operation key value) =
    ap (λ (v : List ℕ). (decimal client ++ 0x20 ∷ (operation_word (OfValue operation) ++ 0x20 ∷ (key ++ 0x20 ∷ v))) ++ 0x0A ∷ [])
    (append-nil (value_text value))
    ∙ ended (decimal client) (operation_word (OfValue operation) ++ 0x20 ∷ (key ++ 0x20 ∷ value_text value))
worded client (WithPair operation key old new) =
    ap (λ (v : List ℕ). (decimal client ++ 0x20 ∷ (operation_word (OfPair operation) ++ 0x20 ∷ (key ++ 0x20 ∷ (value_text old ++ 0x20 ∷ v))))
    ++ 0x0A ∷ []) (append-nil (value_text new))
    ∙ ended (decimal client) (operation_word (OfPair operation) ++ 0x20 ∷ (key ++ 0x20 ∷ (value_text old ++ 0x20 ∷ value_text new)))

pub call_line : (client seq : ℕ) (asked : Ask)
    → line_text (Step client seq (Call asked)) ≡ decimal client ++ codes " " ++ ask_text asked ++ codes "\n"
unfolding line_text
call_line client seq asked = worded client (wording asked)

named : (client : ℕ) (word name : List ℕ)
    → (decimal client ++ 0x20 ∷ (word ++ 0x20 ∷ (name ++ []))) ++ 0x0A ∷ [] ≡ decimal client ++ codes " " ++ (word ++ 0x20 ∷ name) ++ codes "\n"
named client word name =
    ap (λ (n : List ℕ). (decimal client ++ 0x20 ∷ (word ++ 0x20 ∷ n)) ++ 0x0A ∷ []) (append-nil name)
    ∙ ended (decimal client) (word ++ 0x20 ∷ name)

pub query_line : (client seq : ℕ) (asked : QueryAsk)
    → line_text (Step client seq (Query asked)) ≡ decimal client ++ codes " " ++ query_ask_text asked ++ codes "\n"
unfolding line_text
query_line client seq (query.Enrol name question) =
    ap (λ (q : List ℕ). (decimal client ++ 0x20 ∷ (codes "open" ++ 0x20 ∷ (name ++ 0x20 ∷ q))) ++ 0x0A ∷ []) (append-nil question.text)
    ∙ ended (decimal client) (codes "open" ++ 0x20 ∷ (name ++ 0x20 ∷ question.text))
query_line client seq (query.Stop name) = named client (codes "stop") name
query_line client seq (query.Close name) = named client (codes "close") name
query_line client seq (query.Fetch name) = named client (codes "fetch") name
