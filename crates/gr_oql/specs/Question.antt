-- What a query is and what it asks, without where it lies in memory.
use Rattle.std.specs.Prelude.{ℕ, List, Option, refl}
use Rattle.std.specs.Coded.{Coded, code_by, coded×, coded_option, coded_list, coded_ℕ}
use Rattle.gr_oql.specs.Tree.{Tree}
use Rattle.gr_oql.specs.Code.{tree_code}

pub record Asked : Type 0 where
  -- with the slash before it
  pub region : List ℕ
  pub alias : Option (List ℕ)
  -- absent where the query holds of every value
  pub condition : Option Tree

pub record Question : Type 0 where
  pub text : List ℕ
  pub asked : Asked

abbrev texts_code : Coded (List ℕ × List ℕ)
texts_code = coded× (coded_list coded_ℕ) (coded_list coded_ℕ)

abbrev options_code : Coded (Option (List ℕ) × Option Tree)
options_code = coded× (coded_option (coded_list coded_ℕ)) (coded_option tree_code)

abbrev Parts : Type 0
Parts = (List ℕ × List ℕ) × (Option (List ℕ) × Option Tree)

abbrev pub question_code : Coded Question
question_code = code_by Parts (coded× texts_code options_code) (λ q. ((q.text, q.asked.region), (q.asked.alias, q.asked.condition)))
    (λ p. record { text = p.0.0; asked = record { region = p.0.1; alias = p.1.0; condition = p.1.1 } }) (λ _. refl)
