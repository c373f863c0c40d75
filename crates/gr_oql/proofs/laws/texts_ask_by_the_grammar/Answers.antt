use Rattle.gr_oql.proofs.Asking.{spelled, only, stops, only_fault}
use Rattle.gr_oql.proofs.laws.texts_ask_by_the_grammar.Goals as goal

pub returns : goal.returns
returns c = record { spelled = spelled; only = only; stops = stops; only_fault = only_fault }
