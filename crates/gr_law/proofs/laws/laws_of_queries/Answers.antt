use Rattle.gr_law.proofs.Queries.{keeps_up, law_queries-holds}
use Rattle.gr_law.proofs.laws.laws_of_queries.Goals as goal

pub returns-clause-one_history : goal.returns-clause-one_history
returns-clause-one_history c = keeps_up

pub returns-clause-all_histories : goal.returns-clause-all_histories
returns-clause-all_histories c = law_queries-holds
