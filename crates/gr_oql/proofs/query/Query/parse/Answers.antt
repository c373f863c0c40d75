use Rattle.gr_oql.proofs.Exact.{only, only_fault}
use Rattle.gr_oql.proofs.query.Query.parse.Goals as goal

pub returns-clause-only : goal.returns-clause-only
returns-clause-only c = only c.args.text.now c.tokens-lexed.result c.asked.result c.asked.ensures c.tokens-lexed.ensures.only

pub returns-clause-only_fault : goal.returns-clause-only_fault
returns-clause-only_fault c = only_fault c.args.text.now c.tokens-lexed.result c.asked.result c.asked.ensures c.tokens-lexed.ensures.only
    c.tokens-lexed.ensures.only_fault
