use Rattle.gr_top.specs.declared.words.Request.TheVariants as request
use Rattle.gr_top.proofs.running.run_answer.Goals as goal

pub returns-clause-explained : goal.returns-clause-explained
returns-clause-explained g c = c.report_outcome.ensures.explained (request.Run c.args.detail) _ (c.run_record-played.ensures c.args.detail)
