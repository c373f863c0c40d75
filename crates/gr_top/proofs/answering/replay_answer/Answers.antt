use Rattle.gr_top.specs.declared.words.Mode.TheVariants as mode
use Rattle.gr_top.specs.declared.words.Request.TheVariants as request
use Rattle.gr_top.proofs.answering.replay_answer.Goals as goal

pub returns-clause-explained : goal.returns-clause-explained
returns-clause-explained g c = c.report_outcome.ensures.explained (request.Alone (mode.Replay c.args.detail)) _ (c.replay_record-played.ensures c.args.detail)
