use Rattle.gr_lex.proofs.Cuts.{start_boundary, end_boundary}
use Rattle.gr_lex.proofs.token.Token.text.Goals as goal

pub range-requires-clause-start_boundary : goal.range-requires-clause-start_boundary
range-requires-clause-start_boundary c = λ _. start_boundary c.args.text.now c.args.self.now c.requires

pub range-requires-clause-end_boundary : goal.range-requires-clause-end_boundary
range-requires-clause-end_boundary c = end_boundary c.args.text.now c.args.self.now c.requires c.utf8.text
