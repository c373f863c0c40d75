use Rattle.gr_lex.proofs.Cuts.{inside_start, inside_end, inside_is}
use Rattle.gr_lex.proofs.token.Token.inside.Goals as goal

pub range-requires-clause-start_boundary : goal.range-requires-clause-start_boundary
range-requires-clause-start_boundary c = λ _. inside_start c.args.text.now c.args.self.now c.requires.of c.utf8.text

pub range-requires-clause-end_boundary : goal.range-requires-clause-end_boundary
range-requires-clause-end_boundary c = inside_end c.args.text.now c.args.self.now c.requires.of

pub returns : goal.returns
returns c = inside_is c.args.text.now c.args.self.now c.requires.of _ c.requires.quoted c.range.ensures.value
