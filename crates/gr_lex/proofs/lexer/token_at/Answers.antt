use Rattle.gr_lex.proofs.Scans.{digits_pass}
use Rattle.gr_lex.proofs.lexer.token_at.Goals as goal

pub number_at-requires-clause-digits : goal.number_at-requires-clause-digits
number_at-requires-clause-digits c = digits_pass c.args.front.now _ c.digits_len.ensures.exact
