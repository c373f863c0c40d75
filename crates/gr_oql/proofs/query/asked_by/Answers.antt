use Rattle.std.proofs.Common.{sym, ap, ◌∙◌}
use Rattle.gr_oql.specs.Reader.Lexemes.{terminals}
use Rattle.gr_oql.specs.Reader.Reading.{query_at}
use Rattle.gr_oql.proofs.Names.{tokens_named}
use Rattle.gr_oql.proofs.Exact.{clauses_spelled}
use Rattle.gr_oql.proofs.query.asked_by.Goals as goal

pub new-cursor-requires : goal.new-cursor-requires
new-cursor-requires c = rw (c.deref.ensures.value, c.in_ok-lexemes.ensures)
    (tokens_named c.args.text.now c.args.tokens.now c.requires.each)

pub query_of-requires : goal.query_of-requires
query_of-requires c =
    let all = c.new-cursor.ensures ∙ ap terminals c.deref.ensures.value ∙ c.in_ok-lexemes.ensures in
    clauses_spelled c.args.text.now c.args.tokens.now c.in-Ok.clauses c.query.new.self c.requires.laid_out (ap query_at (sym all)
    ∙ c.in-Ok.ensures.exact)
