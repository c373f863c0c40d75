use Rattle.std.proofs.Common.{sym, arith}
use Rattle.std.proofs.lemmas.Result.{err_from_is_err_and}
use Rattle.gr_lex.specs.declared.token.Symbol.TheVariants as symbols
use Rattle.gr_oql.specs.Terminals.{is_symbol}
use Rattle.gr_oql.specs.Reader.Reading.{literal_at}
use Rattle.gr_oql.proofs.Rows.{stepped, finished, stops_within}
use Rattle.gr_oql.proofs.cursor.TokenCursor.literals.Goals as goal

pub returns-in_err-next : goal.returns-in_err-next
returns-in_err-next c =
    let p = err_from_is_err_and c.from_residual-in_err-next.result c.from_residual-in_err-next.ensures.1 in
    record {
      exact = rw (p.1, p.2) (stops_within (is_symbol symbols.Comma) literal_at _ c.items.self _ _ c.items.found _ c.items.invariant
          (sym c.items-test.ensures.test) c.items-test.ensures.after c.in_err-next.ensures.exact);
      within = omega (arith, c.items.invariant.within, c.items-test.ensures.within, c.in_err-next.ensures.within);
    }

pub items-preserved : goal.items-preserved
items-preserved c =
    stepped (is_symbol symbols.Comma) literal_at _ c.items.self _ _ c.in_ok-next.next c.items.found _ c.items.invariant
    (sym c.items-test.ensures.test) c.items-test.ensures.after c.in_ok-next.ensures.exact c.in_ok-next.ensures.within
    c.in_ok-push-2.ensures.ok

pub returns : goal.returns
returns c = record {
  exact = rw c.items-test.ensures.after
      (finished (is_symbol symbols.Comma) literal_at _ c.items.self c.items.found c.items.invariant (sym c.items-test.ensures.test));
  within = omega (arith, c.items.invariant.within, c.items-test.ensures.within);
}
