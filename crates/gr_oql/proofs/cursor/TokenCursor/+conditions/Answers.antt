use Rattle.std.proofs.lemmas.Result.{err_from_is_err_and}
use Rattle.gr_oql.specs.Reader.Gives.{alias_of}
use Rattle.gr_oql.specs.declared.keyword.Keyword.TheVariants as word
use Rattle.gr_oql.specs.Tree.{any, all}
use Rattle.gr_oql.specs.declared.condition.Condition.{All, Any}
use Rattle.gr_oql.specs.View.{tree_of, in_order}
use Rattle.gr_oql.specs.Terminals.{is_keyword}
use Rattle.gr_oql.specs.Reader.Reading.{part_at, all_at}
use Rattle.gr_oql.proofs.Rows.{begun, row_grows, row_stops, row_ends}
use Rattle.gr_oql.proofs.Trees.{tree_of-All, tree_of-Any, pushed, first_pushed}
use Rattle.gr_oql.proofs.cursor.TokenCursor.+conditions.Goals as goal

pub all-parts-init : goal.all-parts-init
all-parts-init t c =
    begun (is_keyword word.And) (part_at (alias_of c.args.alias) c.args.depth) _ _
    (tree_of c.in_ok-first.first) _ c.in_ok-first.ensures.exact c.in_ok-first.ensures.within
    (first_pushed _ _ c.in_ok-first.first c.new-parts.ensures.items c.in_ok-push.ensures.items)

pub all-returns-in_err-next : goal.all-returns-in_err-next
all-returns-in_err-next t c =
    let p = err_from_is_err_and c.from_residual-in_err-next.result c.from_residual-in_err-next.ensures.1 in
    rw (p.1, p.2) (row_stops (is_keyword word.And) (part_at (alias_of c.args.alias) c.args.depth) tree_of _ c.parts.self _ _
    tree_of (λ parts. all (in_order parts)) _ _ c.parts.invariant c.parts-test.ensures c.in_err-next.ensures)

pub all-parts-preserved : goal.all-parts-preserved
all-parts-preserved t c =
    row_grows (is_keyword word.And) (part_at (alias_of c.args.alias) c.args.depth) tree_of _ c.parts.self _ _ _ c.in_ok-next.next _
    c.parts.invariant c.parts-test.ensures c.in_ok-next.ensures (pushed _ _ c.in_ok-next.next c.in_ok-push-2.ensures.items)

pub all-returns : goal.all-returns
all-returns t c =
    row_ends (is_keyword word.And) (part_at (alias_of c.args.alias) c.args.depth) tree_of (λ parts. all (in_order parts)) _ c.parts.self _ _
    (All c.parts.parts) c.parts.invariant c.parts-test.ensures (tree_of-All c.parts.parts)

pub any-returns-in_err-next : goal.any-returns-in_err-next
any-returns-in_err-next t c =
    let p = err_from_is_err_and c.from_residual-in_err-next.result c.from_residual-in_err-next.ensures.1 in
    rw (p.1, p.2) (row_stops (is_keyword word.Or) (all_at (part_at (alias_of c.args.alias) c.args.depth)) tree_of _ c.parts.self _ _
    tree_of (λ parts. any (in_order parts)) _ _ c.parts.invariant c.parts-test.ensures c.in_err-next.ensures)

pub any-parts-preserved : goal.any-parts-preserved
any-parts-preserved t c =
    row_grows (is_keyword word.Or) (all_at (part_at (alias_of c.args.alias) c.args.depth)) tree_of _ c.parts.self _ _ _ c.in_ok-next.next _
    c.parts.invariant c.parts-test.ensures c.in_ok-next.ensures (pushed _ _ c.in_ok-next.next c.in_ok-push-2.ensures.items)

pub any-returns : goal.any-returns
any-returns t c =
    row_ends (is_keyword word.Or) (all_at (part_at (alias_of c.args.alias) c.args.depth)) tree_of
    (λ parts. any (in_order parts)) _ c.parts.self _ _
    (Any c.parts.parts) c.parts.invariant c.parts-test.ensures (tree_of-Any c.parts.parts)
