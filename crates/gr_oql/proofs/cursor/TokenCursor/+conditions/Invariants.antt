use Rattle.std.proofs.Common.{◌*◌, ◌+◌, length, map}
use Rattle.gr_oql.specs.Reader.Gives.{alias_of}
use Rattle.gr_oql.specs.declared.keyword.Keyword.TheVariants as word
use Rattle.gr_oql.specs.Terminals.{is_keyword}
use Rattle.gr_oql.specs.View.{tree_of}
use Rattle.gr_oql.specs.Reader.Reading.{all_at, part_at}
use Rattle.gr_oql.proofs.Rows.{SoFar}
use Rattle.gr_oql.proofs.cursor.TokenCursor.+conditions.Given as goal

abbrev pub decreases-part : goal.decreases-part
decreases-part l = 4 * l.depth

abbrev pub decreases-bracket : goal.decreases-bracket
decreases-bracket l = 4 * l.depth + 3

abbrev pub decreases-any : goal.decreases-any
decreases-any l = 4 * l.depth + 2

abbrev pub decreases-all : goal.decreases-all
decreases-all l = 4 * l.depth + 1

abbrev pub invariant-all-parts : goal.invariant-all-parts
invariant-all-parts l = SoFar (is_keyword word.And) (part_at (alias_of l.alias) l.depth) l.fn.self (map tree_of l.parts.items) l.self

abbrev pub decreases-all-parts : goal.decreases-all-parts
decreases-all-parts l = length l.self

abbrev pub invariant-any-parts : goal.invariant-any-parts
invariant-any-parts l = SoFar (is_keyword word.Or) (all_at (part_at (alias_of l.alias) l.depth)) l.fn.self
    (map tree_of l.parts.items) l.self

abbrev pub decreases-any-parts : goal.decreases-any-parts
decreases-any-parts l = length l.self
