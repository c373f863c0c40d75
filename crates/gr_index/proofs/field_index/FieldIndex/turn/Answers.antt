use Rattle.std.proofs.Common.{◌≡◌, ◌∙◌, sym, ap, subst, option_copied, rules}
use Rattle.gr_index.specs.Cells.{cell_of, left_behind}
use Rattle.gr_index.specs.Index.{scalar_in, IsIndexOf}
use Rattle.gr_index.proofs.Turning.{turned_index}
use Rattle.gr_index.proofs.field_index.FieldIndex.turn.Goals as goal

pub returns-clause-index : goal.returns-clause-index
returns-clause-index c map index stood one key =
    let old : option_copied c.scalar_in-old.result ≡ scalar_in c.self.inside.field c.args.turned.now.old = search rules in
    let new : option_copied c.scalar_in-new.result ≡ scalar_in c.self.inside.field c.args.turned.now.new = search rules in
    let come : c.in_ok-come.come ≡ cell_of c.args.turned.now.key (scalar_in c.self.inside.field c.args.turned.now.new) =
    c.in_ok-come.ensures ∙ ap (cell_of c.args.turned.now.key) new in
    let gone : c.in_ok-gone.gone
    ≡ cell_of c.args.turned.now.key (left_behind (scalar_in c.self.inside.field c.args.turned.now.old) (scalar_in c.self.inside.field c.args.turned.now.new)) =
    c.in_ok-gone.ensures ∙ ap (cell_of c.args.turned.now.key) (c.left_behind.ensures
    ∙ ap (λ s. left_behind s (option_copied c.scalar_in-new.result)) old ∙ ap (left_behind (scalar_in c.self.inside.field c.args.turned.now.old)) new) in
    turned_index c.self.inside.field map c.args.turned.now c.self.inside.cells.keys c.add.new.cells.keys c.take.new.cells.keys
    c.in_ok-come.come c.in_ok-gone.gone come gone c.in_ok-add.ensures.ok c.take.ensures
    (subst (IsIndexOf map) (sym c.self.view_is) index) stood one key
