use Rattle.std.proofs.Common.{◌≡◌, ◌+◌, [], ◌∷◌, List, ℕ, suc, Option, Some, length, slice_get, ap, sym, ◌∙◌, subst, arith, length-append}
use Rattle.atomic_table.specs.Table.{Me}
use Rattle.gr_turn.specs.declared.view.View.{View}
use Rattle.gr_turn.specs.Views.{root_view, seat_view, deal_left, deal_right}
use Rattle.gr_turn.proofs.Counts.{each_snoc}
use Rattle.gr_turn.proofs.lock.TurnLock.new.Goals as goal

pub loop-k-preserved : goal.loop-k-preserved
loop-k-preserved g c =
    let V : Type 0 = View g.row.T-Entry.Denot g.row.T-Base.Denot in
    let i = c.loop-k.invariant in
    let d = c.deal.ensures in
    let p = c.push_reserved.ensures in
    let b = g.T.Kept.base c.args.value in
    let l = g.T.Kept.entries c.args.value in
    let k = c.loop-k._k in
    let next : suc k ≡ k + 1 = omega arith in
    let was = ap (λ (m : Me (Option g.row.T.Denot) V). m.0) i.1 in (
      d.lock.0 ∙ i.0,
      d.root ∙ ap (λ (v : V). let m : Me (Option g.row.T.Denot) V = (deal_left v, []) in m) was
          ∙ ap (λ (n : ℕ). let m : Me (Option g.row.T.Denot) V = (root_view b c.args.seats l n, []) in m) next,
      ap length p.items ∙ (let e = length-append c.loop-k.items.items (c.deal.result ∷ []) in let f = i.2 in omega arith),
      rw p.capacity i.3,
      λ j seat at. each_snoc (λ j' (s : _). (s.lock ≡ c.in-Ok-vacant.table.shared.table_id)
          × (s.view ≡ seat_view b c.args.seats l j')) c.loop-k.items.items c.deal.result i.4 (
            d.lock.1 ∙ i.0,
            d.seat ∙ ap deal_right was
                ∙ ap (seat_view b c.args.seats l) (sym i.2),
          ) j seat (subst (λ (xs : List _). slice_get xs j ≡ Some seat) p.items at),
    )
