use Rattle.std.proofs.Common.{rules, ◌≡◌, ◌*◌, [], ◌∷◌, Option, Some, None, ap, sym, ◌∙◌, arith}
use Rattle.atomic_table.specs.Table.{Me, rest}
use Rattle.gr_turn.specs.declared.view.View.{View}
use Rattle.gr_turn.specs.Views.{fresh, claimed}
use Rattle.gr_turn.proofs.Opening.{claims_as, opens_as}
use Rattle.gr_turn.proofs.lock.TurnLock.open.Goals as goal

pub load-requires : goal.load-requires
load-requires g c = let r = c.args.root.now in (
  c.requires.lock ∙ sym c.self.view_is,
  search rules,
  rw c.self.invariant.1 (claims_as g.T.Kept.entries g.T.Kept.base r.id r.me.0.seats r.me c.requires.fresh),
)

pub swap-requires : goal.swap-requires
swap-requires g c =
    let r = c.args.root.now in
    let V : Type 0 = View g.row.T-Entry.Denot g.row.T-Base.Denot in
    let l = c.load.ensures in
    let e = c.exchange-old.ensures in
    let s = c.exchange-old.new.seat in
    let first : c.load.new.seat.me.0 ≡ claimed (fresh r.me.0.seats) = l.2.0
    ∙ ap (λ (m : Me (Option g.row.T.Denot) V). claimed m.0) c.requires.fresh in
    let second : c.load.new.seat.me.1 ≡ (0, None) ∷ [] = l.2.1 in
    let same : s.me ≡ (claimed (fresh r.me.0.seats), (0, Some c.args.value) ∷ []) = e.3
    ∙ (λ i. (first i, (0, Some c.args.value) ∷ rest (second i))) in (
      e.0 ∙ l.0 ∙ c.requires.lock ∙ sym c.self.view_is,
      search rules,
      rw c.self.invariant.1
          (opens_as g.T.Kept.entries g.T.Kept.base s.id r.me.0.seats c.args.value (2 * c.len-word.result) s.me same
          (let k = c.len-word.ensures in omega arith)),
    )
