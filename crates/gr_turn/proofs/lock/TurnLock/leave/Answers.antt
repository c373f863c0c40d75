use Rattle.std.proofs.Common.{rules, ◌≡◌, ◌*◌, [], ◌∷◌, List, ℕ, Option, Some, ap, sym, ◌∙◌, subst, arith}
use Rattle.atomic_table.specs.Table.{Allows, Me, rest}
use Rattle.gr_turn.specs.declared.view.View.{View}
use Rattle.gr_turn.specs.Views.{left_by, Turned, found}
use Rattle.gr_turn.specs.Rule.{Holds, Released}
use Rattle.gr_turn.proofs.Releasing.{releases}
use Rattle.gr_turn.proofs.lock.TurnLock.leave.Goals as goal
use Rattle.gr_value.specs.Lists.{StartsWith}

pub swap-requires : goal.swap-requires
swap-requires g c =
    let t = c.turn.inside in
    let h = c.turn.invariant in
    let s = c.exchange-old.new.seat in
    let K : Type 0 = Turned g.row.T.Denot g.row.T-Entry.Denot g.row.T-Base.Denot in
    let V : Type 0 = View g.row.T-Entry.Denot g.row.T-Base.Denot in
    let base = subst (λ (k : K). k.view.base ≡ Some (g.T.Kept.base k.value)) (sym c.turn.view_is) c.requires.base in
    let list = subst (λ (k : K). StartsWith (g.T.Kept.entries k.value) (found k.view)) (sym c.turn.view_is) c.requires.list in
    let same : s.me ≡ (t.token.me.0, (0, Some t.value) ∷ []) = c.exchange-old.ensures.3
    ∙ ap (λ (l : List (ℕ × Option g.row.T.Denot)). (t.token.me.0, (0, Some t.value) ∷ rest l)) h.0 in (
      c.exchange-old.ensures.0 ∙ ap (λ (k : K). k.lock) c.turn.view_is ∙ c.requires.lock ∙ sym c.self.view_is,
      search rules,
      rw c.self.invariant.1
          (subst (λ (m : Me (Option g.row.T.Denot) V). Allows (Holds g.T.Kept.entries g.T.Kept.base) 1 s.id m 0
          (λ _. 2 * c.len-word.result) (Released g.T.Kept.entries g.T.Kept.base m)) (sym same)
          (releases g.T.Kept.entries g.T.Kept.base s.id t.token.me.0 t.value (2 * c.len-word.result) h.1 h.4 h.2 base list
          (let e = c.len-word.ensures in omega arith))),
    )

pub invariant_of-result : goal.invariant_of-result
invariant_of-result g c =
    let t = c.turn.inside in
    let h = c.turn.invariant in
    let s = c.exchange-old.new.seat in
    let V : Type 0 = View g.row.T-Entry.Denot g.row.T-Base.Denot in
    let now = g.T.Kept.entries t.value in
    let same : s.me ≡ (t.token.me.0, (0, Some t.value) ∷ []) = c.exchange-old.ensures.3
    ∙ ap (λ (l : List (ℕ × Option g.row.T.Denot)). (t.token.me.0, (0, Some t.value) ∷ rest l)) h.0 in
    let p = c.swap.ensures.2 t.value (ap (λ (m : Me (Option g.row.T.Denot) V). m.1) same) in
    let left : c.swap.new.seat.me.0 ≡ left_by t.token.me.0 now = p.0 ∙ ap (λ (m : Me (Option g.row.T.Denot) V). left_by m.0 now) same in (
      p.1,
      ap (λ (v : V). v.opened) left ∙ h.1,
      ap (λ (v : V). v.turn) left,
      ap (λ (v : V). v.next) left
          ∙ h.3,
      λ e. h.4 (sym (ap (λ (v : V). v.parts) left) ∙ e),
    )
