use Rattle.std.proofs.Common.{rules, ap, sym, ◌∙◌}
use Rattle.gr_turn.specs.Views.{Seated}
use Rattle.gr_turn.proofs.Ending.{looks_as}
use Rattle.gr_turn.proofs.Joining.{joins, joined_idle, same_idle}
use Rattle.gr_turn.proofs.lock.TurnLock.join.Goals as goal

pub join_seat-requires : goal.join_seat-requires
join_seat-requires g c =
    let H : Type 0 = Seated g.row.T-Entry.Denot g.row.T-Base.Denot in
    let t = c.into_token-token in
    let i = c.into.invariant in
    let j = t.ensures.idle in
    let m = c.into.inside.token in (
      ap (λ (h : H). h.lock) c.into.view_is ∙ c.requires.lock.0 ∙ sym c.self.view_is,
      t.ensures.same.0 ∙ c.requires.lock.1
          ∙ sym c.self.view_is,
      j.0,
      search rules,
      joins g.T.Kept.entries g.T.Kept.base m.id m.me.0 t.result.id t.result.me.0 i.1 i.2 i.3 i.4 j.1 j.2,
    )

pub load-requires : goal.load-requires
load-requires g c =
    let H : Type 0 = Seated g.row.T-Entry.Denot g.row.T-Base.Denot in
    let e = c.join_seat.ensures in
    let m = c.into.inside.token in
    let i = joined_idle g.T.Kept.entries g.T.Kept.base m.me c.into_token-token.result.me c.join_seat.new.seat.me c.into.invariant e.2 in (
      e.0 ∙ ap (λ (h : H). h.lock) c.into.view_is ∙ c.requires.lock.0
          ∙ sym c.self.view_is,
      search rules,
      rw c.self.invariant.1 (looks_as g.T.Kept.entries g.T.Kept.base c.join_seat.new.seat.id c.join_seat.new.seat.me i.0 i.1),
    )

pub invariant_of-into : goal.invariant_of-into
invariant_of-into g c =
    let i = joined_idle g.T.Kept.entries g.T.Kept.base c.into.inside.token.me c.into_token-token.result.me c.join_seat.new.seat.me
    c.into.invariant c.join_seat.ensures.2 in
    same_idle g.T.Kept.entries g.T.Kept.base c.join_seat.new.seat.me c.load.new.seat.me i c.load.ensures.2.0 c.load.ensures.2.1
