use Rattle.std.proofs.Common.{◌≡◌, Some, sym, ◌∙◌, ap, subst, length}
use mathlib.Core.Option.{some}
use Rattle.gr_turn.specs.declared.view.View.{View}
use Rattle.gr_turn.specs.Views.{HasAll, MadeAll}
use Rattle.gr_turn.proofs.Ending.{ended, all_home}
use Rattle.gr_turn.proofs.lock.TurnLock.end_with.Goals as goal
use Rattle.gr_value.specs.Lists.{StartsWith}

facts : (g : _) (c : goal.In-Some g) → (c.args.seat.view.base ≡ Some (g.T.Kept.base c.in-Some.value))
    × StartsWith (g.T.Kept.entries c.in-Some.value) c.args.seat.view.seen
    × MadeAll c.args.seat.view (length (g.T.Kept.entries c.in-Some.value))
facts g c =
    let V : Type 0 = View g.row.T-Entry.Denot g.row.T-Base.Denot in
    let x = c.in-Some.value in
    let t = c.into_token-token in
    let P : V → Type 0 = λ v. (v.base ≡ Some (g.T.Kept.base x)) × StartsWith (g.T.Kept.entries x) v.seen
    × MadeAll v (length (g.T.Kept.entries x)) in
    subst P (λ i. (t.ensures.same.1 i).0)
    (ended g.T.Kept.entries g.T.Kept.base t.result.id t.result.me.0 _ _ c.word-word.result x c.close_with-closed.ensures.values.2
    t.ensures.idle.1 c.word-word.ensures c.if-word-eq1.false (c.take-value.ensures.value ∙ ap some c.in-Some.is))

pub returns-clause-base : goal.returns-clause-base
returns-clause-base g c = (facts g c).0

pub returns-clause-seen : goal.returns-clause-seen
returns-clause-seen g c = (facts g c).1

pub returns-clause-made : goal.returns-clause-made
returns-clause-made g c = (facts g c).2

pub returns-then-word-eq1-clause-home : goal.returns-then-word-eq1-clause-home
returns-then-word-eq1-clause-home g c all =
    let V : Type 0 = View g.row.T-Entry.Denot g.row.T-Base.Denot in
    let t = c.into_token-token in
    absurd (all_home g.T.Kept.entries g.T.Kept.base t.result.id t.result.me.0 _ _ c.word-word.result c.close_with-closed.ensures.values.2
    t.ensures.idle.1 t.ensures.idle.2
    (subst (λ (v : V). HasAll v) (λ i. sym (λ j. (t.ensures.same.1 j).0) i) all) c.word-word.ensures c.if-word-eq1.true)
