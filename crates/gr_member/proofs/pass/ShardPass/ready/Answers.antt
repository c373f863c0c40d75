use Rattle.std.proofs.Common.{refl, ap, ◌∙◌, subst}
use Rattle.std.specs.Prelude.{reverse}
use Rattle.gr_history.specs.declared.deed.Deed.{Deed}
use Rattle.gr_peek.specs.Views.{Note}
use Rattle.gr_peek_law.specs.Turns.{turned_each}
use Rattle.gr_turn.specs.Views.{Seated, with_lost}
use Rattle.gr_member.specs.declared.replica.Origin.{Origin}
use Rattle.gr_member.specs.Replicas.{Replicated, IsWatchOf}
use Rattle.gr_member.specs.Seats.{Place, placed, Looks}
use Rattle.gr_member.proofs.Turning.{turned_by, watch_is, place_is, put_back, there_again, same_list, turn_copy, turn_kept, turn_looks}
use Rattle.gr_member.proofs.pass.ShardPass.ready.Goals as goal

pub keep-requires : goal.keep-requires
keep-requires g c =
    let watch = watch_is c.self.inside.seat c.take.result c.in-Some.seat c.self.inside.watch c.in-Some.is c.take.ensures.value
    c.self.invariant in
    ap (λ (n : Note). n.copy) c.tell.ensures ∙ ap (λ (r : Replicated). r.origin.copy) c.value-2.ensures
    ∙ turn_copy c.in-Some.seat c.enter-turn.result.value c.enter-turn.result.value c.self.inside.watch c.enter-turn.ensures.base watch refl

pub invariant_of-self : goal.invariant_of-self
invariant_of-self g c =
    let turns = turned_by c.in-Some.seat c.leave.result c.enter-turn.result c.enter-turn.result.value c.enter-turn.ensures.lock
    c.enter-turn.ensures.won c.enter-turn.ensures.base c.enter-turn.ensures.seen c.leave.ensures.lock c.leave.ensures.left in
    let watch = watch_is c.self.inside.seat c.take.result c.in-Some.seat c.self.inside.watch c.in-Some.is c.take.ensures.value
    c.self.invariant in (
      there_again c.replace-before.new.self c.leave.result c.replace-before.ensures.after,
      put_back (λ (t : Seated Deed Origin). IsWatchOf t.view c.keep.new.self) c.replace-before.new.self c.leave.result
          c.replace-before.ensures.after
          (turn_kept _ _ _ _ turns c.self.inside.watch c.keep.new.self watch (c.keep.ensures.noted
          ∙ ap (λ (n : Note). n.publications) c.tell.ensures ∙ ap (λ (r : Replicated). turned_each (reverse r.deeds)) c.value-2.ensures)
          c.keep.ensures.follows),
    )

pub returns-clause-looks : goal.returns-clause-looks
returns-clause-looks g c =
    let turns = turned_by c.in-Some.seat c.leave.result c.enter-turn.result c.enter-turn.result.value c.enter-turn.ensures.lock
    c.enter-turn.ensures.won c.enter-turn.ensures.base c.enter-turn.ensures.seen c.leave.ensures.lock c.leave.ensures.left in
    let same = place_is c.self.inside.seat c.take.result c.in-Some.seat c.self.inside.watch.eye c.args.self.now c.in-Some.is
    c.take.ensures.value c.self.view_is in
    put_back (λ (t : Seated Deed Origin). Looks c.args.self.now (placed t c.keep.new.self.eye))
    c.replace-before.new.self c.leave.result c.replace-before.ensures.after
    (subst (λ (p : Place). Looks p (placed c.leave.result c.keep.new.self.eye)) same
    (turn_looks _ _ _ _ turns c.self.inside.watch.eye c.keep.new.self.eye c.keep.ensures.follows refl))

pub leave-requires-clause-list : goal.leave-requires-clause-list
leave-requires-clause-list g c = same_list c.enter-turn.result.view
    (with_lost c.in-Some.seat.view c.enter-turn.result.view.lost c.enter-turn.result.view.word) c.enter-turn.result.value.deeds
    c.enter-turn.ensures.won
