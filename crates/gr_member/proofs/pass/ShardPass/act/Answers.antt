use Rattle.std.proofs.Common.{ap, ◌∙◌, sym, subst}
use Rattle.std.specs.Prelude.{Some, reverse, IfOk, OnErr}
use Rattle.std.proofs.lemmas.Result.{IfOk-weaker}
use Rattle.gr_history.specs.declared.deed.Deed.{Deed}
use Rattle.gr_peek.specs.Views.{Note}
use Rattle.gr_peek_law.specs.Turns.{turned_each}
use Rattle.gr_turn.specs.Views.{Seated}
use Rattle.gr_member.specs.declared.replica.Origin.{Origin}
use Rattle.gr_member.specs.Replicas.{Replicated, Does, IsWatchOf}
use Rattle.gr_member.specs.Seats.{Place, placed, Stays, Looks, Acts}
use Rattle.gr_member.proofs.Turning.{turned_by, watch_is, place_is, put_back, there_again, err_weaker}
use Rattle.gr_member.proofs.Turning.{turn_copy, turn_kept, turn_acts, turn_looks, turn_stays}
use Rattle.gr_member.proofs.pass.ShardPass.act.Goals as goal

pub act-answer-requires : goal.act-answer-requires
act-answer-requires g c =
    let same = place_is c.self.inside.seat c.take.result c.in-Some.seat c.self.inside.watch.eye c.args.self.now c.in-Some.is
    c.take.ensures.value c.self.view_is in
    c.requires.here c.value_mut.result.now.origin
    (ap (λ (p : Place). p.view.base) (sym same) ∙ c.enter-turn.ensures.base
    ∙ ap (λ (r : Replicated). Some r.origin) (sym c.value_mut.ensures.shows))

pub keep-requires : goal.keep-requires
keep-requires g c =
    let watch = watch_is c.self.inside.seat c.take.result c.in-Some.seat c.self.inside.watch c.in-Some.is c.take.ensures.value
    c.self.invariant in
    ap (λ (n : Note). n.copy) c.tell.ensures ∙ ap (λ (r : Replicated). r.origin.copy) c.value.ensures
    ∙ turn_copy c.in-Some.seat c.enter-turn.result.value c.act-answer.new.self c.self.inside.watch c.enter-turn.ensures.base watch
    (c.act-answer.ensures.based ∙ ap (λ (r : Replicated). r.origin) c.value_mut.ensures.shows)

pub invariant_of-self : goal.invariant_of-self
invariant_of-self g c =
    let turns = turned_by c.in-Some.seat c.leave.result c.enter-turn.result c.act-answer.new.self c.enter-turn.ensures.lock
    c.enter-turn.ensures.won c.enter-turn.ensures.base c.enter-turn.ensures.seen c.leave.ensures.lock c.leave.ensures.left in
    let watch = watch_is c.self.inside.seat c.take.result c.in-Some.seat c.self.inside.watch c.in-Some.is c.take.ensures.value
    c.self.invariant in (
      there_again c.replace-before.new.self c.leave.result c.replace-before.ensures.after,
      put_back (λ (t : Seated Deed Origin). IsWatchOf t.view c.keep.new.self) c.replace-before.new.self c.leave.result
          c.replace-before.ensures.after
          (turn_kept _ _ _ _ turns c.self.inside.watch c.keep.new.self watch (c.keep.ensures.noted
          ∙ ap (λ (n : Note). n.publications) c.tell.ensures ∙ ap (λ (r : Replicated). turned_each (reverse r.deeds)) c.value.ensures)
          c.keep.ensures.follows),
    )

pub returns-clause-stays : goal.returns-clause-stays
returns-clause-stays g c =
    let turns = turned_by c.in-Some.seat c.leave.result c.enter-turn.result c.act-answer.new.self c.enter-turn.ensures.lock
    c.enter-turn.ensures.won c.enter-turn.ensures.base c.enter-turn.ensures.seen c.leave.ensures.lock c.leave.ensures.left in
    let same = place_is c.self.inside.seat c.take.result c.in-Some.seat c.self.inside.watch.eye c.args.self.now c.in-Some.is
    c.take.ensures.value c.self.view_is in
    put_back (λ (t : Seated Deed Origin). Stays c.args.self.now (placed t c.keep.new.self.eye))
    c.replace-before.new.self c.leave.result c.replace-before.ensures.after
    (subst (λ (p : Place). Stays p (placed c.leave.result c.keep.new.self.eye)) same
    (turn_stays _ _ _ _ turns c.self.inside.watch.eye c.keep.new.self.eye c.keep.ensures.follows))

pub returns-clause-done : goal.returns-clause-done
returns-clause-done g c =
    let turns = turned_by c.in-Some.seat c.leave.result c.enter-turn.result c.act-answer.new.self c.enter-turn.ensures.lock
    c.enter-turn.ensures.won c.enter-turn.ensures.base c.enter-turn.ensures.seen c.leave.ensures.lock c.leave.ensures.left in
    let same = place_is c.self.inside.seat c.take.result c.in-Some.seat c.self.inside.watch.eye c.args.self.now c.in-Some.is
    c.take.ensures.value c.self.view_is in
    put_back (λ (t : Seated Deed Origin). IfOk c.act-answer.result
    (λ answer. Acts c.args.self.now (g.T.Task.next c.args.task.now) (g.T.Task.came answer) (placed t c.keep.new.self.eye)))
    c.replace-before.new.self c.leave.result c.replace-before.ensures.after
    (IfOk-weaker c.act-answer.result _ _ (λ answer d.
    let to_do = g.T.Task.next c.args.task.now in let came = g.T.Task.came answer in
    subst (λ (p : Place). Acts p to_do came (placed c.leave.result c.keep.new.self.eye)) same
    (turn_acts _ _ _ _ turns to_do came c.self.inside.watch.eye c.keep.new.self.eye c.keep.ensures.follows
    (subst (λ (y : Replicated). Does y to_do came c.act-answer.new.self) c.value_mut.ensures.shows d))) c.act-answer.ensures.done)

pub returns-clause-refused : goal.returns-clause-refused
returns-clause-refused g c =
    let turns = turned_by c.in-Some.seat c.leave.result c.enter-turn.result c.act-answer.new.self c.enter-turn.ensures.lock
    c.enter-turn.ensures.won c.enter-turn.ensures.base c.enter-turn.ensures.seen c.leave.ensures.lock c.leave.ensures.left in
    let same = place_is c.self.inside.seat c.take.result c.in-Some.seat c.self.inside.watch.eye c.args.self.now c.in-Some.is
    c.take.ensures.value c.self.view_is in
    put_back (λ (t : Seated Deed Origin). OnErr c.act-answer.result (Looks c.args.self.now (placed t c.keep.new.self.eye)))
    c.replace-before.new.self c.leave.result c.replace-before.ensures.after
    (err_weaker c.act-answer.result _ _ (λ e. subst (λ (p : Place). Looks p (placed c.leave.result c.keep.new.self.eye)) same
    (turn_looks _ _ _ _ turns c.self.inside.watch.eye c.keep.new.self.eye c.keep.ensures.follows
    (e ∙ ap (λ (r : Replicated). r.deeds) c.value_mut.ensures.shows))) c.act-answer.ensures.err)
