use Rattle.std.proofs.Common.{refl, subst}
use Rattle.gr_history.specs.declared.deed.Deed.{Deed}
use Rattle.gr_turn.specs.Views.{Seated}
use Rattle.gr_member.specs.declared.replica.Origin.{Origin}
use Rattle.gr_member.specs.Replicas.{IsWatchOf}
use Rattle.gr_member.specs.Seats.{Place, placed, Meets}
use Rattle.gr_member.proofs.Turning.{watch_is, place_is, put_back, there_again, seats_meet, watches_meet}
use Rattle.gr_member.proofs.pass.ShardPass.meet.Goals as goal

pub returns : goal.returns
returns c =
    let same = place_is c.self.inside.seat c.take.result c.in-Some.seat c.self.inside.watch.eye c.args.self.now c.in-Some.is
    c.take.ensures.value c.self.view_is in
    let theirs = place_is c.from.inside.seat c.from.inside.seat c.in-Some-other.other c.from.inside.watch.eye c.args.from c.in-Some-other.is
    refl c.from.view_is in
    put_back (λ (t : Seated Deed Origin). Meets c.args.self.now c.args.from (placed t c.meet.new.self.eye)) c.replace-before.new.self
    c.join.new.into c.replace-before.ensures.after
    (subst (λ (p : Place). Meets p c.args.from (placed c.join.new.into c.meet.new.self.eye)) same
    (subst (λ (p : Place). Meets (placed c.in-Some.seat c.self.inside.watch.eye) p (placed c.join.new.into c.meet.new.self.eye)) theirs
    (seats_meet c.in-Some.seat c.in-Some-other.other c.join.new.into c.self.inside.watch.eye c.from.inside.watch.eye c.meet.new.self.eye
    c.join.ensures.lock c.join.ensures.both c.join.ensures.accounted c.join.ensures.seen c.meet.ensures.follows)))

pub invariant_of-self : goal.invariant_of-self
invariant_of-self c =
    let one = watch_is c.self.inside.seat c.take.result c.in-Some.seat c.self.inside.watch c.in-Some.is c.take.ensures.value
    c.self.invariant in
    let two = watch_is c.from.inside.seat c.from.inside.seat c.in-Some-other.other c.from.inside.watch c.in-Some-other.is refl
    c.from.invariant in (
      there_again c.replace-before.new.self c.join.new.into c.replace-before.ensures.after,
      put_back (λ (t : Seated Deed Origin). IsWatchOf t.view c.meet.new.self) c.replace-before.new.self c.join.new.into
          c.replace-before.ensures.after
          (watches_meet c.in-Some.seat c.in-Some-other.other c.join.new.into c.self.inside.watch c.from.inside.watch c.meet.new.self one two
          c.join.ensures.both c.meet.ensures.noted c.meet.ensures.follows),
    )
