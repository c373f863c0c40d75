use Rattle.std.proofs.Common.{◌≡◌, ◌≤◌, ◌∙◌, ap, sym, subst, reverse, arith}
use Rattle.gr_history.specs.Queries.{query_gives}
use Rattle.gr_shard.specs.Asking.{twice}
use Rattle.gr_shard.specs.Effects.{IsMadeAt, needs, queries_after}
use Rattle.gr_shard.specs.InStep.{opened, served}
use Rattle.gr_shard.specs.View.{Account, spare_of, with_spare}
use Rattle.gr_shard.proofs.Following.{served_reply}
use Rattle.gr_shard.proofs.Prepares.{spare_grows, spare_is}
use Rattle.gr_shard.proofs.shard.Shard.ask_ahead.Goals as goal

pub returns-clause-same : goal.returns-clause-same
returns-clause-same c =
    let at = c.self.inside in
    ap (with_spare (spare_of at.roomy c.foretell.new.queries.spare)) (c.self.view_is ∙ c.in_ok-make_room.ensures.same)

pub returns-clause-grows : goal.returns-clause-grows
returns-clause-grows c =
    let at = c.self.inside in
    let here = ap (λ (a : Account). a.spare) c.self.view_is in
    let more = spare_grows at.roomy at.queries.spare c.foretell.new.queries.spare c.in_ok-foretell.ensures.grows in
    omega (arith, here, more, c.in_ok-make_room.ensures.grows)

pub returns-clause-after : goal.returns-clause-after
returns-clause-after c =
    let open_are = c.self.invariant.1.open_are ∙ ap (λ (a : Account). opened (reverse a.deeds)) (c.self.view_is ∙ c.in_ok-make_room.ensures.same) in
    subst (λ all. queries_after c.in_ok-foretell.field-0.after all ≡ served c.args.client c.args.ask.now all) open_are
    c.in_ok-foretell.ensures.after

pub returns-clause-made : goal.returns-clause-made
returns-clause-made c =
    let open_are = c.self.invariant.1.open_are ∙ ap (λ (a : Account). opened (reverse a.deeds)) (c.self.view_is ∙ c.in_ok-make_room.ensures.same) in
    subst (λ all. IsMadeAt all c.in_ok-foretell.field-0.after) open_are c.in_ok-foretell.ensures.made

pub returns-clause-room : goal.returns-clause-room
returns-clause-room c =
    let at = c.self.inside in
    let some : 1 ≤ spare_of at.roomy at.queries.spare =
    subst (λ (a : Account). 1 ≤ a.spare) (sym c.self.view_is) c.in_ok-make_room.ensures.room in
    spare_is at.roomy at.queries.spare c.foretell.new.queries.spare (needs c.in_ok-foretell.field-0.after) some
    c.in_ok-foretell.ensures.room

pub returns-clause-replies : goal.returns-clause-replies
returns-clause-replies c =
    let at = c.self.inside in
    let past = reverse at.history.deeds in
    let here : past ≡ reverse c.args.self.now.deeds =
    ap (λ (a : Account). reverse a.deeds) (c.self.view_is ∙ c.in_ok-make_room.ensures.same) in
    c.in_ok-foretell.ensures.replies past c.self.invariant.0.stands
    ∙ ap twice (served_reply c.args.client c.args.ask.now past at.queries.entries c.self.invariant.0.in_step)
    ∙ ap (λ deeds. twice (query_gives c.args.client c.args.ask.now deeds)) here
