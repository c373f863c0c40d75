use Rattle.std.proofs.Common.{◌∙◌, ◌+◌, ℕ, suc, ap, List, [], ◌∷◌}
use Rattle.gr_oql.specs.declared.event.Event.{Event}
use Rattle.gr_history.specs.Turned.{events}
use Rattle.gr_route.proofs.Lists.{told_between}
use Rattle.gr_route.proofs.openings.opened_at.Goals as goal

pub returns : goal.returns
returns c = λ history rows e.
    let a = c.in-Enrol in
    let told = c.in_ok-told_of.ensures
    ∙ told_between a.query history c.args.lists.now c.args.place c.before_end-count.result e
    ∙ ap (λ n. events a.query history (suc c.args.place) (suc c.args.place + n)) c.before_end-count.ensures.count in
    rw a.is (ap (λ (name : List ℕ). record {
      client = c.args.client;
      seq = c.args.seq;
      name = name;
      events = c.in_ok-told_of.field-0;
    } ∷ []) c.in_ok-copy.ensures
    ∙ ap (λ (events : List Event). record { client = c.args.client; seq = c.args.seq; name = a.name; events = events } ∷ []) told)
