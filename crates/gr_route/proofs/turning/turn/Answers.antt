use Rattle.std.proofs.Common.{◌≡◌, ◌∙◌, List, ap, filter, map}
use Rattle.gr_stamp.specs.declared.change.Change.{Change}
use Rattle.gr_history.specs.Standing.{came}
use Rattle.gr_route.specs.Turning.{moved_by, touched, turned_in, turns_by, winners}
use Rattle.gr_route.proofs.Moving.{is_behind, turned_found}
use Rattle.gr_route.proofs.turning.turn.Goals as goal

pub returns-clause-turned : goal.returns-clause-turned
returns-clause-turned c = λ past is.
    let deed = c.args.deed.now in
    let changes = c.args.standing.now.changes in
    let there : c.as_slice.result.now ≡ came deed past = c.as_slice.ensures ∙ c.in_ok-came.ensures past is.1 in
    c.in_ok-turned.ensures.turned
    ∙ ap (λ (those : List Change). map (turned_in deed (winners changes those) changes)
    (filter (turns_by deed (winners changes those) changes) (touched deed changes those))) there
    ∙ turned_found deed past changes is.0

pub returns-clause-stands : goal.returns-clause-stands
returns-clause-stands c = λ past is.
    let deed = c.args.deed.now in
    let changes = c.args.standing.now.changes in
    let there : c.as_slice.result.now ≡ came deed past = c.as_slice.ensures ∙ c.in_ok-came.ensures past is.1 in
    let moves = c.in_ok-turned.ensures.moves
    ∙ ap (λ (those : List Change). map (moved_by deed (winners changes those) changes)
    (filter (turns_by deed (winners changes those) changes) (touched deed changes those))) there in
    is_behind deed past c.args.standing.now (record { changes = c.set_each.new.standing; known = c.note.new.ids })
    c.in_ok-turned.field-0.moves.items is moves c.in_ok-set_each.ensures c.in_ok-note.ensures
