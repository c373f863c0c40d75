use Rattle.std.proofs.Common.{◌≡◌, ◌∙◌, ℕ, ◌<◌, ◌^◌, ◌∷◌, Some, option_map, refl, sym, ap, subst}
use Rattle.gr_script.specs.Past.{number}
use Rattle.gr_script.specs.Printed.{saying_in}
use Rattle.gr_script.specs.Said.{line_of}
use Rattle.gr_script.specs.Taken.{Taken, said, lines_taken, IsNext}
use Rattle.gr_script.proofs.Keeping.{is_a_line, line_by_count, narrow_first, narrow_second}
use Rattle.gr_script.proofs.Taking.{line_next, next_kept}
use Rattle.gr_script.proofs.past.Past.push_behind.Goals as goal

pub line_of-requires-clause-step : goal.line_of-requires-clause-step
line_of-requires-clause-step c =
    let t : Taken = record { runs = c.self.inside.runs; text = c.self.inside.text.now; count = c.self.inside.count } in
    let next = subst (λ (s : Taken). IsNext s (c.args.saying ∷ said s) c.args.after.now) (sym c.self.view_is) c.requires.next in
    (next_kept t c.args.saying c.args.after.now c.self.invariant.1 next).step

pub line_of-requires-clause-other : goal.line_of-requires-clause-other
line_of-requires-clause-other c =
    let t : Taken = record { runs = c.self.inside.runs; text = c.self.inside.text.now; count = c.self.inside.count } in
    let next = subst (λ (s : Taken). IsNext s (c.args.saying ∷ said s) c.args.after.now) (sym c.self.view_is) c.requires.next in
    (next_kept t c.args.saying c.args.after.now c.self.invariant.1 next).other

pub unwrap-line-requires : goal.unwrap-line-requires
unwrap-line-requires c =
    let t : Taken = record { runs = c.self.inside.runs; text = c.self.inside.text.now; count = c.self.inside.count } in
    let is = line_by_count c.self.inside.tallies.steps (said t) c.args.saying _ _ c.line_of.result
    (c.number-first.ensures ∙ ap (number 0) c.as_slice-items.ensures) c.of-seq.ensures c.self.invariant.0.tallied.steps c.line_of.ensures
    ∙ ap (λ (s : Taken). line_of (said s) c.args.saying) c.self.view_is in
    let next = subst (λ (s : Taken). IsNext s (c.args.saying ∷ said s) c.args.after.now) (sym c.self.view_is) c.requires.next in
    let back = (next_kept t c.args.saying c.args.after.now c.self.invariant.1 next).back c.requires.late in
    is_a_line c.line_of.result c.args.saying
    (ap (option_map saying_in) is ∙ subst (λ (s : Taken). option_map saying_in (line_of (said s) c.args.saying) ≡ Some c.args.saying)
    c.self.view_is back)

pub returns-clause-line : goal.returns-clause-line
returns-clause-line c =
    let t : Taken = record { runs = c.self.inside.runs; text = c.self.inside.text.now; count = c.self.inside.count } in
    let is = line_by_count c.self.inside.tallies.steps (said t) c.args.saying _ _ c.line_of.result
    (c.number-first.ensures ∙ ap (number 0) c.as_slice-items.ensures) c.of-seq.ensures c.self.invariant.0.tallied.steps c.line_of.ensures
    ∙ ap (λ (s : Taken). line_of (said s) c.args.saying) c.self.view_is in
    ap lines_taken c.in_ok-put.ensures
    ∙ line_next c.args.self.now c.args.saying c.unwrap-line.result c.args.after.now c.requires.next (sym is ∙ c.unwrap-line.ensures)

pub put-requires-clause-next : goal.put-requires-clause-next
put-requires-clause-next c =
    let t : Taken = record { runs = c.self.inside.runs; text = c.self.inside.text.now; count = c.self.inside.count } in
    let is = line_by_count c.self.inside.tallies.steps (said t) c.args.saying _ _ c.line_of.result
    (c.number-first.ensures ∙ ap (number 0) c.as_slice-items.ensures) c.of-seq.ensures c.self.invariant.0.tallied.steps c.line_of.ensures
    ∙ ap (λ (s : Taken). line_of (said s) c.args.saying) c.self.view_is in (
      c.args.saying,
      refl,
      c.number-first.ensures ∙ ap (number 0) c.as_slice-items.ensures,
      (λ _. c.number-second.ensures ∙ ap (number 1) c.as_slice-items.ensures),
      sym is ∙ c.unwrap-line.ensures,
      c.requires.next,
    )

pub put-requires-clause-narrow : goal.put-requires-clause-narrow
put-requires-clause-narrow c =
    let t : Taken = record { runs = c.self.inside.runs; text = c.self.inside.text.now; count = c.self.inside.count } in
    let saying = c.args.saying in
    let next = subst (λ (s : Taken). IsNext s (saying ∷ said s) c.args.after.now) (sym c.self.view_is) c.requires.next in
    let kept = next_kept t saying c.args.after.now c.self.invariant.1 next in
    let first = c.number-first.ensures ∙ ap (number 0) c.as_slice-items.ensures in
    subst (λ (n : ℕ). n < 2 ^ 8) (sym first) (narrow_first saying.kind saying.items c.requires.late kept.step kept.other)

pub put-requires-clause-joined : goal.put-requires-clause-joined
put-requires-clause-joined c is =
    let t : Taken = record { runs = c.self.inside.runs; text = c.self.inside.text.now; count = c.self.inside.count } in
    let saying = c.args.saying in
    let next = subst (λ (s : Taken). IsNext s (saying ∷ said s) c.args.after.now) (sym c.self.view_is) c.requires.next in
    let second = c.number-second.ensures ∙ ap (number 1) c.as_slice-items.ensures in
    subst (λ (n : ℕ). n < 2 ^ 8) (sym second)
    (narrow_second saying.kind saying.items is (next_kept t saying c.args.after.now c.self.invariant.1 next).other)
