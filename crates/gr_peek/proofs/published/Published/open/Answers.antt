use Rattle.std.proofs.Common.{◌≡◌, refl, sym, ap, ◌∙◌, fold, drop}
use Rattle.std.specs.Prelude.{Some}
use Rattle.gr_peek.specs.Rule.{after}
use Rattle.gr_peek.proofs.Laid.{on_ok, shown_first, at_first}
use Rattle.gr_peek.proofs.Kept.{kept_first}
use Rattle.gr_peek.proofs.published.Published.open.Goals as goal

pub new-requires-3-clause-rule : goal.new-requires-3-clause-rule
new-requires-3-clause-rule g c =
    let first = c.in_ok-first in
    kept_first first.first (shown_first first.first (ap (λ s. s.entries) first.ensures) (ap (λ s. s.told.publications) first.ensures ∙ c.open-told.ensures.none))

pub send-writer-requires-clause-shown : goal.send-writer-requires-clause-shown
send-writer-requires-clause-shown g c =
    let first = c.in_ok-first in
    let new = c.in_ok-writer.ensures in
    rw (new.1, new.0) (shown_first first.first (ap (λ s. s.entries) first.ensures) (ap (λ s. s.told.publications) first.ensures ∙ c.open-told.ensures.none))

pub invariant_of-published : goal.invariant_of-published
invariant_of-published g c =
    let first = c.in_ok-first in
    let new = c.in_ok-writer.ensures in
    let eyes = c.open_eyes.ensures in
    let isnt = sym c.is_err.ensures.value ∙ c.if-is_err.false in
    let same : fold after c.in_ok-writer.writer.desk.shown.value (drop c.in_ok-writer.writer.behind c.in_ok-writer.writer.log.items) ≡ first.first = rw (new.1, new.0) refl in (
      c.open-told.ensures.head,
      at_first c.open-told.result.0 first.first _ _ _ (ap (λ s. s.entries) first.ensures) (ap (λ s. s.told) first.ensures) c.open-told.ensures.none
          (ap (λ s. s.value) eyes.shown ∙ (on_ok _ isnt c.send-writer.ensures.ok ∙ same))
          (eyes.view ∙ (on_ok _ isnt c.send-writer.ensures.named ∙ ap (λ s. Some s.value.told.copy) (sym eyes.shown)))
          (eyes.laid ∙ on_ok _ isnt c.send-writer.ensures.sent),
    )
