use Rattle.std.proofs.Common.{◌≡◌, ◌++◌, ◌∷◌, [], length, sym, ◌∙◌, subst, ap, arith, length-append}
use Rattle.std.specs.Prelude.{All, true}
use Rattle.std.proofs.lemmas.List.Elements.{All-append, All-cons, All-nil}
use Rattle.gr_peek.specs.Views.{Watching}
use Rattle.gr_peek.specs.Entering.{new_eye}
use Rattle.gr_peek.proofs.making.open_eyes.Goals as goal

pub loop-k-preserved : goal.loop-k-preserved
loop-k-preserved c =
    let kept = c.loop-k.invariant in
    let one = c.in_ok-open_eye.field-0 in
    let pushed : c.push.new.self ≡ c.loop-k.list ++ one ∷ [] = c.in_ok-push.ensures.ok in
    let IsNew : Watching → Type 0 = λ eye. eye ≡ new_eye true c.args.told.now.copy in (
      ap length pushed ∙ omega (arith, length-append c.loop-k.list (one ∷ []), kept.0),
      subst (All IsNew) (sym pushed) (All-append IsNew c.loop-k.list (one ∷ []) kept.1 (All-cons IsNew one [] c.in_ok-open_eye.ensures.eye (All-nil IsNew))),
      c.open_eye.ensures.shown ∙ kept.2,
      c.open_eye.ensures.view ∙ kept.3,
      c.open_eye.ensures.laid ∙ kept.4,
    )
