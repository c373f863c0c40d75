use Rattle.std.proofs.Common.{◌≡◌, List, ℕ, Ok, refl, sym, ap, inl, inr, false}
use Rattle.std.proofs.lemmas.Bool.{cases_Bool}
use Rattle.std.proofs.lemmas.Str.{is_utf8-from_IsUtf8, IsUtf8-from_is_utf8}
use Rattle.std.specs.Str.{IsUtf8, is_utf8}
use Rattle.gr_script.proofs.items.text_at.Goals as goal

no_text : (text : List ℕ) → (IsUtf8 text → ⊥) → is_utf8 text ≡ false
no_text text isnt = elim (cases_Bool (is_utf8 text)) [ inl is ↦ absurd (isnt (IsUtf8-from_is_utf8 text is)) | inr isnot ↦ isnot ]

pub returns-in-Ok : goal.returns-in-Ok
returns-in-Ok c = rw (is_utf8-from_IsUtf8 c.args.text.now c.in-Ok.ensures.cases.1) (ap Ok (sym c.in-Ok.ensures.cases.0))

pub returns-in-Err : goal.returns-in-Err
returns-in-Err c = rw (no_text c.args.text.now c.in-Err.ensures.cases.0) refl
