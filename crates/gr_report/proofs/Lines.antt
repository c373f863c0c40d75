-- Numbered texts, one after another.
use Rattle.std.proofs.Common.{◌≡◌, ◌∙◌, ap, sym, ℕ, ◌+◌, List, [], ◌∷◌, ◌++◌, length, append_assoc, append-nil, add-zero, arith}
use Rattle.gr_report.specs.Texts.{texts_from}

pub texts_from-push : {A : Type 0} → (text : ℕ → A → List ℕ) (number : ℕ) (before : List A) (item : A)
    → texts_from text number (before ++ item ∷ []) ≡ texts_from text number before ++ text (number + length before) item
texts_from-push text number [] item = append-nil _ ∙ ap (λ n. text n item) (sym (add-zero number))
texts_from-push text number (first ∷ before) item =
    let later : number + 1 + length before ≡ number + length (first ∷ before) = omega arith in
    ap (λ rest. text number first ++ rest) (texts_from-push text (number + 1) before item
    ∙ ap (λ n. texts_from text (number + 1) before ++ text n item) later)
    ∙ sym (append_assoc (text number first) (texts_from text (number + 1) before) _)
