-- What was printed first stands in front of what is printed then.
use Rattle.std.proofs.Common.{◌≡◌, ◌∙◌, ap, sym, ℕ, List, ◌++◌, length, take, drop, append_assoc, Result, Ok, Err}
use Rattle.std.specs.Result.{OnErr}
use Rattle.std.proofs.Math.Seq.{take-append_seam, take-length}
use Rattle.std.proofs.lemmas.List.{take-append-drop}

pub kept_more : (old more between new : List ℕ) → between ≡ old ++ more → take (length between) new ≡ between
    → take (length old) new ≡ old
kept_more old more between new is kept =
    let rest = drop (length between) new in
    let whole : new ≡ old ++ (more ++ rest) =
    sym (take-append-drop (length between) new) ∙ ap (λ (front : List ℕ). front ++ rest) (kept ∙ is) ∙ append_assoc old more rest in
    ap (take (length old)) whole ∙ take-append_seam old (more ++ rest)

pub kept_same : (old new : List ℕ) → new ≡ old → take (length old) new ≡ old
kept_same old new is = ap (take (length old)) is ∙ take-length old

pub on_err : {T E P : Type 0} (r : Result T E) → P → OnErr r P
on_err (Ok _) p = tt
on_err (Err _) p = p
