-- What a deed leaves at a key is what stands there behind it.
use Rattle.std.proofs.Common.{◌≡◌, ℕ, List, [], ◌∷◌, ◌++◌, Bool, true, false, ◌&&◌, ◌||◌, refl, sym, ap, ◌∙◌, bytes_eq, if◌then◌else◌}
use Rattle.std.specs.Prelude.{Option, Some, None}
use Rattle.gr_stamp.specs.declared.change.Change.{Change}
use Rattle.gr_stamp.specs.Winner.{winner, wins}
use Rattle.gr_history.specs.declared.deed.Deed.{Deed}
use Rattle.gr_history.specs.Standing.{came, drops, has_key, lasting, standing}

abbrev pub better : List ℕ → Change → Option Change → Option Change
better key change before = if bytes_eq change.key key && wins change before then Some change else before

-- what wins at a key once these changes came in, the newest first, where this one won before
abbrev pub won_over : List ℕ → List Change → Option Change → Option Change
won_over key [] before = before
won_over key (change ∷ came) before = better key change (won_over key came before)

-- what a deed leaves at a key
abbrev pub left_at : Deed → List Change → List ℕ → Option Change → Option Change
left_at deed came key before = if drops key deed before then None else won_over key came before

won : (key : List ℕ) (came past : List Change) → winner key (came ++ past) ≡ won_over key came (winner key past)
won key [] past = refl
won key (change ∷ came) past = ap (better key change) (won key came past)

pub left_stands : (deed : Deed) (past : List Deed) (key : List ℕ) → left_at deed (came deed past) key (standing key past) ≡ standing key (deed ∷ past)
left_stands deed past key = at_drop (drops key deed (standing key past))
  where
    nothing : Option Change
    nothing = None

    at_drop : (b : Bool) → (if b then nothing else won_over key (came deed past) (standing key past))
        ≡ winner key (if b then [] else came deed past ++ lasting key past)
    at_drop true = refl
    at_drop false = sym (won key (came deed past) (lasting key past))

both_fail : (a b : Bool) → (a || b) ≡ false → (a ≡ false) × (b ≡ false)
both_fail true b e = absurd cc
both_fail false b e = (refl, e)

-- Where nothing came in of the key, what stood before stays.
pub none_came : (key : List ℕ) (came : List Change) (before : Option Change) → has_key key came ≡ false → won_over key came before ≡ before
none_came key [] before none = refl
none_came key (change ∷ came) before none =
    let both = both_fail (bytes_eq change.key key) (has_key key came) none in
    ap (λ b. if b && wins change (won_over key came before) then Some change else won_over key came before) both.0
    ∙ none_came key came before both.1
