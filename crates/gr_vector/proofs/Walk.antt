-- A walk along two lists of blocks.
use Rattle.std.proofs.Common.{◌≡◌, ◌⊎◌, ℕ, suc, ◌+◌, ◌<◌, ◌≤◌, List, [], ◌∷◌, ◌++◌, length, get_or, drop, Bool, false, ◌||◌, ltb}
use Rattle.std.proofs.Common.{refl, sym, ◌∙◌, subst, ap, arith, inl, inr, ⊎_elim, if◌then◌else◌, min}
use Rattle.std.proofs.lemmas.Bool.{cases_lt}
use Rattle.std.proofs.lemmas.Bool.Decides.{nat_tests}
use Rattle.std.proofs.lemmas.List.{drop_more, drop_all, get_or_default}
use Rattle.std.specs.List.{HoldsAt}
use Rattle.gr_vector.specs.declared.block.Block.{Block}
use Rattle.gr_vector.specs.Blocks.{has, told, is_noted, AreAscending, AllAbove, last_first}
use Rattle.gr_vector.proofs.Places.{told_above, told-append, told_at, above_from, below_is, ascending_join}

-- the next block of what is left
pub ascending_next : (low read : ℕ) (blocks : List Block) (d : Block) → read < length blocks → AreAscending low (drop read blocks)
    → (low ≤ (get_or blocks read d).first) × AreAscending (get_or blocks read d).first (drop (read + 1) blocks)
ascending_next low read blocks d lt h = subst (λ xs. AreAscending low xs) (drop_more blocks read d lt) h

pub ascending_at : (low first read : ℕ) (blocks : List Block) (d : Block) → read < length blocks → AreAscending low (drop read blocks)
    → first ≤ (get_or blocks read d).first → AreAscending first (drop read blocks)
ascending_at low first read blocks d lt h le =
    subst (λ xs. AreAscending first xs) (sym (drop_more blocks read d lt)) (le, (ascending_next low read blocks d lt h).1)

pub ascending_none : (first read : ℕ) (blocks : List Block) → length blocks ≤ read → AreAscending first (drop read blocks)
ascending_none first read blocks le = subst (λ xs. AreAscending first xs) (sym (drop_all read blocks le)) tt

pub told_read : (v first read : ℕ) (g : Bool) (blocks : List Block) (d : Block) → read < length blocks → (get_or blocks read d).first ≡ first
    → first ≤ v → told v (has v (get_or blocks read d)) (drop (read + 1) blocks) ≡ told v g (drop read blocks)
told_read v first read g blocks d lt e le =
    sym (ap (told v g) (drop_more blocks read d lt)
    ∙ ap (λ t. told v t (drop (read + 1) blocks)) (below_is v (get_or blocks read d).first g (has v (get_or blocks read d)) (omega (arith, e, le))))

-- what both have below a number, where the next blocks begin
pub walked_below : (v low first our their : ℕ) (ours theirs both : List Block) (one two : Block)
    → AreAscending first (drop our ours) → AreAscending first (drop their theirs) → v < first
    → (v < low → is_noted v both ≡ (is_noted v ours || is_noted v theirs))
    → (low ≤ v → is_noted v both ≡ (has v one || has v two))
    → (low ≤ v → told v (has v one) (drop our ours) ≡ is_noted v ours)
    → (low ≤ v → told v (has v two) (drop their theirs) ≡ is_noted v theirs)
    → is_noted v both ≡ (is_noted v ours || is_noted v theirs)
walked_below v low first our their ours theirs both one two h k lt below above our_told their_told = ⊎_elim below
    (λ le. above le ∙ joined
    (sym (told_above v (has v one) (drop our ours) (above_from v first (drop our ours) lt h)) ∙ our_told le)
    (sym (told_above v (has v two) (drop their theirs) (above_from v first (drop their theirs) lt k)) ∙ their_told le))
    (cases_lt v low)
  where
    joined : {a b c d : Bool} → a ≡ b → c ≡ d → (a || c) ≡ (b || d)
    joined p q = cc

-- and where no block is left
pub walked_all : (v low our their : ℕ) (ours theirs both : List Block) (one two : Block) → length ours ≤ our → length theirs ≤ their
    → (v < low → is_noted v both ≡ (is_noted v ours || is_noted v theirs))
    → (low ≤ v → is_noted v both ≡ (has v one || has v two))
    → (low ≤ v → told v (has v one) (drop our ours) ≡ is_noted v ours)
    → (low ≤ v → told v (has v two) (drop their theirs) ≡ is_noted v theirs)
    → is_noted v both ≡ (is_noted v ours || is_noted v theirs)
walked_all v low our their ours theirs both one two h k below above our_told their_told =
    walked_below v low (suc v) our their ours theirs both one two (ascending_none (suc v) our ours h) (ascending_none (suc v) their theirs k)
    (omega arith) below above our_told their_told

-- a block that is put last
last_first-append : (low : ℕ) (xs : List Block) (b : Block) → last_first low (xs ++ b ∷ []) ≡ b.first
last_first-append low [] b = refl
last_first-append low (x ∷ xs) b = last_first-append x.first xs b

pub ascending_pushed : (xs : List Block) (b : Block) → AreAscending 0 xs → last_first 0 xs ≤ b.first → AreAscending 0 (xs ++ b ∷ [])
ascending_pushed xs b h le = ascending_join 0 xs (b ∷ []) h (le, tt)

pub last_pushed : (xs : List Block) (b : Block) → last_first 0 (xs ++ b ∷ []) ≤ b.first
last_pushed xs b = omega (arith, last_first-append 0 xs b)

pub told_pushed : (v : ℕ) (xs : List Block) (b : Block)
    → is_noted v (xs ++ b ∷ []) ≡ (if ltb v b.first then is_noted v xs else has v b)
told_pushed v xs b = told-append v false xs (b ∷ [])

-- a block that isn't put last since the last one says the same
pub told_kept : (v n : ℕ) (xs : List Block) (b d : Block) → n + 1 ≡ length xs → (get_or xs n d).first ≤ b.first
    → (b.first ≤ v → has v b ≡ has v (get_or xs n d))
    → is_noted v xs ≡ (if ltb v b.first then is_noted v xs else has v b)
told_kept v n xs b d is le same = at_test (is_noted v xs) (has v b)
    (λ h. told_at v false n xs d (omega (arith, is)) (omega (arith, le, h)) (subst (λ ys. AllAbove v ys) (sym (drop_all (suc n) xs (omega (arith, is)))) tt)
    ∙ sym (same h))
  where
    at_test : (m k : Bool) → (b.first ≤ v → m ≡ k) → m ≡ (if ltb v b.first then m else k)
    at_test m k h = grind (arith, nat_tests)

-- the lesser of two next blocks' first numbers
pub lesser_begins : (our their first : ℕ) (ours theirs : List Block) (d e : Block) → our < length ours → their < length theirs
    → first ≡ min (get_or ours our d).first (get_or theirs their e).first
    → ((our < length ours) × HoldsAt (λ block. block.first ≡ first) ours our)
    ⊎ ((their < length theirs) × HoldsAt (λ block. block.first ≡ first) theirs their)
lesser_begins our their first ours theirs d e lt their_lt is = ⊎_elim
    (λ less. inl (lt, λ x. at_default our ours d x lt (ours_least less)))
    (λ le. inr (their_lt, λ x. at_default their theirs e x their_lt (theirs_least le)))
    (cases_lt (get_or ours our d).first (get_or theirs their e).first)
  where
    ours_least : (get_or ours our d).first < (get_or theirs their e).first → (get_or ours our d).first ≡ first
    ours_least less = omega (arith, is, less)

    theirs_least : (get_or theirs their e).first ≤ (get_or ours our d).first → (get_or theirs their e).first ≡ first
    theirs_least le = omega (arith, is, le)

    at_default : (k : ℕ) (xs : List Block) (d x : Block) → k < length xs → (get_or xs k d).first ≡ first → (get_or xs k x).first ≡ first
    at_default k xs d x lt h = subst (λ b. b.first ≡ first) (get_or_default xs k d x lt) h
