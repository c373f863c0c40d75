-- The words of arguments, one behind the other.
use Rattle.std.proofs.Common.{◌≡◌, ℕ, zero, suc, ◌+◌, List, [], ◌∷◌, ◌++◌, drop, refl, sym, ap, ◌∙◌, subst, append_assoc, append-nil}
use Rattle.std.proofs.Common.{Option, Some, None, IfSome, Ok, arith, take, slice_get}
use Rattle.gr_top.specs.Arguments.{Gives, IsWordOf, AreEach, AreWords, IsWordAt}

some_of : {X : Type 0} (a b : X) → Some a ≡ Some b → a ≡ b
some_of a b e = cc

none_of : {X : Type 0} (x : X) → None ≡ Some x → ⊥
none_of x e = cc

-- what is left from a place on begins with what stands there
drop_first : {X : Type 0} (xs : List X) (k : ℕ) (x : X) → slice_get xs k ≡ Some x → drop k xs ≡ x ∷ drop (suc k) xs
drop_first [] k x e = absurd (none_of x e)
drop_first (y ∷ ys) zero x e = ap (λ z. z ∷ ys) (some_of y x e)
drop_first (y ∷ ys) (suc k) x e = drop_first ys k x e

drop_none : {X : Type 0} (xs : List X) (k : ℕ) → slice_get xs k ≡ None → drop k xs ≡ []
drop_none [] zero e = refl
drop_none [] (suc k) e = refl
drop_none (y ∷ ys) zero e = absurd (none_of y (sym e))
drop_none (y ∷ ys) (suc k) e = drop_none ys k e

one_more : (arguments words : List (List ℕ)) (argument word : List ℕ) → AreEach arguments words → IsWordOf argument word
    → AreEach (arguments ++ argument ∷ []) (words ++ word ∷ [])
one_more [] [] argument word each is = (is, tt)
one_more [] (other ∷ words) argument word each is = absurd each
one_more (other ∷ arguments) [] argument word each is = absurd each
one_more (other ∷ arguments) (first ∷ words) argument word each is = (each.0, one_more arguments words argument word each.1 is)

-- The words are those of the arguments before a place, but for the first.
abbrev pub AreWordsBefore : Option (List (List ℕ)) → ℕ → List (List ℕ) → Type 0
AreWordsBefore told place words = IfSome told (λ arguments.
    (before : List (List ℕ)) × (drop 1 arguments ≡ before ++ drop place arguments) × AreEach before words)

pub words_none : (told : Option (List (List ℕ))) → AreWordsBefore told 1 []
words_none None = tt
words_none (Some arguments) = ([], refl, tt)

pub words_more : (told : Option (List (List ℕ))) (place : ℕ) (words : List (List ℕ)) (word : List ℕ) → AreWordsBefore told place words
    → IsWordAt told place (Some word) → AreWordsBefore told (place + 1) (words ++ word ∷ [])
words_more None place words word before at = tt
words_more (Some arguments) place words word before at =
    let next : suc place ≡ place + 1 = omega arith in
    let rest : drop place arguments ≡ at.0 ∷ drop (place + 1) arguments = drop_first arguments place at.0 at.1
    ∙ ap (λ (n : ℕ). at.0 ∷ drop n arguments) next in (
      before.0 ++ at.0 ∷ [],
      before.1 ∙ ap (λ (l : List (List ℕ)). before.0 ++ l) rest
          ∙ sym (append_assoc before.0 (at.0 ∷ []) (drop (place + 1) arguments)),
      one_more before.0 words at.0 word before.2 at.2,
    )

pub words_all : (told : Option (List (List ℕ))) (place : ℕ) (words : List (List ℕ)) → AreWordsBefore told place words
    → IsWordAt told place None → IfSome told (λ arguments. AreWords arguments words)
words_all None place words before at = tt
words_all (Some arguments) place words before at =
    let all : drop 1 arguments ≡ before.0 = before.1 ∙ ap (λ (l : List (List ℕ)). before.0 ++ l) (drop_none arguments place at)
    ∙ append-nil before.0 in
    subst (λ (l : List (List ℕ)). AreEach l words) (sym all) before.2

-- the word of what was put at the front of a buffer
pub word_here : (told : Option (List (List ℕ))) (place count : ℕ) (buffer front text word : List ℕ)
    → IfSome told (λ arguments. Gives (slice_get arguments place) buffer (Ok count)) → front ≡ take count buffer → IsWordOf front text
    → word ≡ text → IsWordAt told place (Some word)
word_here None place count buffer front text word gives is of same = tt
word_here (Some arguments) place count buffer front text word gives is of same =
    (front, gives ∙ ap Some (sym is), subst (IsWordOf front) (sym same) of)
