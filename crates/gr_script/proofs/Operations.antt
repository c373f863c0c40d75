-- The operation that a word is, and the kind of its line.
use Rattle.std.proofs.Common.{◌≡◌, ◌∙◌, ℕ, List, [], ◌∷◌, ◌++◌, Option, Some, None}
use Rattle.std.proofs.Common.{refl, sym, ap, inl, inr, bytes_eq, map}
use Rattle.std.specs.List.{find}
use Rattle.std.proofs.lemmas.Bool.{cases_Bool, cond-true, cond-false}
use Rattle.std.proofs.lemmas.Slice.Eq.{bytes_eq-Decides}
use Rattle.gr_script.specs.declared.forms.LineKind.{LineKind}
use Rattle.gr_script.specs.declared.forms.LineKind.TheVariants as kind
use Rattle.gr_script.specs.declared.operation.Keyed.TheVariants.{Get}
use Rattle.gr_script.specs.declared.operation.Operation.{Operation}
use Rattle.gr_script.specs.declared.operation.Operation.TheVariants.{OfKey, OfValue, OfPair}
use Rattle.gr_script.specs.declared.operation.Paired.TheVariants.{ReplaceIf}
use Rattle.gr_script.specs.declared.operation.Valued.TheVariants.{Put}
use Rattle.gr_script.specs.Forms.{client_kinds, more_kinds, kind_of}
use Rattle.gr_script.specs.Operations.{operation_word, operations, operation_called}

-- ---- the operation that a word is

module _ (text : List ℕ) where
  found_word : (all : List Operation) (operation : Operation) → find (λ one. bytes_eq text (operation_word one)) all ≡ Some operation
      → text ≡ operation_word operation
  found_word [] operation is = absurd cc
  found_word (one ∷ more) operation is =
      elim (cases_Bool (bytes_eq text (operation_word one))) [
        | inl same ↦
            (bytes_eq-Decides text (operation_word one)).0 same
            ∙ ap operation_word (some_of one operation
            (sym (cond-true (bytes_eq text (operation_word one)) (Some one) (find (λ one. bytes_eq text (operation_word one)) more) same) ∙ is))
        | inr other ↦
            found_word more operation
            (sym (cond-false (bytes_eq text (operation_word one)) (Some one) (find (λ one. bytes_eq text (operation_word one)) more) other) ∙ is)
      ]
    where
      some_of : (x y : Operation) → Some x ≡ Some y → x ≡ y
      some_of x y e = cc

  -- a call's kind, or that of another line
  abbrev call_or : Option LineKind → Option Operation → Option LineKind
  call_or other None = other
  call_or other (Some operation) = Some (kind.Call operation)

  calls_among : (all : List Operation) (more : List LineKind)
      → kind_of (map kind.Call all ++ more) text ≡ call_or (kind_of more text) (find (λ one. bytes_eq text (operation_word one)) all)
  calls_among [] more = refl
  calls_among (one ∷ all) more =
      elim (cases_Bool (bytes_eq text (operation_word one))) [
        | inl same ↦
            cond-true (bytes_eq text (operation_word one)) (Some (kind.Call one)) (kind_of (map kind.Call all ++ more) text) same
            ∙ sym (ap (call_or (kind_of more text))
            (cond-true (bytes_eq text (operation_word one)) (Some one) (find (λ one. bytes_eq text (operation_word one)) all) same))
        | inr other ↦
            cond-false (bytes_eq text (operation_word one)) (Some (kind.Call one)) (kind_of (map kind.Call all ++ more) text) other
            ∙ calls_among all more
            ∙ sym (ap (call_or (kind_of more text))
            (cond-false (bytes_eq text (operation_word one)) (Some one) (find (λ one. bytes_eq text (operation_word one)) all) other))
      ]

  pub client_call : (operation : Operation) → operation_called text ≡ Some operation
      → kind_of client_kinds text ≡ Some (kind.Call operation)
  client_call operation is = calls_among operations more_kinds ∙ ap (call_or (kind_of more_kinds text)) is

  pub client_other : operation_called text ≡ None → kind_of client_kinds text ≡ kind_of more_kinds text
  client_other none = calls_among operations more_kinds ∙ ap (call_or (kind_of more_kinds text)) none

pub called_word : (text word rest : List ℕ) (operation : Operation) → text ≡ word ++ 0x20 ∷ rest
    → operation_called word ≡ Some operation → text ≡ operation_word operation ++ 0x20 ∷ rest
called_word text word rest operation is called =
    is ∙ ap (λ (w : List ℕ). w ++ 0x20 ∷ rest) (found_word word operations operation called)

pub word_called : (operation : Operation) → kind_of client_kinds (operation_word operation) ≡ Some (kind.Call operation)
word_called (OfKey Get) = refl
word_called (OfKey _) = refl
word_called (OfValue Put) = refl
word_called (OfValue _) = refl
word_called (OfPair ReplaceIf) = refl
