-- News while they are told apart.
use Rattle.std.proofs.Common.{◌≡◌, List, [], ◌∷◌, ◌++◌, length, map, Option, Some, None, refl, sym, ap, ◌∙◌, reverse, append-nil, append_assoc}
use Rattle.std.specs.List.{cons_option, filter_map}
use Rattle.std.specs.Option.{option_to_list}
use Rattle.std.proofs.lemmas.List.{map-append, reverse-append}
use Rattle.std.proofs.lemmas.List.Elements.{filter_map-append}
use Rattle.gr_post.specs.Passes.{Sending}
use Rattle.gr_member.proofs.Leaving.{empty_of}
use Rattle.gr_runner.specs.declared.gathering.News.{News}
use Rattle.gr_runner.specs.declared.sorting.Sorted.{Sorted}
use Rattle.gr_runner.specs.Sorting.{IsAdded, sends_in, take_in, told_in}

-- These are left, and the others were told apart.
pub record IsSorted (all left : List News) (sorted : Sorted) : Type 0 where
  pub done : List News
  pub parts : all ≡ left ++ done
  pub told : sorted.told ≡ filter_map told_in (reverse done)
  pub takes : sorted.takes.items ≡ filter_map take_in (reverse done)
  pub sends : sorted.sends.items ≡ map sends_in (reverse done)

pub sorted_none : (all : List News) (sorted : Sorted) → sorted.told ≡ [] → sorted.takes.items ≡ [] → sorted.sends.items ≡ []
    → IsSorted all all sorted
sorted_none all sorted t k s = record { done = []; parts = sym (append-nil all); told = t; takes = k; sends = s }

one_option : {X Y : Type 0} (f : X → Option Y) (x : X) → filter_map f (x ∷ []) ≡ option_to_list (f x)
one_option {Y = Y} f x = at (f x)
  where
    at : (o : Option Y) → cons_option o [] ≡ option_to_list o
    at None = refl
    at (Some y) = refl

-- what f gives of the items, with one more of them
one_more : {Y : Type 0} (f : News → Option Y) (done : List News) (one : News) (old : List Y) → old ≡ filter_map f (reverse done)
    → old ++ option_to_list (f one) ≡ filter_map f (reverse (one ∷ done))
one_more {Y = Y} f done one old e =
    ap (λ (l : List Y). l ++ option_to_list (f one)) e
    ∙ sym (ap (filter_map f) (reverse-append (one ∷ []) done) ∙ filter_map-append f (reverse done) (one ∷ [])
    ∙ ap (λ (l : List Y). filter_map f (reverse done) ++ l) (one_option f one))

pub sorted_more : (all left less : List News) (one : News) (old new : Sorted) → IsSorted all left old → left ≡ less ++ one ∷ []
    → IsAdded old one new → IsSorted all less new
sorted_more all left less one old new s e a = record {
  done = one ∷ s.done;
  parts = s.parts ∙ ap (λ (l : List News). l ++ s.done) e ∙ append_assoc less (one ∷ []) s.done;
  told = a.told ∙ one_more told_in s.done one old.told s.told;
  takes = a.takes ∙ one_more take_in s.done one old.takes.items s.takes;
  sends = a.sends ∙ ap (λ (l : List (List Sending)). l ++ sends_in one ∷ []) s.sends
      ∙ sym (ap (map sends_in) (reverse-append (one ∷ []) s.done) ∙ map-append sends_in (reverse s.done) (one ∷ []));
}

pub sorted_all : (all left : List News) (sorted : Sorted) (s : IsSorted all left sorted) → length left ≡ 0 → all ≡ s.done
sorted_all all left sorted s none = s.parts ∙ ap (λ (l : List News). l ++ s.done) (empty_of left none)
