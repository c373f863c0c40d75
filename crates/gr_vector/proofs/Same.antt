-- What laws over histories need: lists that hold the same ids have one top and cover the same, and a list's ids are united part by part.
use Rattle.std.proofs.Common.{zero, suc, ◌≡◌, ℕ, ◌≤◌, List, [], ◌∷◌, ◌++◌, refl, sym, ap, ◌∙◌, ⊎_elim, arith}
use Rattle.gr_vector.specs.Ids.{Id, has_id, top, covers}
use Rattle.gr_vector.specs.Order.{with_id, united}
use Rattle.gr_vector.proofs.Tops.{has-top, top-has}

top_below : (member : ℕ) (one two : List Id) → ((id : Id) → has_id id one ≡ has_id id two) → top member one ≤ top member two
top_below member one two same = ⊎_elim
    (λ none. rw none (omega arith))
    (λ has. has-top member (top member one) two (sym (same (record { member = member; rv = top member one })) ∙ has))
    (top-has member one)

pub same_top : (member : ℕ) (one two : List Id) → ((id : Id) → has_id id one ≡ has_id id two) → top member one ≡ top member two
same_top member one two same =
    let a = top_below member one two same in
    let b = top_below member two one (λ id. sym (same id)) in
    omega (arith, a, b)

pub same_covers : (member upto : ℕ) (one two : List Id) → ((id : Id) → has_id id one ≡ has_id id two) → covers member upto one
    ≡ covers member upto two
same_covers member zero one two same = refl
same_covers member (suc n) one two same = rw (same (record { member = member; rv = suc n }), same_covers member n one two same) refl

pub united-append : (ids new old : List Id) → united ids (new ++ old) ≡ united (united ids old) new
united-append ids [] old = refl
united-append ids (id ∷ new) old = ap (with_id id) (united-append ids new old)
