-- What comes in at a deed, and what wins of it.
use Rattle.std.proofs.Common.{◌≡◌, ◌⊎◌, ◌∙◌, ℕ, List, [], ◌∷◌, Bool, true, false, ◌&&◌, not, refl, sym, ap, inl, inr, cond, bytes_eq, if◌then◌else◌}
use Rattle.std.specs.Prelude.{Option, Some, filter}
use Rattle.std.specs.Ordering.{nat_cmp}
use Rattle.std.specs.Cmp.Lexicographic.{slice_cmp}
use Rattle.std.specs.FinMap as finite
use Rattle.std.proofs.lemmas.Cmp.{nat_list_cmp_total}
use Rattle.std.proofs.lemmas.Map.Text.{is_eq-slice_cmp}
use Rattle.std.proofs.lemmas.Slice.Eq.{bytes_eq-Decides}
use Rattle.std.specs.Option.{option_or}
use Rattle.gr_stamp.specs.declared.change.Change.{Change}
use Rattle.gr_stamp.specs.Winner.{wins}
use Rattle.gr_vector.specs.Ids.{Id, has_id}
use Rattle.gr_history.specs.declared.deed.Deed.{Deed}
use Rattle.gr_history.specs.Ids.{id_of, ids, known}
use Rattle.gr_law.proofs.Lists.{either, known_ids}
use Rattle.gr_route.specs.Turning.{Changes, fresh, winners, won_at}
use Rattle.gr_route.proofs.Leaving.{better, won_over}

true_isnt : true ≡ false → ⊥
true_isnt e = cc

pub bytes_swapped : (one two : List ℕ) → bytes_eq one two ≡ bytes_eq two one
bytes_swapped one two = at_both (either (bytes_eq one two)) (either (bytes_eq two one))
  where
    at_both : (bytes_eq one two ≡ true) ⊎ (bytes_eq one two ≡ false) → (bytes_eq two one ≡ true) ⊎ (bytes_eq two one ≡ false)
        → bytes_eq one two ≡ bytes_eq two one
    at_both (inl is) (inl is_too) = is ∙ sym is_too
    at_both (inl is) (inr isnt) =
        absurd (true_isnt (sym ((bytes_eq-Decides two one).1 (sym ((bytes_eq-Decides one two).0 is))) ∙ isnt))
    at_both (inr isnt) (inl is) =
        absurd (true_isnt (sym ((bytes_eq-Decides one two).1 (sym ((bytes_eq-Decides two one).0 is))) ∙ isnt))
    at_both (inr isnt) (inr isnt_too) = isnt ∙ sym isnt_too

pub filtered_alike : {A : Type 0} → (p q : A → Bool) (xs : List A) → ((x : A) → p x ≡ q x) → filter p xs ≡ filter q xs
filtered_alike p q [] alike = refl
filtered_alike p q (x ∷ xs) alike =
    ap (λ b. if b then x ∷ filter p xs else filter p xs) (alike x)
    ∙ ap (λ rest. if q x then x ∷ rest else rest) (filtered_alike p q xs alike)

-- the rows of an image that a history doesn't know
pub fresh_known : (those : List Id) (past : List Deed) (rows : List Change) → those ≡ known past
    → fresh those rows ≡ filter (λ row. not (has_id (id_of row) (ids past))) rows
fresh_known those past rows is =
    filtered_alike (λ row. not (has_id (id_of row) those)) (λ row. not (has_id (id_of row) (ids past))) rows
    (λ row. ap not (known_ids those past is (id_of row)))

-- what won and what stands give what wins
pub won_is : (changes : Changes) (came : List Change) (key : List ℕ)
    → won_at (winners changes came) key (finite.get changes key) ≡ won_over key came (finite.get changes key)
won_is changes [] key = ap (λ found. option_or found (finite.get changes key)) (finite.get-empty {X = Change} (slice_cmp nat_cmp) key)
won_is changes (change ∷ came) key =
    at_wins (won_is changes came key) (wins change (won_at won change.key (finite.get changes change.key))) refl (either (bytes_eq change.key key))
  where
    won : Changes
    won = winners changes came

    stands : Option Change
    stands = finite.get changes key

    got : finite.get (finite.insert won change.key change) key ≡ cond (bytes_eq change.key key) (Some change) (finite.get won key)
    got =
        finite.get-insert nat_list_cmp_total won change.key change key
        ∙ ap (λ b. cond b (Some change) (finite.get won key)) (is_eq-slice_cmp key change.key ∙ bytes_swapped key change.key)

    at_wins : won_at won key stands ≡ won_over key came stands → (b : Bool) → wins change (won_at won change.key (finite.get changes change.key)) ≡ b
        → (bytes_eq change.key key ≡ true) ⊎ (bytes_eq change.key key ≡ false)
        → won_at (if b then finite.insert won change.key change else won) key stands ≡ better key change (won_over key came stands)
    at_wins next true e (inl is) =
        let same : change.key ≡ key = (bytes_eq-Decides change.key key).0 is in
        let best : wins change (won_over key came stands) ≡ true =
        ap (wins change) (sym next) ∙ ap (λ k. wins change (won_at won k (finite.get changes k))) (sym same) ∙ e in
        ap (λ found. option_or found stands) (got ∙ ap (λ b. cond b (Some change) (finite.get won key)) is)
        ∙ sym (ap (λ b. if b && wins change (won_over key came stands) then Some change else won_over key came stands) is
        ∙ ap (λ b. if b then Some change else won_over key came stands) best)
    at_wins next true e (inr isnt) =
        ap (λ found. option_or found stands) (got ∙ ap (λ b. cond b (Some change) (finite.get won key)) isnt) ∙ next
        ∙ sym (ap (λ b. if b && wins change (won_over key came stands) then Some change else won_over key came stands) isnt)
    at_wins next false e (inl is) =
        let same : change.key ≡ key = (bytes_eq-Decides change.key key).0 is in
        let worse : wins change (won_over key came stands) ≡ false =
        ap (wins change) (sym next) ∙ ap (λ k. wins change (won_at won k (finite.get changes k))) (sym same) ∙ e in
        next
        ∙ sym (ap (λ b. if b && wins change (won_over key came stands) then Some change else won_over key came stands) is
        ∙ ap (λ b. if b then Some change else won_over key came stands) worse)
    at_wins next false e (inr isnt) =
        next ∙ sym (ap (λ b. if b && wins change (won_over key came stands) then Some change else won_over key came stands) isnt)
