-- What is found to turn is what the history turns, and what is left stands.
use Rattle.std.proofs.Common.{◌≡◌, ◌⊎◌, ℕ, List, [], ◌∷◌, true, false, refl, sym, ap, ◌∙◌, inl, inr, cond, bytes_eq, fold, if◌then◌else◌}
use Rattle.std.specs.Prelude.{Option, None, map, filter}
use Rattle.std.specs.FinMap as finite
use Rattle.std.proofs.lemmas.Map.Text.{is_eq-slice_cmp}
use Rattle.std.proofs.lemmas.Slice.Eq.{bytes_eq-Decides}
use Rattle.gr_stamp.specs.declared.change.Change.{Change}
use Rattle.gr_vector.specs.Ids.{Id}
use Rattle.gr_vector.specs.Order.{united}
use Rattle.gr_vector.proofs.Same.{united-append}
use Rattle.gr_history.specs.declared.deed.Deed.{Deed}
use Rattle.gr_history.specs.Ids.{ids, ids_at}
use Rattle.gr_history.specs.Standing.{came, drops, standing}
use Rattle.gr_history.specs.Turned.{is_other, turned, turned_at, turned_by, turned_keys, turns}
use Rattle.gr_law.specs.Grids.{Among}
use Rattle.gr_law.proofs.Lists.{either}
use Rattle.gr_law.proofs.Turning.{among_turned, turned_of, unturned_same}
use Rattle.gr_route.specs.declared.turning.Standing.{Standing}
use Rattle.gr_route.specs.Turning.{Changes, IsBehind, Stand, left_by, moved_by, touched, turned_in, turns_by, winners, with_move}
use Rattle.gr_route.proofs.Winning.{filtered_alike, won_is}
use Rattle.gr_by_key.proofs.Maps.{get_with_value}
use Rattle.gr_route.proofs.Leaving.{left_at, left_stands}
use Rattle.gr_route.proofs.Touching.{touched_in_order, turned_touched}

mapped_alike : {A : Type 0} → (f g : List ℕ → A) (keys : List (List ℕ)) → ((key : List ℕ) → f key ≡ g key) → map f keys ≡ map g keys
mapped_alike f g [] alike = refl
mapped_alike f g (key ∷ keys) alike = ap (λ one. one ∷ map f keys) (alike key) ∙ ap (λ rest. g key ∷ rest) (mapped_alike f g keys alike)

-- a key with what stands there behind a deed
abbrev move_at : Deed → List Deed → List ℕ → List ℕ × Option Change
move_at deed past key = (key, standing key (deed ∷ past))

module _ (deed : Deed) (past : List Deed) (changes : Changes) (stand : Stand changes past) where
  abbrev pub won : Changes
  won = winners changes (came deed past)

  lefts : (key : List ℕ) → left_by deed won key (finite.get changes key) ≡ standing key (deed ∷ past)
  lefts key =
      ap (λ one. if drops key deed (finite.get changes key) then None else one) (won_is changes (came deed past) key)
      ∙ ap (left_at deed (came deed past) key) (stand key) ∙ left_stands deed past key

  found_turns : (key : List ℕ) → turns_by deed won changes key ≡ turns deed past key
  found_turns key =
      ap (λ before. is_other before (left_by deed won key (finite.get changes key))) (stand key)
      ∙ ap (is_other (standing key past)) (lefts key)

  found_keys : filter (turns_by deed won changes) (touched deed changes (came deed past)) ≡ turned_keys deed past
  found_keys =
      filtered_alike (turns_by deed won changes) (turns deed past) (touched deed changes (came deed past)) found_turns
      ∙ sym (turned_of deed past (touched deed changes (came deed past)) (touched_in_order deed changes (came deed past)) (turned_touched deed past changes stand))

  found_turned : (key : List ℕ) → turned_in deed won changes key ≡ turned_at deed past key
  found_turned key =
      ap (λ before. turned_by key before (left_by deed won key (finite.get changes key))) (stand key)
      ∙ ap (turned_by key (standing key past)) (lefts key)

  pub turned_found : map (turned_in deed won changes) (filter (turns_by deed won changes) (touched deed changes (came deed past)))
      ≡ turned deed past
  turned_found =
      ap (map (turned_in deed won changes)) found_keys
      ∙ mapped_alike (turned_in deed won changes) (turned_at deed past) (turned_keys deed past) found_turned

  moves_found : map (moved_by deed won changes) (filter (turns_by deed won changes) (touched deed changes (came deed past)))
      ≡ map (move_at deed past) (turned_keys deed past)
  moves_found =
      ap (map (moved_by deed won changes)) found_keys
      ∙ mapped_alike (moved_by deed won changes) (move_at deed past) (turned_keys deed past)
      (λ key. ap (λ (left : Option Change). (key, left)) (lefts key))

moved_there : (deed : Deed) (past : List Deed) (keys : List (List ℕ)) (changes : Changes) (key : List ℕ)
    → Among key keys ⊎ (finite.get changes key ≡ standing key (deed ∷ past))
    → finite.get (fold with_move changes (map (move_at deed past) keys)) key ≡ standing key (deed ∷ past)
moved_there deed past [] changes key (inl a) = absurd a
moved_there deed past [] changes key (inr is) = is
moved_there deed past (first ∷ keys) changes key there =
    moved_there deed past keys (with_move changes (move_at deed past first)) key (at_key (either (bytes_eq first key)) there)
  where
    stands : Option Change
    stands = standing first (deed ∷ past)

    got : finite.get (with_move changes (move_at deed past first)) key ≡ cond (bytes_eq first key) stands (finite.get changes key)
    got = get_with_value first stands changes key ∙ ap (λ b. cond b stands (finite.get changes key)) (is_eq-slice_cmp first key)

    true_isnt : true ≡ false → ⊥
    true_isnt e = cc

    at_key : (bytes_eq first key ≡ true) ⊎ (bytes_eq first key ≡ false)
        → Among key (first ∷ keys) ⊎ (finite.get changes key ≡ standing key (deed ∷ past))
        → Among key keys ⊎ (finite.get (with_move changes (move_at deed past first)) key ≡ standing key (deed ∷ past))
    at_key (inl is) h = inr (got ∙ ap (λ b. cond b stands (finite.get changes key)) is ∙ ap (λ k. standing k (deed ∷ past)) ((bytes_eq-Decides first key).0 is))
    at_key (inr apart) (inl (inl is)) = absurd (true_isnt (sym ((bytes_eq-Decides first key).1 (sym is)) ∙ apart))
    at_key (inr apart) (inl (inr a)) = inl a
    at_key (inr apart) (inr same) = inr (got ∙ ap (λ b. cond b stands (finite.get changes key)) apart ∙ same)

stand_behind : (deed : Deed) (past : List Deed) (changes : Changes) → Stand changes past
    → Stand (fold with_move changes (map (moved_by deed (winners changes (came deed past)) changes)
    (filter (turns_by deed (winners changes (came deed past)) changes) (touched deed changes (came deed past))))) (deed ∷ past)
stand_behind deed past changes stand key =
    ap (λ (moves : List (List ℕ × Option Change)). finite.get (fold with_move changes moves) key) (moves_found deed past changes stand)
    ∙ moved_there deed past (turned_keys deed past) changes key (at_turn (either (turns deed past key)))
  where
    at_turn : (turns deed past key ≡ true) ⊎ (turns deed past key ≡ false)
        → Among key (turned_keys deed past) ⊎ (finite.get changes key ≡ standing key (deed ∷ past))
    at_turn (inl is) = inl (among_turned deed past key is)
    at_turn (inr isnt) = inr (stand key ∙ sym (unturned_same deed past key isnt))

-- what stands behind one deed more
pub is_behind : (deed : Deed) (past : List Deed) (before behind : Standing) (moves : List (List ℕ × Option Change)) → IsBehind past before
    → moves ≡ map (moved_by deed (winners before.changes (came deed past)) before.changes)
    (filter (turns_by deed (winners before.changes (came deed past)) before.changes) (touched deed before.changes (came deed past)))
    → behind.changes ≡ fold with_move before.changes moves → behind.known.ids ≡ united before.known.ids (ids_at deed)
    → IsBehind (deed ∷ past) behind
is_behind deed past before behind moves is moves_are changed noted = (
  λ key. ap (λ all. finite.get all key) (changed ∙ ap (fold with_move before.changes) moves_are)
      ∙ stand_behind deed past before.changes is.0 key,
  noted ∙ ap (λ (ids : List Id). united ids (ids_at deed)) is.1 ∙ sym (united-append [] (ids_at deed) (ids past)),
)
