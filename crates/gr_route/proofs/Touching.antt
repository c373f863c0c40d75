-- The keys that a deed turns are among those that it can turn.
use Rattle.std.proofs.Common.{◌≡◌, ◌⊎◌, ℕ, List, [], ◌∷◌, Bool, true, false, ◌||◌, not, refl, sym, ap, ◌∙◌, subst, inl, inr, cond, bytes_eq, map}
use Rattle.std.specs.Prelude.{Option, Some, None, if◌then◌else◌}
use Rattle.std.specs.List.Sorted.{IsStrictlySortedBy}
use Rattle.std.specs.Ordering.{nat_cmp, eq_by_cmp}
use Rattle.std.specs.Cmp.Lexicographic.{slice_cmp}
use Rattle.std.specs.FinMap as finite
use Rattle.std.proofs.lemmas.Map.Text.{is_eq-slice_cmp}
use Rattle.std.proofs.lemmas.Slice.Eq.{bytes_eq-Decides}
use Rattle.gr_stamp.specs.declared.change.Change.{Change}
use Rattle.gr_vector.specs.Ids.{Id}
use Rattle.gr_history.specs.declared.deed.Deed.{Deed}
use Rattle.gr_history.specs.declared.deed.Deed.TheVariants.{Call, Asked, Taken, Gave, Imaged, Reported, Heard, Swept}
use Rattle.gr_history.specs.Regions.{with_key}
use Rattle.gr_history.specs.Standing.{came, drops, has_key, is_known, names, standing}
use Rattle.gr_history.specs.Turned.{turns}
use Rattle.gr_law.specs.Grids.{Among}
use Rattle.gr_law.proofs.Images.{key_added, key_kept}
use Rattle.gr_law.proofs.Keys.{IsInOrder, in_order_with_key}
use Rattle.gr_law.proofs.Lists.{and_right}
use Rattle.gr_law.proofs.Turning.{same_unturned}
use Rattle.gr_by_key.specs.Maps.{names_in}
use Rattle.gr_route.specs.Turning.{Changes, Stand, could_drop, touched, with_keys}
use Rattle.gr_route.proofs.Leaving.{left_stands, none_came, won_over}

-- ---- keys in order

with_in_order : (more keys : List (List ℕ)) → IsInOrder keys → IsInOrder (with_keys keys more)
with_in_order [] keys is = is
with_in_order (key ∷ more) keys is = with_in_order more (with_key key keys) (in_order_with_key key keys is)

none_in_order : IsInOrder []
unfolding IsStrictlySortedBy
none_in_order = tt

pub touched_in_order : (deed : Deed) (changes : Changes) (came : List Change) → IsInOrder (touched deed changes came)
touched_in_order deed changes came =
    with_in_order (map (λ change. change.key) came) (with_keys [] (could_drop deed changes))
    (with_in_order (could_drop deed changes) [] none_in_order)

-- ---- keys that are put into a set are in it

with_before : (key : List ℕ) (more keys : List (List ℕ)) → Among key keys → Among key (with_keys keys more)
with_before key [] keys a = a
with_before key (other ∷ more) keys a = with_before key more (with_key other keys) (key_kept key other keys a)

with_more : (key : List ℕ) (more keys : List (List ℕ)) → Among key more → Among key (with_keys keys more)
with_more key [] keys a = absurd a
with_more key (other ∷ more) keys (inl is) =
    with_before key more (with_key other keys) (subst (λ k. Among key (with_key k keys)) is (key_added key keys))
with_more key (other ∷ more) keys (inr a) = with_more key more (with_key other keys) a

either_holds : (a b : Bool) → (a || b) ≡ true → (a ≡ true) ⊎ (b ≡ true)
either_holds true b e = inl refl
either_holds false b e = inr e

has_among : (key : List ℕ) (came : List Change) → has_key key came ≡ true → Among key (map (λ change. change.key) came)
has_among key [] e = absurd cc
has_among key (change ∷ came) e = at_either (either_holds (bytes_eq change.key key) (has_key key came) e) (has_among key came)
  where
    at_either : (bytes_eq change.key key ≡ true) ⊎ (has_key key came ≡ true)
        → (has_key key came ≡ true → Among key (map (λ change. change.key) came)) → Among key (map (λ change. change.key) (change ∷ came))
    at_either (inl is) next = inl (sym ((bytes_eq-Decides change.key key).0 is))
    at_either (inr has) next = inr (next has)

names_among : (key : List ℕ) (keys : List (List ℕ)) → names key keys ≡ true → Among key keys
names_among key [] e = absurd cc
names_among key (first ∷ keys) e = at_either (either_holds (bytes_eq first key) (names key keys) e) (names_among key keys)
  where
    at_either : (bytes_eq first key ≡ true) ⊎ (names key keys ≡ true) → (names key keys ≡ true → Among key keys) → Among key (first ∷ keys)
    at_either (inl is) next = inl (sym ((bytes_eq-Decides first key).0 is))
    at_either (inr named) next = inr (next named)

-- ---- a key that is dropped, and one that is turned

found_among : (key : List ℕ) (change : Change) (es : List (List ℕ × Change)) → finite.find (slice_cmp nat_cmp) key es ≡ Some change
    → Among key (map (λ entry. entry.0) es)
found_among key change [] is = absurd cc
found_among key change (entry ∷ es) is = at_test (eq_by_cmp (slice_cmp nat_cmp) key entry.0) refl is (found_among key change es)
  where
    at_test : (b : Bool) → eq_by_cmp (slice_cmp nat_cmp) key entry.0 ≡ b
        → cond b (Some entry.1) (finite.find (slice_cmp nat_cmp) key es) ≡ Some change
        → (finite.find (slice_cmp nat_cmp) key es ≡ Some change → Among key (map (λ entry. entry.0) es))
        → Among key (map (λ entry. entry.0) (entry ∷ es))
    at_test true e is next = inl ((bytes_eq-Decides key entry.0).0 (sym (is_eq-slice_cmp key entry.0) ∙ e))
    at_test false e is next = inr (next is)

known_among : (changes : Changes) (ids : List Id) (key : List ℕ) (stands : Option Change) → finite.get changes key ≡ stands
    → is_known ids stands ≡ true → Among key (names_in changes)
known_among changes ids key None is known = absurd cc
known_among changes ids key (Some change) is known =
    found_among key change (finite.entries changes) (sym (finite.get-entries changes key) ∙ is)

dropped_among : (deed : Deed) (changes : Changes) (key : List ℕ) (stands : Option Change) → finite.get changes key ≡ stands
    → drops key deed stands ≡ true → Among key (could_drop deed changes)
dropped_among (Call client to seq ask reply made) changes key stands is e = absurd cc
dropped_among (Asked client seq ask reply) changes key stands is e = absurd cc
dropped_among (Taken change verdict) changes key stands is e = absurd cc
dropped_among (Gave to what) changes key stands is e = absurd cc
dropped_among (Imaged image) changes key stands is e =
    known_among changes image.vector.ids key stands is (and_right (not (has_key key image.rows)) (is_known image.vector.ids stands) e)
dropped_among (Reported report) changes key stands is e = absurd cc
dropped_among (Heard report) changes key stands is e = absurd cc
dropped_among (Swept moment expired) changes key stands is e = names_among key expired e

true_isnt : true ≡ false → ⊥
true_isnt e = cc

pub turned_touched : (deed : Deed) (past : List Deed) (changes : Changes) → Stand changes past → (key : List ℕ) → turns deed past key ≡ true
    → Among key (touched deed changes (came deed past))
turned_touched deed past changes stand key is =
    at_case (drops key deed (standing key past)) refl (has_key key (came deed past)) refl
  where
    dropped : List (List ℕ)
    dropped = with_keys [] (could_drop deed changes)

    came_keys : List (List ℕ)
    came_keys = map (λ change. change.key) (came deed past)

    at_case : (d : Bool) → drops key deed (standing key past) ≡ d → (h : Bool) → has_key key (came deed past) ≡ h
        → Among key (touched deed changes (came deed past))
    at_case true e h f =
        with_before key came_keys dropped
        (with_more key (could_drop deed changes) [] (dropped_among deed changes key (standing key past) (stand key) e))
    at_case false e true f = with_more key came_keys dropped (has_among key (came deed past) f)
    at_case false e false f =
        let nothing : Option Change = None in
        let left : standing key (deed ∷ past) ≡ standing key past =
        sym (left_stands deed past key)
        ∙ ap (λ b. if b then nothing else won_over key (came deed past) (standing key past)) e
        ∙ none_came key (came deed past) (standing key past) f in
        absurd (true_isnt (sym is ∙ same_unturned deed past key left))
