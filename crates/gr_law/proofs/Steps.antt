-- What one deed changes of what stands, and of the floor.
use Rattle.std.proofs.Common.{◌≡◌, ◌⊎◌, ℕ, ◌≤◌, List, [], ◌∷◌, ◌++◌, Bool, true, false, ◌&&◌, not, refl, sym, ap, ◌∙◌, subst, inl, inr}
use Rattle.std.proofs.Common.{⊎_elim, arith, bytes_eq, if◌then◌else◌}
use Rattle.std.specs.Prelude.{Option, Some, None}
use Rattle.std.specs.List.{filter_map}
use Rattle.std.proofs.lemmas.Slice.Eq.{bytes_eq-Decides}
use Rattle.gr_history.specs.declared.identity.Identity.{Identity}
use Rattle.gr_history.specs.Regions.{keys_of}
use Rattle.gr_stamp.specs.declared.change.Change.{Change}
use Rattle.gr_stamp.specs.Version.{beats}
use Rattle.gr_history.specs.declared.image.Image.{Image}
use Rattle.gr_history.specs.declared.verdict.Verdict.{Verdict}
use Rattle.gr_history.specs.declared.verdict.Verdict.TheVariants.{Applied, Discarded, Repeat}
use Rattle.gr_history.specs.declared.deed.Deed.{Deed}
use Rattle.gr_history.specs.declared.deed.Deed.TheVariants.{Call, Taken, Imaged, Swept}
use Rattle.gr_history.specs.Ids.{id_of, ids_at, ids}
use Rattle.gr_vector.specs.Ids.{has_id}
use Rattle.gr_history.specs.Made.{made_at, made}
use Rattle.gr_history.specs.Standing.{came, names, drops, lasting, standing, changes}
use Rattle.gr_history.specs.Calls.{ver_of}
use Rattle.gr_stamp.specs.Winner.{is_removal}
use Rattle.gr_history.specs.Floor.{greatest_ver}
use Rattle.gr_history.specs.Stable.{is_due, is_due_from}
use Rattle.gr_history.specs.Clock.{since}
use Rattle.gr_law.specs.Grids.{identity, Among, Older, Grid}
use Rattle.gr_law.specs.Integrity.{IsMade, IsGenuine, IsGenuineDeed, IsSound}
use Rattle.gr_history.specs.Lawful.{IsLawful, IsLawfulDeed}
use Rattle.gr_history.specs.Verdicts.{verdict_over}
use Rattle.gr_vector.proofs.Tops.{has-top}
use Rattle.gr_vector.proofs.Order.{same_id_itself}
use Rattle.gr_law.proofs.Lists.{among_either, among_left, among_filter, has_left, has_right, either, names-filter}
use Rattle.gr_law.proofs.Winners.{winner-ver, winner-grows, winner-best, Best, IsBest}
use Rattle.gr_law.proofs.Made.{older_past, older_made, made_stamped, made_known_at}

-- What of an image the laws use, whoever gave it.
pub record IsCarried (grid : Grid) (image : Image) : Type 0 where
  pub rows_made : (row : Change) → Among row image.rows → IsMade grid row
  pub rows_known : (row : Change) → Among row image.rows → has_id (id_of row) image.vector.ids ≡ true
  pub reached : (change : Change) → IsMade grid change → has_id (id_of change) image.vector.ids ≡ true
      → (change.stamp.ver ≤ image.floor)
      ⊎ ((row : Change) × Among row image.rows × (bytes_eq row.key change.key ≡ true) × (change.stamp.ver ≤ row.stamp.ver))

abbrev pub IsCarriedDeed : Grid → Deed → Type 0
IsCarriedDeed grid (Imaged image) = IsCarried grid image
IsCarriedDeed grid deed = Unit {0}

abbrev pub AreCarried : Grid → List Deed → Type 0
AreCarried grid [] = Unit {0}
AreCarried grid (deed ∷ past) = IsCarriedDeed grid deed × AreCarried grid past

pub true_isnt_false : true ≡ false → ⊥
true_isnt_false h = cc

-- what comes in was made, and is known from then on
pub came_sound : (grid : Grid) → IsSound grid → (me : ℕ) (deed : Deed) (past : List Deed) → Older (deed ∷ past) (grid.history me)
    → IsLawfulDeed (identity grid me) (grid.opening me) deed past → IsGenuineDeed grid me deed → IsCarriedDeed grid deed
    → (change : Change) → Among change (came deed past) → IsMade grid change × (has_id (id_of change) (ids_at deed) ≡ true)
came_sound grid sound me (Call client to seq ask reply own) past o law own_ carried change a =
    let a' : Among change (made_at (Call client to seq ask reply own)) = a in
    let s = made_stamped (identity grid me) (grid.opening me) change (Call client to seq ask reply own) past law a' in (
      subst (λ k. Among change (made (grid.history k))) (sym s.member_is)
          (older_made change (Call client to seq ask reply own ∷ past) (grid.history me) o
          (among_left change (made_at (Call client to seq ask reply own)) (made past) a')),
      made_known_at change (Call client to seq ask reply own) a',
    )
came_sound grid sound me (Taken c Applied) past o law own carried change (inl is) =
    (subst (IsMade grid) (sym is) own, rw (is, same_id_itself (id_of c)) refl)
came_sound grid sound me (Taken c Applied) past o law own carried change (inr a) = absurd a
came_sound grid sound me (Taken c Discarded) past o law own carried change (inl is) =
    (subst (IsMade grid) (sym is) own, rw (is, same_id_itself (id_of c)) refl)
came_sound grid sound me (Taken c Discarded) past o law own carried change (inr a) = absurd a
came_sound grid sound me (Imaged image) past o law own carried change a =
    let row = (among_filter (λ row. not (has_id (id_of row) (ids past))) change image.rows a).0 in
    (carried.rows_made change row, carried.rows_known change row)
came_sound grid sound me deed past o law own carried change a = absurd a

-- what comes in was not known
not_true : (b : Bool) → (b ≡ true → ⊥) → b ≡ false
not_true true h = absurd (h refl)
not_true false h = refl

not_isnt : (b : Bool) → not b ≡ true → b ≡ false
not_isnt true h = absurd (true_isnt_false (sym h))
not_isnt false h = refl

-- what was told of a change was told of a new one, unless it is a repeat
new_told : (told : Verdict) → (told ≡ Repeat → ⊥) → (known : Bool) (held : Option Change) (change : Change)
    → told ≡ verdict_over known held change → known ≡ false
new_told told other true held change h = absurd (other h)
new_told told other false held change h = refl

pub repeat_known : (known : Bool) (held : Option Change) (change : Change) → Repeat ≡ verdict_over known held change → known ≡ true
repeat_known true held change h = refl
repeat_known false None change h = absurd (no h)
  where
    no : Repeat ≡ Applied → ⊥
    no e = cc
repeat_known false (Some one) change h = absurd (at_test (beats change.stamp one.stamp) h)
  where
    at_test : (b : Bool) → Repeat ≡ (if b then Applied else Discarded) → ⊥
    at_test true e = cc
    at_test false e = cc

pub came_fresh : (id : Identity) (opening : ℕ) (deed : Deed) (past : List Deed)
    → IsLawfulDeed id opening deed past
    → (change : Change) → Among change (came deed past) → has_id (id_of change) (ids past) ≡ false
came_fresh id opening (Call client to seq ask reply own) past law change a =
    let s = made_stamped id opening change (Call client to seq ask reply own) past law a in
    not_true _ (λ has. omega (
      arith,
      has-top id.member change.stamp.rv (ids past)
          (subst (λ m. has_id (record { member = m; rv = change.stamp.rv }) (ids past) ≡ true) s.member_is has),
      s.rv_is,
    ))
came_fresh id opening (Taken c Applied) past law change (inl is) = rw is (new_told Applied (λ e. cc) _ _ c law)
came_fresh id opening (Taken c Applied) past law change (inr a) = absurd a
came_fresh id opening (Taken c Discarded) past law change (inl is) = rw is (new_told Discarded (λ e. cc) _ _ c law)
came_fresh id opening (Taken c Discarded) past law change (inr a) = absurd a
came_fresh id opening (Imaged image) past law change a =
    not_isnt _ (among_filter (λ row. not (has_id (id_of row) (ids past))) change image.rows a).1
came_fresh id opening deed past law change a = absurd a

-- what lasts was made, and is known
pub lasting_sound : (grid : Grid) → IsSound grid → (me : ℕ) (past : List Deed) → Older past (grid.history me)
    → IsLawful (identity grid me) (grid.opening me) past → IsGenuine grid me past → AreCarried grid past → (key : List ℕ)
    → (change : Change) → Among change (lasting key past) → IsMade grid change × (has_id (id_of change) (ids past) ≡ true)
lasting_sound grid sound me [] o law own carried key change a = absurd a
lasting_sound grid sound me (deed ∷ past) o law own carried key change a =
    at_drop (drops key deed (standing key past)) a
    (λ a. lasting_sound grid sound me past (older_past deed past (grid.history me) o) law.1 own.1 carried.1 key change a)
  where
    at_drop : (b : Bool) → Among change (if b then [] else came deed past ++ lasting key past)
        → (Among change (lasting key past) → IsMade grid change × (has_id (id_of change) (ids past) ≡ true))
        → IsMade grid change × (has_id (id_of change) (ids (deed ∷ past)) ≡ true)
    at_drop true a next = absurd a
    at_drop false a next = ⊎_elim
        (λ here. let s = came_sound grid sound me deed past o law.0 own.0 carried.0 change here in
        (s.0, has_left (id_of change) (ids_at deed) (ids past) s.1))
        (λ there. let s = next there in (s.0, has_right (id_of change) (ids_at deed) (ids past) s.1))
        (among_either change (came deed past) (lasting key past) a)

best_among : (key : List ℕ) (changes : List Change) (found : Option Change) (best : Change) → IsBest key changes found → found ≡ Some best
    → Best key changes best
best_among key changes None best h is = absurd (no is)
  where
    no : None ≡ Some best → ⊥
    no e = cc
best_among key changes (Some one) best h is = let e : one ≡ best = cc in subst (Best key changes) e h

pub standing_best : (key : List ℕ) (past : List Deed) (best : Change) → standing key past ≡ Some best → Best key (lasting key past) best
standing_best key past best is = best_among key (lasting key past) (standing key past) best (winner-best key (lasting key past)) is

pub standing_sound : (grid : Grid) → IsSound grid → (me : ℕ) (past : List Deed) → Older past (grid.history me)
    → IsLawful (identity grid me) (grid.opening me) past → IsGenuine grid me past → AreCarried grid past → (key : List ℕ)
    → (best : Change) → standing key past ≡ Some best → IsMade grid best × (has_id (id_of best) (ids past) ≡ true)
standing_sound grid sound me past o law own carried key best is =
    lasting_sound grid sound me past o law own carried key best (standing_best key past best is).among

-- A key that isn't dropped keeps what stands or gets more.
pub kept_ver : (key : List ℕ) (deed : Deed) (past : List Deed) → drops key deed (standing key past) ≡ false
    → ver_of (standing key past) ≤ ver_of (standing key (deed ∷ past))
kept_ver key deed past h = rw h (winner-grows key (came deed past) (lasting key past))

pub came_ver : (key : List ℕ) (deed : Deed) (past : List Deed) → drops key deed (standing key past) ≡ false
    → (change : Change) → Among change (came deed past) → bytes_eq change.key key ≡ true
    → change.stamp.ver ≤ ver_of (standing key (deed ∷ past))
came_ver key deed past h change a is =
    rw h (winner-ver key change (came deed past ++ lasting key past) (among_left change (came deed past) (lasting key past) a) is)

-- a named key whose tombstone stands has it among those that expire
pub named_expires : (f : List ℕ → Option Change) (key : List ℕ) (change : Change) (named : List (List ℕ)) → names key named ≡ true
    → f key ≡ Some change
    → Among change (filter_map f named)
named_expires f key change [] h is = absurd (true_isnt_false (sym h))
named_expires f key change (first ∷ rest) h is = at_name (either (bytes_eq first key)) (named_expires f key change rest)
  where
    at_value : (o : Option Change) → f first ≡ o → Among change (filter_map f rest) → Among change (filter_map f (first ∷ rest))
    at_value None e a = rw e a
    at_value (Some c) e a = rw e (inr a)

    at_name : (bytes_eq first key ≡ true) ⊎ (bytes_eq first key ≡ false)
        → (names key rest ≡ true → f key ≡ Some change → Among change (filter_map f rest))
        → Among change (filter_map f (first ∷ rest))
    at_name (inl same) next = let e : f first ≡ Some change = ap f ((bytes_eq-Decides first key).0 same) ∙ is in rw e (inl refl)
    at_name (inr other) next = at_value (f first) refl (next (rw other at h) is)

pub among_greatest : (change : Change) (changes : List Change) → Among change changes → change.stamp.ver ≤ greatest_ver changes
among_greatest change [] a = absurd a
among_greatest change (first ∷ rest) (inl is) = let e : change.stamp.ver ≡ first.stamp.ver = ap (λ c. c.stamp.ver) is in omega arith
among_greatest change (first ∷ rest) (inr a) = let e : change.stamp.ver ≤ greatest_ver rest = among_greatest change rest a in omega arith

-- what a lawful sweep names is a tombstone that is due
pub record IsDue (id : Identity) (moment : ℕ) (past : List Deed) (key : List ℕ) (change : Change) : Type 0 where
  pub stands : standing key past ≡ Some change
  pub removes : is_removal change.kind ≡ true
  pub due : is_due_from id moment (Some change) (since key past) past ≡ true

pub named_due : (id : Identity) (opening moment : ℕ) (named : List (List ℕ)) (past : List Deed)
    → IsLawfulDeed id opening (Swept moment named) past
    → (key : List ℕ) → names key named ≡ true → (change : Change) × IsDue id moment past key change
named_due id opening moment named past law key h =
    at_standing (standing key past) refl (names-filter (is_due id moment past) key (keys_of (changes past)) (rw law at h))
  where
    and_left : (a b : Bool) → (a && b) ≡ true → a ≡ true
    and_left a b h = grind arith

    at_standing : (o : Option Change) → standing key past ≡ o → is_due_from id moment o (since key past) past ≡ true
        → (change : Change) × IsDue id moment past key change
    at_standing None e d = absurd (true_isnt_false (sym d))
    at_standing (Some change) e d = (change, record { stands = e; removes = and_left _ _ d; due = d })
