-- Law 0: what is known of a key is reached by what stands or by the floor.
use Rattle.std.proofs.Common.{◌≡◌, ◌⊎◌, ℕ, ◌≤◌, List, [], ◌∷◌, Bool, true, false, ◌&&◌, ◌||◌, not, refl, sym, ◌∙◌, subst, inl, inr}
use Rattle.std.proofs.Common.{⊎_elim}
use Rattle.std.proofs.Common.{arith, max, bytes_eq}
use Rattle.std.specs.Prelude.{Option, Some, None}
use Rattle.std.proofs.lemmas.Slice.Eq.{bytes_eq-Decides}
use Rattle.gr_history.specs.declared.identity.Identity.{Identity}
use Rattle.gr_stamp.specs.declared.change.Change.{Change}
use Rattle.gr_history.specs.declared.image.Image.{Image}
use Rattle.gr_history.specs.declared.verdict.Verdict.TheVariants.{Applied, Discarded, Repeat}
use Rattle.gr_history.specs.declared.deed.Deed.{Deed}
use Rattle.gr_history.specs.declared.deed.Deed.TheVariants.{Call, Asked, Taken, Gave, Imaged, Reported, Heard, Swept}
use Rattle.gr_history.specs.Ids.{id_of, ids_at, ids}
use Rattle.gr_vector.specs.Ids.{has_id}
use Rattle.gr_history.specs.Made.{made}
use Rattle.gr_history.specs.Standing.{came, has_key, names, drops, is_known, standing}
use Rattle.gr_stamp.specs.Winner.{is_removal}
use Rattle.gr_history.specs.Floor.{floor, expired_at, greatest_ver, removal_of}
use Rattle.gr_history.specs.Calls.{reach, ver_of}
use Rattle.gr_law.specs.Grids.{identity, Among, Older, Grid}
use Rattle.gr_law.specs.Integrity.{IsMade, IsGenuine, IsGenuineDeed, IsSound, IsGift, giver_of}
use Rattle.gr_history.specs.Lawful.{IsLawful, IsLawfulDeed}
use Rattle.gr_law.specs.Laws.{IsReached, law_0}
use Rattle.gr_vector.proofs.Order.{same_id_same}
use Rattle.gr_law.proofs.Lists.{known_ids, filter_keeps, has_either, either}
use Rattle.gr_law.proofs.Winners.{bytes_eq-itself}
use Rattle.gr_law.proofs.Made.{older_past, older_lawful, older_genuine, made_unique, at_place-older}
use Rattle.gr_law.proofs.Images.{row_stands, stands_row}
use Rattle.gr_law.proofs.Steps.{IsCarried, IsCarriedDeed, AreCarried, true_isnt_false, came_sound, standing_sound, standing_best}
use Rattle.gr_law.proofs.Steps.{kept_ver}
use Rattle.gr_law.proofs.Steps.{came_ver, named_expires, among_greatest, named_due, repeat_known}

floor_grows : (opening : ℕ) (deed : Deed) (past : List Deed) → floor opening past ≤ floor opening (deed ∷ past)
floor_grows opening (Call client to seq ask reply own) past = omega arith
floor_grows opening (Asked client seq ask reply) past = omega arith
floor_grows opening (Taken change how) past = omega arith
floor_grows opening (Gave to what) past = omega arith
floor_grows opening (Imaged image) past = omega arith
floor_grows opening (Reported report) past = omega arith
floor_grows opening (Heard report) past = omega arith
floor_grows opening (Swept moment named) past = omega arith

-- A key that a sweep names has its tombstone's version in the floor.
swept_floor : (id : Identity) (opening moment : ℕ) (named : List (List ℕ)) (past : List Deed)
    → IsLawfulDeed id opening (Swept moment named) past
    → (key : List ℕ) → names key named ≡ true → ver_of (standing key past) ≤ floor opening (Swept moment named ∷ past)
swept_floor id opening moment named past law key h =
    let d = named_due id opening moment named past law key h in
    let e : removal_of (standing key past) ≡ Some d.0 = removal_is (standing key past) d.0 d.1.stands d.1.removes in
    let a = among_greatest d.0 (expired_at (Swept moment named) past)
    (named_expires (λ key. removal_of (standing key past)) key d.0 named h e) in
    at_version (standing key past) d.0 d.1.stands (greatest_ver (expired_at (Swept moment named) past)) a
  where
    removal_is : (o : Option Change) (c : Change) → o ≡ Some c → is_removal c.kind ≡ true → removal_of o ≡ Some c
    removal_is o c e r = rw (e, r) refl

    at_version : (o : Option Change) (c : Change) → o ≡ Some c → (g : ℕ) → c.stamp.ver ≤ g → ver_of o ≤ max g (floor opening past)
    at_version o c e g a = rw e (omega (arith, a))

-- A key that an image drops has its version in the image's floor.
imaged_floor : (grid : Grid) (opening : ℕ) (image : Image) (past : List Deed) (key : List ℕ) → IsCarried grid image
    → ((best : Change) → standing key past ≡ Some best → IsMade grid best)
    → drops key (Imaged image) (standing key past) ≡ true → ver_of (standing key past) ≤ image.floor
imaged_floor grid opening image past key carried made h = at_standing (standing key past) refl h
  where
    no_row : (row : Change) (rows : List Change) → Among row rows → bytes_eq row.key key ≡ true → has_key key rows ≡ false → ⊥
    no_row row [] a same h = a
    no_row row (first ∷ rest) (inl is) same h = let e : bytes_eq first.key key ≡ true = subst (λ c. bytes_eq c.key key ≡ true) is same in
        true_isnt_false (rw e at h)
    no_row row (first ∷ rest) (inr a) same h = no_row row rest a same (or_right _ _ h)
      where
        or_right : (a b : Bool) → (a || b) ≡ false → b ≡ false
        or_right a b h = grind arith

    and_right : (a b : Bool) → (a && b) ≡ true → b ≡ true
    and_right a b h = grind arith

    and_left : (a b : Bool) → (not a && b) ≡ true → a ≡ false
    and_left a b h = grind arith

    at_standing : (o : Option Change) → standing key past ≡ o → (not (has_key key image.rows) && is_known image.vector.ids o) ≡ true
        → ver_of o ≤ image.floor
    at_standing None e h = omega arith
    at_standing (Some best) e h =
        let same = (standing_best key past best e).of_key in
        ⊎_elim (λ low. low)
        (λ row. absurd (no_row row.0 image.rows row.1
        (subst (λ k. bytes_eq row.0.key k ≡ true) ((bytes_eq-Decides best.key key).0 same) row.2) (and_left _ _ h)))
        (carried.reached best (made best e) (and_right _ _ h))

-- what is reached stays reached
pub reach_grows : (grid : Grid) → IsSound grid → (me : ℕ) (deed : Deed) (past : List Deed) → Older (deed ∷ past) (grid.history me)
    → IsLawful (identity grid me) (grid.opening me) (deed ∷ past) → IsGenuine grid me (deed ∷ past) → AreCarried grid (deed ∷ past)
    → (key : List ℕ) → reach (grid.opening me) key past ≤ reach (grid.opening me) key (deed ∷ past)
reach_grows grid sound me deed past o law own carried key =
    at_drop (either (drops key deed (standing key past)))
  where
    from_kept : (a b f g : ℕ) → f ≤ g → a ≤ b → max a f ≤ max b g
    from_kept a b f g h k = omega arith

    from_dropped : (a b f g : ℕ) → f ≤ g → a ≤ g → max a f ≤ max b g
    from_dropped a b f g h k = omega arith

    past_law : IsLawful (identity grid me) (grid.opening me) past
    past_law = law.1

    dropped : (d : Deed) → IsLawfulDeed (identity grid me) (grid.opening me) d past → IsCarriedDeed grid d
        → drops key d (standing key past) ≡ true
        → ver_of (standing key past) ≤ floor (grid.opening me) (d ∷ past)
    dropped (Call client to seq ask reply own_) law carried h = absurd (true_isnt_false (sym h))
    dropped (Asked client seq ask reply) law carried h = absurd (true_isnt_false (sym h))
    dropped (Taken change how) law carried h = absurd (true_isnt_false (sym h))
    dropped (Gave to what) law carried h = absurd (true_isnt_false (sym h))
    dropped (Imaged image) law image_carried h =
        let low = imaged_floor grid (grid.opening me) image past key image_carried
        (λ best is. (standing_sound grid sound me past (older_past deed past (grid.history me) o) past_law own.1 carried.1 key best is).0)
        h in
        omega (arith, low)
    dropped (Reported report) law carried h = absurd (true_isnt_false (sym h))
    dropped (Heard report) law carried h = absurd (true_isnt_false (sym h))
    dropped (Swept moment named) law carried h = swept_floor (identity grid me) (grid.opening me) moment named past law key h

    at_drop : (drops key deed (standing key past) ≡ true) ⊎ (drops key deed (standing key past) ≡ false)
        → reach (grid.opening me) key past ≤ reach (grid.opening me) key (deed ∷ past)
    at_drop (inl is) = from_dropped _ _ _ _ (floor_grows (grid.opening me) deed past) (dropped deed law.0 carried.0 is)
    at_drop (inr isnt) = from_kept _ _ _ _ (floor_grows (grid.opening me) deed past) (kept_ver key deed past isnt)

-- a change that has a known change's id is that change
pub one_id : (grid : Grid) → IsSound grid → (change known : Change) → IsMade grid change → IsMade grid known
    → has_id (id_of change) (id_of known ∷ []) ≡ true → change ≡ known
one_id grid sound change known a b h =
    sym (made_unique grid sound known change b a (same_id_same (id_of known) (id_of change) (or_nothing _ h)))
  where
    or_nothing : (b : Bool) → (b || false) ≡ true → b ≡ true
    or_nothing true h = refl
    or_nothing false h = h

came_reached : (opening : ℕ) (deed : Deed) (past : List Deed) (change : Change) → drops change.key deed (standing change.key past) ≡ false
    → Among change (came deed past) → change.stamp.ver ≤ reach opening change.key (deed ∷ past)
came_reached opening deed past change kept a =
    at_left _ _ _ (came_ver change.key deed past kept change a (bytes_eq-itself change.key))
  where
    at_left : (a b c : ℕ) → a ≤ b → a ≤ max b c
    at_left a b c h = omega arith

pub has_row : (key : List ℕ) (row : Change) (rows : List Change) → Among row rows → bytes_eq row.key key ≡ true → has_key key rows ≡ true
has_row key row [] a same = absurd a
has_row key row (first ∷ rest) (inl is) same = let e : bytes_eq first.key key ≡ true = subst (λ c. bytes_eq c.key key ≡ true) is same in
    rw e refl
has_row key row (first ∷ rest) (inr a) same = let e : has_key key rest ≡ true = has_row key row rest a same in or_true _ _ e
  where
    or_true : (a b : Bool) → b ≡ true → (a || b) ≡ true
    or_true true b h = refl
    or_true false b h = h

-- Of what a deed makes known.
new_reached : (grid : Grid) → IsSound grid → (me : ℕ) (deed : Deed) (past : List Deed) → Older (deed ∷ past) (grid.history me)
    → IsLawful (identity grid me) (grid.opening me) (deed ∷ past) → IsGenuine grid me (deed ∷ past) → AreCarried grid (deed ∷ past)
    → IsReached grid (grid.opening me) past
    → ((key : List ℕ) → reach (grid.opening me) key past ≤ reach (grid.opening me) key (deed ∷ past))
    → (change : Change) → IsMade grid change → has_id (id_of change) (ids_at deed) ≡ true
    → change.stamp.ver ≤ reach (grid.opening me) change.key (deed ∷ past)
new_reached grid sound me (Call client to seq ask reply None) past o law own carried before grows change is has =
    absurd (true_isnt_false (sym has))
new_reached grid sound me (Call client to seq ask reply (Some one)) past o law own carried before grows change is has =
    let s = came_sound grid sound me (Call client to seq ask reply (Some one)) past o law.0 own.0 carried.0 one (inl refl) in
    came_reached (grid.opening me) (Call client to seq ask reply (Some one)) past change refl
    (inl (one_id grid sound change one is s.0 has))
new_reached grid sound me (Taken c Applied) past o law own carried before grows change is has =
    came_reached (grid.opening me) (Taken c Applied) past change refl (inl (one_id grid sound change c is own.0 has))
new_reached grid sound me (Taken c Discarded) past o law own carried before grows change is has =
    came_reached (grid.opening me) (Taken c Discarded) past change refl (inl (one_id grid sound change c is own.0 has))
new_reached grid sound me (Taken c Repeat) past o law own carried before grows change is has =
    let e : change ≡ c = one_id grid sound change c is own.0 has in
    let known : has_id (id_of change) (ids past) ≡ true =
    subst (λ z. has_id (id_of z) (ids past) ≡ true) (sym e) (repeat_known _ _ c law.0) in
    omega (arith, before change is known, grows change.key)
new_reached grid sound me (Gave to what) past o law own carried before grows change is has = absurd (true_isnt_false (sym has))
new_reached grid sound me (Imaged image) past o law own carried before grows change is has =
    ⊎_elim (λ low. at_floor _ _ _ _ low) (λ row. at_row row.0 row.1 row.2 row.3 (either (has_id (id_of row.0) (ids past))))
    (carried.0.reached change is has)
  where
    at_floor : (v a c d : ℕ) → v ≤ c → v ≤ max a (max c d)
    at_floor v a c d h = omega arith

    at_row : (row : Change) → Among row image.rows → bytes_eq row.key change.key ≡ true → change.stamp.ver ≤ row.stamp.ver
        → (has_id (id_of row) (ids past) ≡ true) ⊎ (has_id (id_of row) (ids past) ≡ false)
        → change.stamp.ver ≤ reach (grid.opening me) change.key (Imaged image ∷ past)
    at_row row a same le (inl known) =
        let e : row.key ≡ change.key = (bytes_eq-Decides row.key change.key).0 same in
        let low : row.stamp.ver ≤ reach (grid.opening me) change.key past =
        subst (λ k. row.stamp.ver ≤ reach (grid.opening me) k past) e (before row (carried.0.rows_made row a) known) in
        let up = grows change.key in
        omega (arith, le, low, up)
    at_row row a same le (inr fresh) =
        let e : row.key ≡ change.key = (bytes_eq-Decides row.key change.key).0 same in
        let kept : drops row.key (Imaged image) (standing row.key past) ≡ false =
        rw (has_row row.key row image.rows a (bytes_eq-itself row.key)) refl in
        let low = came_reached (grid.opening me) (Imaged image) past row kept
        (filter_keeps (λ row. not (has_id (id_of row) (ids past))) row image.rows (rw fresh refl) a) in
        let low' : row.stamp.ver ≤ reach (grid.opening me) change.key (Imaged image ∷ past) =
        subst (λ k. row.stamp.ver ≤ reach (grid.opening me) k (Imaged image ∷ past)) e low in
        omega (arith, le, low')
new_reached grid sound me (Asked client seq ask reply) past o law own carried before grows change is has = absurd (true_isnt_false (sym
    has))
new_reached grid sound me (Reported report) past o law own carried before grows change is has = absurd (true_isnt_false (sym has))
new_reached grid sound me (Heard report) past o law own carried before grows change is has = absurd (true_isnt_false (sym has))
new_reached grid sound me (Swept moment named) past o law own carried before grows change is has = absurd (true_isnt_false (sym has))

pub reached : (grid : Grid) → IsSound grid → (me : ℕ) (past : List Deed) → Older past (grid.history me)
    → IsLawful (identity grid me) (grid.opening me) past → IsGenuine grid me past → AreCarried grid past
    → IsReached grid (grid.opening me) past
reached grid sound me [] o law own carried = λ change is has. absurd (true_isnt_false (sym has))
reached grid sound me (deed ∷ past) o law own carried =
    let before = reached grid sound me past (older_past deed past (grid.history me) o) law.1 own.1 carried.1 in
    let grows = reach_grows grid sound me deed past o law own carried in
    λ change is has. ⊎_elim
    (λ here. new_reached grid sound me deed past o law own carried before grows change is here)
    (λ there. let a = before change is there in let b = grows change.key in omega (arith, a, b))
    (has_either (id_of change) (ids_at deed) (ids past) has)

-- Founders have no image, so images don't trouble them.
founder_carried : (grid : Grid) (me : ℕ) (past : List Deed) → me ≤ grid.founders → IsGenuine grid me past → AreCarried grid past
founder_carried grid me [] le own = tt
founder_carried grid me (deed ∷ past) le own = (at_deed deed own.0, founder_carried grid me past le own.1)
  where
    at_deed : (d : Deed) → IsGenuineDeed grid me d → IsCarriedDeed grid d
    at_deed (Imaged image) own = absurd (omega (arith, le, own.0))
    at_deed d own = tt

-- What a founder gave.
gift_carried : (grid : Grid) → IsSound grid → (me : ℕ) (image : Image) → IsGift grid me image → IsCarried grid image
gift_carried grid sound me image gift =
    let giver = image.from in
    let o = at_place-older image.at (grid.history giver) in
    let past = giver_of grid image in
    let law = older_lawful (identity grid giver) (grid.opening giver) past (grid.history giver) o (sound.lawful giver) in
    let own = older_genuine grid giver past (grid.history giver) o (sound.genuine giver) in
    let carried = founder_carried grid giver past gift.from_founder own in
    let all = reached grid sound giver past o law own carried in
    record {
      rows_made = λ row a. (standing_sound grid sound giver past o law own carried row.key row
          (row_stands past image.rows gift.is_image.rows_are row a)).0;
      rows_known = λ row a. known_ids image.vector.ids past gift.is_image.vector_is (id_of row)
          ∙ (standing_sound grid sound giver past o law own carried row.key row
          (row_stands past image.rows gift.is_image.rows_are row a)).1;
      reached = λ change is has. at_standing change (standing change.key past) refl
          (all change is (sym (known_ids image.vector.ids past gift.is_image.vector_is (id_of change)) ∙ has));
    }
  where
    left : (a b : ℕ) → a ≤ max 0 b → a ≤ b
    left a b h = omega arith

    two : (a v f : ℕ) → a ≤ max v f → (a ≤ f) ⊎ (a ≤ v)
    two a v f h = grind arith

    at_standing : (change : Change) (o : Option Change) → standing change.key (giver_of grid image) ≡ o
        → change.stamp.ver ≤ max (ver_of (standing change.key (giver_of grid image)))
        (floor (grid.opening image.from) (giver_of grid image))
        → (change.stamp.ver ≤ image.floor)
        ⊎ ((row : Change) × Among row image.rows × (bytes_eq row.key change.key ≡ true) × (change.stamp.ver ≤ row.stamp.ver))
    at_standing change None e h = inl (rw gift.is_image.floor_is (left _ _ (rw e at h)))
    at_standing change (Some row) e h =
        ⊎_elim (λ low. inl (rw gift.is_image.floor_is low))
        (λ high. inr (
          row,
          stands_row (giver_of grid image) image.rows gift.is_image.rows_are change.key row e,
          (standing_best change.key (giver_of grid image) row e).of_key,
          high,
        ))
        (two _ _ _ (rw e at h))

pub all_carried : (grid : Grid) → IsSound grid → (me : ℕ) (past : List Deed) → IsGenuine grid me past → AreCarried grid past
all_carried grid sound me [] own = tt
all_carried grid sound me (deed ∷ past) own = (at_deed deed own.0, all_carried grid sound me past own.1)
  where
    at_deed : (d : Deed) → IsGenuineDeed grid me d → IsCarriedDeed grid d
    at_deed (Call client to seq ask reply own_) own = tt
    at_deed (Asked client seq ask reply) own = tt
    at_deed (Taken change how) own = tt
    at_deed (Gave to what) own = tt
    at_deed (Imaged image) own = gift_carried grid sound me image own.1
    at_deed (Reported report) own = tt
    at_deed (Heard report) own = tt
    at_deed (Swept moment named) own = tt

pub law_0-holds : (grid : Grid) → IsSound grid → law_0 grid
law_0-holds grid sound me past o =
    let law = older_lawful (identity grid me) (grid.opening me) past (grid.history me) o (sound.lawful me) in
    let own = older_genuine grid me past (grid.history me) o (sound.genuine me) in
    reached grid sound me past o law own (all_carried grid sound me past own)
