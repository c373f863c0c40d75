-- Laws 3 to 5.
use Rattle.std.proofs.Common.{bytes_eq, ◌≡◌, ◌⊎◌, ℕ, ◌≤◌, List, [], ◌∷◌, ◌++◌, Bool, true, false, not, refl, sym, ap, ◌∙◌, subst, inl, inr}
use Rattle.std.proofs.Common.{⊎_elim, arith}
use Rattle.std.specs.Prelude.{Option, Some, None}
use Rattle.gr_history.specs.declared.identity.Identity.{Identity}
use Rattle.gr_stamp.specs.declared.change.Change.{Change}
use Rattle.gr_stamp.specs.declared.change.Kind.{Kind}
use Rattle.gr_stamp.specs.declared.change.Kind.TheVariants.{Put, Invalid, Remove}
use Rattle.gr_stamp.specs.Version.{beats}
use Rattle.gr_stamp.specs.Winner.{winner, holds, leaves, is_there, put_value, is_removal}
use Rattle.std.proofs.lemmas.Slice.Eq.{bytes_eq-Decides}
use Rattle.gr_history.specs.declared.image.Image.{Image}
use Rattle.gr_history.specs.declared.verdict.Verdict.TheVariants.{Applied, Discarded, Repeat}
use Rattle.gr_history.specs.declared.deed.Deed.{Deed}
use Rattle.gr_history.specs.declared.deed.Deed.TheVariants.{Call, Asked, Taken, Gave, Imaged, Reported, Heard, Swept}
use Rattle.gr_history.specs.Ids.{id_of, ids_at, ids}
use Rattle.gr_vector.specs.Ids.{has_id}
use Rattle.gr_history.specs.Standing.{came, standing, changes}
use Rattle.gr_history.specs.Floor.{expired_at, expired}
use Rattle.gr_law.specs.Grids.{identity, Among, Older, Grid}
use Rattle.gr_law.specs.Integrity.{IsMade, IsGenuine, IsGenuineDeed, IsSound, IsWhole, IsGift, giver_of, IsParted}
use Rattle.gr_history.specs.Lawful.{IsLawful}
use Rattle.gr_law.specs.Laws.{AreAlso, same_value, same_entry, taken_at, taken, took, IsLate, IsHeld, law_3, law_4}
use Rattle.gr_law.specs.Laws.{IsGiverLate, AreGiversLate, IsApart, AreApart, law_5}
use Rattle.gr_law.proofs.Lists.{known_ids, one_name, among_either, among_left, among_right, has_left, has_right, either}
use Rattle.gr_law.proofs.Winners.{winner-best, Best, IsBest, HasNone, unbeaten-same, bytes_eq-itself, ver-beats}
use Rattle.gr_law.proofs.Made.{older_past, older_ids, older_lawful, older_genuine, made_unique}
use Rattle.gr_law.proofs.Images.{row_stands, stands_row, lasting_came}
use Rattle.gr_law.proofs.Steps.{true_isnt_false, came_sound, came_fresh, lasting_sound, repeat_known}
use Rattle.gr_law.proofs.Reached.{all_carried}
use Rattle.gr_law.proofs.Took.{giver_older, giver_lawful, giver_genuine, took_sound}
use Rattle.gr_law.proofs.Late.{late_greater, law_2-parted}
use Rattle.gr_law.proofs.Parted.{whole_parted}
use Rattle.gr_law.proofs.Settled.{known_taken, known_took, gone_at, gone, IsSettled, IsAfter, more_settled, again_settled, swept_settled}
use Rattle.gr_law.proofs.Imaged.{imaged_settled}

-- What comes in beats what has expired, and what came in before an image, unknown to it, beats what had expired at the giver.
abbrev IsOrderlyDeed : Grid → Deed → List Deed → Type 0
IsOrderlyDeed grid (Imaged image) past = (change : Change) → Among change (changes past) → has_id (id_of change) image.vector.ids ≡ false
    → IsAfter change (expired (giver_of grid image))
IsOrderlyDeed grid deed past = Unit {0}

abbrev IsOrderly : Grid → List Deed → Type 0
IsOrderly grid [] = Unit {0}
IsOrderly grid (deed ∷ past) = ((change : Change) → Among change (came deed past) → IsAfter change (gone grid past))
    × IsOrderlyDeed grid deed past × IsOrderly grid past

abbrev AreGiven : Grid → List Deed → Type 0
AreGiven grid [] = Unit {0}
AreGiven grid (Imaged image ∷ past) =
    ((key : List ℕ) → IsSettled key (taken (giver_of grid image)) (expired (giver_of grid image)) (standing key (giver_of grid image)))
    × AreGiven grid past
AreGiven grid (deed ∷ past) = AreGiven grid past

settled : (grid : Grid) → IsSound grid → (me : ℕ) (past : List Deed) → Older past (grid.history me)
    → IsLawful (identity grid me) (grid.opening me) past → IsGenuine grid me past → IsOrderly grid past → AreGiven grid past
    → (key : List ℕ) → IsSettled key (took grid past) (gone grid past) (standing key past)
settled grid sound me [] o law own orderly given key = inl (λ change a same. a)
settled grid sound me (Call client to seq ask reply None ∷ past) o law own orderly given key =
    settled grid sound me past (older_past (Call client to seq ask reply None) past (grid.history me) o) law.1 own.1 orderly.2 given key
settled grid sound me (Call client to seq ask reply (Some c) ∷ past) o law own orderly given key =
    more_settled key (took grid past) (gone grid past) c (standing key past)
    (settled grid sound me past (older_past (Call client to seq ask reply (Some c)) past
    (grid.history me) o) law.1 own.1 orderly.2 given key) (orderly.0 c (inl refl))
settled grid sound me (Asked client seq ask reply ∷ past) o law own orderly given key =
    settled grid sound me past (older_past (Asked client seq ask reply) past (grid.history me) o) law.1 own.1 orderly.2 given key
settled grid sound me (Taken c Applied ∷ past) o law own orderly given key =
    more_settled key (took grid past) (gone grid past) c (standing key past)
    (settled grid sound me past (older_past (Taken c Applied) past (grid.history me) o) law.1 own.1 orderly.2 given key)
    (orderly.0 c (inl refl))
settled grid sound me (Taken c Discarded ∷ past) o law own orderly given key =
    more_settled key (took grid past) (gone grid past) c (standing key past)
    (settled grid sound me past (older_past (Taken c Discarded) past (grid.history me) o) law.1 own.1 orderly.2 given key)
    (orderly.0 c (inl refl))
settled grid sound me (Taken c Repeat ∷ past) o law own orderly given key =
    let o' = older_past (Taken c Repeat) past (grid.history me) o in
    again_settled key (took grid past) (gone grid past) c (standing key past)
    (settled grid sound me past o' law.1 own.1 orderly.2 given key)
    (known_took grid sound me past o' law.1 own.1 c own.0 (repeat_known _ _ c law.0))
settled grid sound me (Gave to what ∷ past) o law own orderly given key =
    settled grid sound me past (older_past (Gave to what) past (grid.history me) o) law.1 own.1 orderly.2 given key
settled grid sound me (Imaged image ∷ past) o law own orderly given key =
    let o' = older_past (Imaged image) past (grid.history me) o in
    let carried = all_carried grid sound me (Imaged image ∷ past) own in
    imaged_settled grid image past key (record {
      before = settled grid sound me past o' law.1 own.1 orderly.2 given.1 key;
      given = given.0 key;
      row_stands = row_stands (giver_of grid image) image.rows own.0.1.is_image.rows_are;
      stands_row = stands_row (giver_of grid image) image.rows own.0.1.is_image.rows_are key;
      known = known_took grid sound me past o' law.1 own.1;
      carried = λ change is h. known_taken grid sound image.from (giver_of grid image) own.0.1.from_founder (giver_older grid image)
          (giver_lawful grid sound image) (giver_genuine grid sound image) change is
          (sym (known_ids image.vector.ids (giver_of grid image) own.0.1.is_image.vector_is (id_of change)) ∙ h);
      rows_made = carried.0.rows_made;
      made_lasting = lasting_sound grid sound me past o' law.1 own.1 carried.1 key;
      after = orderly.0;
      apart = λ change a. orderly.1 change (lasting_came key past change a);
    })
settled grid sound me (Reported report ∷ past) o law own orderly given key =
    settled grid sound me past (older_past (Reported report) past (grid.history me) o) law.1 own.1 orderly.2 given key
settled grid sound me (Heard report ∷ past) o law own orderly given key =
    settled grid sound me past (older_past (Heard report) past (grid.history me) o) law.1 own.1 orderly.2 given key
settled grid sound me (Swept moment named ∷ past) o law own orderly given key =
    swept_settled grid (identity grid me) (grid.opening me) moment named past law.0 key
    (settled grid sound me past (older_past (Swept moment named) past (grid.history me) o) law.1 own.1 orderly.2 given key)

-- A founder has no image.
founder_took : (grid : Grid) (me : ℕ) (past : List Deed) → me ≤ grid.founders → IsGenuine grid me past
    → (took grid past ≡ taken past) × (gone grid past ≡ expired past) × AreGiven grid past
founder_took grid me [] le own = (refl, refl, tt)
founder_took grid me (Call client to seq ask reply one ∷ past) le own = let s = founder_took grid me past le own.1 in
    (ap (λ z. taken_at (Call client to seq ask reply one) ++ z) s.0, s.1, s.2)
founder_took grid me (Taken c how ∷ past) le own = let s = founder_took grid me past le own.1 in (ap (λ z. c ∷ z) s.0, s.1, s.2)
founder_took grid me (Imaged image ∷ past) le own = absurd (omega (arith, le, own.0.0))
founder_took grid me (Swept moment named ∷ past) le own = let s = founder_took grid me past le own.1 in
    (s.0, ap (λ z. expired_at (Swept moment named) past ++ z) s.1, s.2)
founder_took grid me (deed ∷ past) le own = founder_took grid me past le own.1

-- Law 2 of a founder orders its history.
founder_orderly : (grid : Grid) (me : ℕ) (past : List Deed) → me ≤ grid.founders → IsGenuine grid me past → IsLate past
    → IsOrderly grid past
founder_orderly grid me [] le own late = tt
founder_orderly grid me (deed ∷ past) le own late = (
  (λ change a tombstone t same. late.0 change tombstone a (subst (Among tombstone) (founder_took grid me past le own.1).1 t) same),
  at_deed deed own.0,
  founder_orderly grid me past le own.1 late.1,
)
  where
    at_deed : (d : Deed) → IsGenuineDeed grid me d → IsOrderlyDeed grid d past
    at_deed (Imaged image) own = absurd (omega (arith, le, own.0))
    at_deed d own = tt

giver_settled : (grid : Grid) → IsSound grid → (me : ℕ) (image : Image) → IsGift grid me image → IsLate (giver_of grid image)
    → (key : List ℕ)
    → IsSettled key (taken (giver_of grid image)) (expired (giver_of grid image)) (standing key (giver_of grid image))
giver_settled grid sound me image gift late key =
    let past = giver_of grid image in
    let own = giver_genuine grid sound image in
    let f = founder_took grid image.from past gift.from_founder own in
    subst (λ z. IsSettled key z (expired past) (standing key past)) f.0
    (subst (λ z. IsSettled key (took grid past) z (standing key past)) f.1
    (settled grid sound image.from past (giver_older grid image) (giver_lawful grid sound image) own
    (founder_orderly grid image.from past gift.from_founder own late) f.2 key))

all_given : (grid : Grid) → IsSound grid → (me : ℕ) (past : List Deed) → IsGenuine grid me past → AreGiversLate grid past
    → AreGiven grid past
all_given grid sound me [] own late = tt
all_given grid sound me (Imaged image ∷ past) own late =
    (giver_settled grid sound me image own.0.1 late.0, all_given grid sound me past own.1 late.1)
all_given grid sound me (deed ∷ past) own late = all_given grid sound me past own.1 late.1

-- Of a deed that isn't a merge nothing is to be shown here.
apart_at : (grid : Grid) (all : List Change) (deed : Deed) → ((image : Image) → deed ≡ Imaged image → IsApart grid all (Imaged image))
    → IsApart grid all deed
apart_at grid all (Call client to seq ask reply one) h = tt
apart_at grid all (Asked client seq ask reply) h = tt
apart_at grid all (Taken c how) h = tt
apart_at grid all (Gave to what) h = tt
apart_at grid all (Imaged image) h = h image refl
apart_at grid all (Reported report) h = tt
apart_at grid all (Heard report) h = tt
apart_at grid all (Swept moment named) h = tt

-- The facts of law 5 order a history.
apart_fewer : (grid : Grid) (few many : List Change) (past : List Deed) → ((change : Change) → Among change few → Among change many)
    → AreApart grid many past → AreApart grid few past
apart_fewer grid few many [] into h = tt
apart_fewer grid few many (deed ∷ past) into h = (at_deed deed h.0, apart_fewer grid few many past into h.1)
  where
    at_deed : (d : Deed) → IsApart grid many d → IsApart grid few d
    at_deed d h = apart_at grid few d
        (λ image is change tombstone a. subst (IsApart grid many) is h change tombstone (into change a))

-- What wasn't known beats what had expired at a giver.
apart_gone : (grid : Grid) (all : List Change) (change : Change) → Among change all → (past : List Deed) → AreApart grid all past
    → has_id (id_of change) (ids past) ≡ false → (tombstone : Change) → Among tombstone (gone grid past) → change.key ≡ tombstone.key
    → Among tombstone (expired past) ⊎ (beats change.stamp tombstone.stamp ≡ true)
apart_gone grid all change a [] h unknown tombstone t same = absurd t
apart_gone grid all change a (deed ∷ past) h unknown tombstone t same = ⊎_elim
    (λ here. at_deed deed h.0 not_here here)
    (λ there. ⊎_elim (λ x. inl (among_right tombstone (expired_at deed past) (expired past) x)) (λ y. inr y)
    (apart_gone grid all change a past h.1 not_there tombstone there same))
    (among_either tombstone (gone_at grid deed past) (gone grid past) t)
  where
    not_true : (b : Bool) → (b ≡ true → ⊥) → b ≡ false
    not_true true h = absurd (h refl)
    not_true false h = refl

    not_here : has_id (id_of change) (ids_at deed) ≡ false
    not_here = not_true _ (λ has. true_isnt_false (sym (has_left (id_of change) (ids_at deed) (ids past) has) ∙ unknown))

    not_there : has_id (id_of change) (ids past) ≡ false
    not_there = not_true _ (λ has. true_isnt_false (sym (has_right (id_of change) (ids_at deed) (ids past) has) ∙ unknown))

    at_deed : (d : Deed) → IsApart grid all d → has_id (id_of change) (ids_at d) ≡ false → Among tombstone (gone_at grid d past)
        → Among tombstone (expired_at d past ++ expired past) ⊎ (beats change.stamp tombstone.stamp ≡ true)
    at_deed (Call client to seq ask reply one) h none t = absurd t
    at_deed (Asked client seq ask reply) h none t = absurd t
    at_deed (Taken c how) h none t = absurd t
    at_deed (Gave to what) h none t = absurd t
    at_deed (Imaged image) h none t = inr (h change tombstone a none t same)
    at_deed (Reported report) h none t = absurd t
    at_deed (Heard report) h none t = absurd t
    at_deed (Swept moment named) h none t = inl (among_left tombstone (expired_at (Swept moment named) past) (expired past) t)

orderly_from : (grid : Grid) (id : Identity) (opening : ℕ) (past : List Deed) → IsLawful id opening past
    → IsLate past → AreApart grid (changes past) past → IsOrderly grid past
orderly_from grid id opening [] law late apart = tt
orderly_from grid id opening (deed ∷ past) law late apart = (
  (λ change a tombstone t same. ⊎_elim (λ x. late.0 change tombstone a x same) (λ y. y)
      (apart_gone grid (changes (deed ∷ past)) change (among_left change (came deed past) (changes past) a) past apart.1
      (came_fresh id opening deed past law.0 change a) tombstone t same)),
  at_deed deed apart.0,
  orderly_from grid id opening past law.1 late.1
      (apart_fewer grid (changes past) (changes (deed ∷ past)) past
      (λ change a. among_right change (came deed past) (changes past) a) apart.1),
)
  where
    at_deed : (d : Deed) → IsApart grid (came deed past ++ changes past) d → IsOrderlyDeed grid d past
    at_deed (Call client to seq ask reply one) h = tt
    at_deed (Asked client seq ask reply) h = tt
    at_deed (Taken c how) h = tt
    at_deed (Gave to what) h = tt
    at_deed (Imaged image) h = λ change a unknown tombstone t same.
        h change tombstone (among_right change (came deed past) (changes past) a) unknown t same
    at_deed (Reported report) h = tt
    at_deed (Heard report) h = tt
    at_deed (Swept moment named) h = tt

-- Two best ones are one.
best_one : (grid : Grid) → IsSound grid → (key : List ℕ) (all : List Change) → ((change : Change) → Among change all → IsMade grid change)
    → (one two : Change) → Best key all one → Best key all two → one ≡ two
best_one grid sound key all made_ one two a b =
    let s = unbeaten-same one.stamp two.stamp (b.unbeaten one a.among a.of_key) (a.unbeaten two b.among b.of_key) in
    made_unique grid sound one two (made_ one a.among) (made_ two b.among) (one_name one two s.1 s.2)

winner_is : (grid : Grid) → IsSound grid → (key : List ℕ) (all : List Change) → ((change : Change) → Among change all → IsMade grid
    change)
    → (best : Change) → Best key all best → winner key all ≡ Some best
winner_is grid sound key all made_ best b = at_winner (winner key all) (winner-best key all)
  where
    at_winner : (o : Option Change) → IsBest key all o → o ≡ Some best
    at_winner None none = absurd (none best b.among b.of_key)
    at_winner (Some one) a = ap Some (best_one grid sound key all made_ one best a b)

no_winner : (key : List ℕ) (all : List Change) → HasNone key all → winner key all ≡ None
no_winner key all none = at_winner (winner key all) (winner-best key all)
  where
    at_winner : (o : Option Change) → IsBest key all o → o ≡ None
    at_winner None n = refl
    at_winner (Some one) a = absurd (none one a.among a.of_key)

no_value : (kind : Kind) → is_removal kind ≡ true → put_value kind ≡ None
no_value (Put value) h = absurd (true_isnt_false (sym h))
no_value Invalid h = absurd (true_isnt_false (sym h))
no_value Remove h = refl

held_from : (grid : Grid) → IsSound grid → (key : List ℕ) (past : List Deed)
    → ((change : Change) → Among change (took grid past) → IsMade grid change)
    → IsSettled key (took grid past) (gone grid past) (standing key past) → IsHeld grid key past
held_from grid sound key past made_ h = at_standing (standing key past) refl h
  where
    some_same : (a b : Change) → Some a ≡ Some b → a ≡ b
    some_same a b e = cc

    at_standing : (o : Option Change) → standing key past ≡ o → IsSettled key (took grid past) (gone grid past) o → IsHeld grid key past
    at_standing (Some best) e b =
        let w = winner_is grid sound key (took grid past) made_ best b in
        record { present_is = rw (e, w) refl; there_is = rw (e, w) refl; stands = λ change is puts. e ∙ sym w ∙ is }
    at_standing None e (inl none) =
        let w = no_winner key (took grid past) none in
        record { present_is = rw (e, w) refl; there_is = rw (e, w) refl; stands = λ change is puts. e ∙ sym w ∙ is }
    at_standing None e (inr t) =
        let w = winner_is grid sound key (took grid past) made_ t.0 t.1 in
        record {
          present_is = rw (e, w) (sym (no_value t.0.kind t.2));
          there_is = rw (e, w) (sym (ap not t.2));
          stands = λ change is puts. absurd
              (true_isnt_false (sym t.2 ∙ (subst (λ c. is_removal c.kind ≡ false) (sym (some_same t.0 change (sym w ∙ is))) puts)));
        }

settled_from : (grid : Grid) → IsSound grid → (me : ℕ) (past : List Deed) → Older past (grid.history me)
    → IsLate past → AreGiversLate grid past → AreApart grid (changes past) past
    → (key : List ℕ) → IsSettled key (took grid past) (gone grid past) (standing key past)
settled_from grid sound me past o late givers apart key =
    let law = older_lawful (identity grid me) (grid.opening me) past (grid.history me) o (sound.lawful me) in
    let own = older_genuine grid me past (grid.history me) o (sound.genuine me) in
    settled grid sound me past o law own (orderly_from grid (identity grid me) (grid.opening me) past law late apart)
    (all_given grid sound me past own givers) key

took_made : (grid : Grid) → IsSound grid → (me : ℕ) (past : List Deed) → Older past (grid.history me) → (change : Change)
    → Among change (took grid past) → IsMade grid change
took_made grid sound me past o change a =
    (took_sound grid sound me past o (older_lawful (identity grid me) (grid.opening me) past (grid.history me) o (sound.lawful me))
    (older_genuine grid me past (grid.history me) o (sound.genuine me)) change a).0

pub law_5-holds : (grid : Grid) → IsSound grid → law_5 grid
law_5-holds grid sound me past o late givers apart key =
    held_from grid sound key past (took_made grid sound me past o) (settled_from grid sound me past o late givers apart key)

-- In a whole record, and in one that members left, these facts hold of each history.
older_late : (q h : List Deed) → Older q h → IsLate h → IsLate q
older_late q [] o h = rw o h
older_late q (first ∷ past) (inl is) h = rw is h
older_late q (first ∷ past) (inr o) h = older_late q past o h.1

givers_late : (grid : Grid) → IsParted grid → (me : ℕ) (past : List Deed) → AreGiversLate grid past
givers_late grid parted me [] = tt
givers_late grid parted me (deed ∷ past) = (at_deed deed, givers_late grid parted me past)
  where
    at_deed : (d : Deed) → IsGiverLate grid d
    at_deed (Call client to seq ask reply one) = tt
    at_deed (Asked client seq ask reply) = tt
    at_deed (Taken c how) = tt
    at_deed (Gave to what) = tt
    at_deed (Imaged image) = older_late (giver_of grid image) (grid.history image.from) (giver_older grid image)
        (law_2-parted grid parted image.from)
    at_deed (Reported report) = tt
    at_deed (Heard report) = tt
    at_deed (Swept moment named) = tt

all_apart : (grid : Grid) → IsParted grid → (me : ℕ) (all : List Change) → ((change : Change) → Among change all → IsMade grid change)
    → ((change : Change) → Among change all → has_id (id_of change) (ids (grid.history me)) ≡ true)
    → (past : List Deed) → Older past (grid.history me) → IsGenuine grid me past → AreApart grid all past
all_apart grid parted me all made_ known [] o own = tt
all_apart grid parted me all made_ known (deed ∷ past) o own =
    (at_deed deed o own.0, all_apart grid parted me all made_ known past (older_past deed past (grid.history me) o) own.1)
  where
    at_deed : (d : Deed) → Older (d ∷ past) (grid.history me) → IsGenuineDeed grid me d → IsApart grid all d
    at_deed d o own =
        apart_at grid all d (λ image is. at_image image (subst (λ e. Older (e ∷ past) (grid.history me)) is o)
        (subst (IsGenuineDeed grid me) is own))
      where
        at_image : (image : Image) → Older (Imaged image ∷ past) (grid.history me) → IsGenuineDeed grid me (Imaged image)
            → IsApart grid all (Imaged image)
        at_image image merged own change tombstone a unknown t same =
            ver-beats change.stamp tombstone.stamp
            (late_greater grid parted image.from (giver_of grid image) (giver_older grid image) tombstone change t (made_ change a)
            (sym (known_ids image.vector.ids (giver_of grid image) own.1.is_image.vector_is (id_of change)) ∙ unknown) (sym same)
            (λ place older closed. closed.joiners me image past merged refl older (id_of change) refl (known change a)))

changes_made : (grid : Grid) → IsSound grid → (me : ℕ) (past : List Deed) → Older past (grid.history me)
    → IsLawful (identity grid me) (grid.opening me) past → IsGenuine grid me past → (change : Change) → Among change (changes past)
    → IsMade grid change
changes_made grid sound me [] o law own change a = absurd a
changes_made grid sound me (deed ∷ past) o law own change a = ⊎_elim
    (λ here. (came_sound grid sound me deed past o law.0 own.0 (all_carried grid sound me (deed ∷ past) own).0 change here).0)
    (λ there. changes_made grid sound me past (older_past deed past (grid.history me) o) law.1 own.1 change there)
    (among_either change (came deed past) (changes past) a)

-- what came in is known
changes_known : (grid : Grid) → IsSound grid → (me : ℕ) (past : List Deed) → Older past (grid.history me)
    → IsLawful (identity grid me) (grid.opening me) past → IsGenuine grid me past → (change : Change) → Among change (changes past)
    → has_id (id_of change) (ids (grid.history me)) ≡ true
changes_known grid sound me [] o law own change a = absurd a
changes_known grid sound me (deed ∷ past) o law own change a = ⊎_elim
    (λ here. older_ids (id_of change) (deed ∷ past) (grid.history me) o
    (has_left (id_of change) (ids_at deed) (ids past)
    (came_sound grid sound me deed past o law.0 own.0 (all_carried grid sound me (deed ∷ past) own).0 change here).1))
    (λ there. changes_known grid sound me past (older_past deed past (grid.history me) o) law.1 own.1 change there)
    (among_either change (came deed past) (changes past) a)

parted_settled : (grid : Grid) → IsParted grid → (me : ℕ) (past : List Deed) → Older past (grid.history me)
    → (key : List ℕ) → IsSettled key (took grid past) (gone grid past) (standing key past)
parted_settled grid parted me past o key =
    let sound = parted.sound in
    let law = older_lawful (identity grid me) (grid.opening me) past (grid.history me) o (sound.lawful me) in
    let own = older_genuine grid me past (grid.history me) o (sound.genuine me) in
    settled_from grid sound me past o (older_late past (grid.history me) o (law_2-parted grid parted me)) (givers_late grid parted me past)
    (all_apart grid parted me (changes past) (changes_made grid sound me past o law own) (changes_known grid sound me past o law own)
    past o own) key

pub law_3-parted : (grid : Grid) → IsParted grid → law_3 grid
law_3-parted grid parted me past o key =
    held_from grid parted.sound key past (took_made grid parted.sound me past o) (parted_settled grid parted me past o key)

pub law_4-parted : (grid : Grid) → IsParted grid → law_4 grid
law_4-parted grid parted me past o tombstone held a removes stands puts =
    let key = tombstone.key in
    let b : Best key (took grid past) held =
    subst (IsSettled key (took grid past) (gone grid past)) stands (parted_settled grid parted me past o key) in
    at_test b (either (beats held.stamp tombstone.stamp))
  where
    at_test : Best tombstone.key (took grid past) held → (beats held.stamp tombstone.stamp ≡ true)
        ⊎ (beats held.stamp tombstone.stamp ≡ false) → beats held.stamp tombstone.stamp ≡ true
    at_test b (inl is) = is
    at_test b (inr isnt) =
        let s = unbeaten-same held.stamp tombstone.stamp isnt (b.unbeaten tombstone a (bytes_eq-itself tombstone.key)) in
        let e = made_unique grid parted.sound held tombstone (took_made grid parted.sound me past o held b.among)
        (took_made grid parted.sound me past o tombstone a)
        (one_name held tombstone s.1 s.2) in
        absurd (true_isnt_false (sym removes ∙ sym (ap (λ c. is_removal c.kind) e) ∙ puts))

-- The winners of two lists with the same changes of a key are one.
one_winner : (grid : Grid) → IsSound grid → (key : List ℕ) (all more : List Change)
    → ((change : Change) → Among change all → IsMade grid change) → ((change : Change) → Among change more → IsMade grid change)
    → AreAlso key all more → AreAlso key more all → winner key all ≡ winner key more
one_winner grid sound key all more made_ made_more into back = at_winner (winner key more) (winner-best key more)
  where
    of_key : (change : Change) → bytes_eq change.key key ≡ true → change.key ≡ key
    of_key change h = (bytes_eq-Decides change.key key).0 h

    at_winner : (o : Option Change) → IsBest key more o → winner key all ≡ o
    at_winner None none = no_winner key all (λ change a same. none change (into change a (of_key change same)) same)
    at_winner (Some best) b = winner_is grid sound key all made_ best (record {
      of_key = b.of_key;
      among = back best b.among (of_key best b.of_key);
      unbeaten = λ change a same. b.unbeaten change (into change a (of_key change same)) same;
    })

pub same_value-parted : (grid : Grid) → IsParted grid → same_value grid
same_value-parted grid parted i j one two o p key into back =
    let w = one_winner grid parted.sound key (took grid one) (took grid two) (took_made grid parted.sound i one o)
    (took_made grid parted.sound j two p) into back in
    let e : holds key (took grid one) ≡ holds key (took grid two) = rw w refl in
    let l : leaves key (took grid one) ≡ leaves key (took grid two) = ap is_there w in (
      (law_3-parted grid parted i one o key).present_is ∙ e ∙ sym (law_3-parted grid parted j two p key).present_is,
      (law_3-parted grid parted i one o key).there_is ∙ l ∙ sym (law_3-parted grid parted j two p key).there_is,
    )

-- a put or an invalidation that stands has won
standing_won : (grid : Grid) (key : List ℕ) (past : List Deed) → IsHeld grid key past → (held : Change) → standing key past ≡ Some held
    → is_removal held.kind ≡ false → winner key (took grid past) ≡ Some held
standing_won grid key past law held is puts = at_winner (winner key (took grid past)) refl
  where
    left : leaves key (took grid past) ≡ true
    left = sym law.there_is ∙ ap is_there is ∙ ap not puts

    stays : (kind : Kind) → not (is_removal kind) ≡ true → is_removal kind ≡ false
    stays (Put value) h = refl
    stays Invalid h = refl
    stays Remove h = absurd (true_isnt_false (sym h))

    at_winner : (o : Option Change) → winner key (took grid past) ≡ o → o ≡ Some held
    at_winner None none = absurd (true_isnt_false (sym left ∙ ap is_there none))
    at_winner (Some best) won = sym (law.stands best won (stays best.kind (sym (ap is_there won) ∙ left))) ∙ is

pub same_entry-parted : (grid : Grid) → IsParted grid → same_entry grid
same_entry-parted grid parted i j one two o p key into back held is puts =
    let w = one_winner grid parted.sound key (took grid one) (took grid two) (took_made grid parted.sound i one o)
    (took_made grid parted.sound j two p) into back in
    (law_3-parted grid parted j two p key).stands held
    (sym w ∙ standing_won grid key one (law_3-parted grid parted i one o key) held is puts) puts

-- ---- whole records

pub law_3-holds : (grid : Grid) → IsWhole grid → law_3 grid
law_3-holds grid whole = law_3-parted grid (whole_parted grid whole)

pub law_4-holds : (grid : Grid) → IsWhole grid → law_4 grid
law_4-holds grid whole = law_4-parted grid (whole_parted grid whole)

pub same_value-holds : (grid : Grid) → IsWhole grid → same_value grid
same_value-holds grid whole = same_value-parted grid (whole_parted grid whole)

pub same_entry-holds : (grid : Grid) → IsWhole grid → same_entry grid
same_entry-holds grid whole = same_entry-parted grid (whole_parted grid whole)
