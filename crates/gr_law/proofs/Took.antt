-- What was taken in was made and is known. Law 1.
use Rattle.std.proofs.Common.{◌+◌, ◌≡◌, ℕ, ◌≤◌, List, [], ◌∷◌, true, refl, sym, ◌∙◌, subst, inl, inr, ⊎_elim, arith}
use Rattle.gr_stamp.specs.declared.change.Change.{Change}
use Rattle.gr_history.specs.declared.image.Image.{Image}
use Rattle.gr_history.specs.declared.deed.Deed.{Deed}
use Rattle.gr_history.specs.declared.deed.Deed.TheVariants.{Call, Taken, Imaged}
use Rattle.gr_history.specs.Ids.{id_of, ids_at, ids}
use Rattle.gr_vector.specs.Ids.{has_id}
use Rattle.gr_history.specs.Made.{made_at, made}
use Rattle.gr_history.specs.Calls.{reach}
use Rattle.gr_law.specs.Grids.{identity, Among, Older, Grid}
use Rattle.gr_law.specs.Integrity.{IsMade, IsGenuine, IsGenuineDeed, IsSound, giver_of}
use Rattle.gr_history.specs.Lawful.{IsLawful, IsLawfulDeed}
use Rattle.gr_law.specs.Laws.{taken_at, taken, took_at, took, law_1}
use Rattle.gr_vector.proofs.Order.{same_id_itself}
use Rattle.gr_law.proofs.Lists.{known_ids, among_either, among_left, has_left, has_right}
use Rattle.gr_law.proofs.Made.{older_past, older_lawful, older_genuine, older_made, made_stamped, made_known_at, at_place-older}
use Rattle.gr_law.proofs.Reached.{law_0-holds}

made_here : (grid : Grid) (me : ℕ) (deed : Deed) (past : List Deed) → Older (deed ∷ past) (grid.history me)
    → IsLawfulDeed (identity grid me) (grid.opening me) deed past
    → (change : Change) → Among change (made_at deed) → IsMade grid change × (has_id (id_of change) (ids_at deed) ≡ true)
made_here grid me deed past o law change a =
    let s = made_stamped (identity grid me) (grid.opening me) change deed past law a in (
      subst (λ k. Among change (made (grid.history k))) (sym s.member_is)
          (older_made change (deed ∷ past) (grid.history me) o (among_left change (made_at deed) (made past) a)),
      made_known_at change deed a,
    )

taken_here : (grid : Grid) (me : ℕ) (deed : Deed) (past : List Deed) → Older (deed ∷ past) (grid.history me)
    → IsLawfulDeed (identity grid me) (grid.opening me) deed past → IsGenuineDeed grid me deed
    → (change : Change) → Among change (taken_at deed) → IsMade grid change × (has_id (id_of change) (ids_at deed) ≡ true)
taken_here grid me (Call client to seq ask reply one) past o law own change a =
    made_here grid me (Call client to seq ask reply one) past o law change a
taken_here grid me (Taken c how) past o law own change (inl is) =
    (subst (IsMade grid) (sym is) own, rw (is, same_id_itself (id_of c)) refl)
taken_here grid me (Taken c how) past o law own change (inr a) = absurd a
taken_here grid me deed past o law own change a = absurd a

pub taken_sound : (grid : Grid) (me : ℕ) (past : List Deed) → Older past (grid.history me)
    → IsLawful (identity grid me) (grid.opening me) past → IsGenuine grid me past
    → (change : Change) → Among change (taken past) → IsMade grid change × (has_id (id_of change) (ids past) ≡ true)
taken_sound grid me [] o law own change a = absurd a
taken_sound grid me (deed ∷ past) o law own change a = ⊎_elim
    (λ here. let s = taken_here grid me deed past o law.0 own.0 change here in (
      s.0,
      has_left (id_of change) (ids_at deed) (ids past)
          s.1,
    ))
    (λ there. let s = taken_sound grid me past (older_past deed past (grid.history me) o) law.1 own.1 change there in
    (s.0, has_right (id_of change) (ids_at deed) (ids past) s.1))
    (among_either change (taken_at deed) (taken past) a)

-- of a giver's history
pub giver_older : (grid : Grid) (image : Image) → Older (giver_of grid image) (grid.history image.from)
giver_older grid image = at_place-older image.at (grid.history image.from)

pub giver_lawful : (grid : Grid) → IsSound grid → (image : Image)
    → IsLawful (identity grid image.from) (grid.opening image.from) (giver_of grid image)
giver_lawful grid sound image =
    older_lawful (identity grid image.from) (grid.opening image.from) (giver_of grid image) (grid.history image.from)
    (giver_older grid image) (sound.lawful image.from)

pub giver_genuine : (grid : Grid) → IsSound grid → (image : Image) → IsGenuine grid image.from (giver_of grid image)
giver_genuine grid sound image =
    older_genuine grid image.from (giver_of grid image) (grid.history image.from) (giver_older grid image) (sound.genuine image.from)

took_here : (grid : Grid) → IsSound grid → (me : ℕ) (deed : Deed) (past : List Deed) → Older (deed ∷ past) (grid.history me)
    → IsLawfulDeed (identity grid me) (grid.opening me) deed past → IsGenuineDeed grid me deed
    → (change : Change) → Among change (took_at grid deed) → IsMade grid change × (has_id (id_of change) (ids_at deed) ≡ true)
took_here grid sound me (Call client to seq ask reply one) past o law own change a =
    made_here grid me (Call client to seq ask reply one) past o law change a
took_here grid sound me (Taken c how) past o law own change (inl is) =
    (subst (IsMade grid) (sym is) own, rw (is, same_id_itself (id_of c)) refl)
took_here grid sound me (Taken c how) past o law own change (inr a) = absurd a
took_here grid sound me (Imaged image) past o law own change a =
    let s = taken_sound grid image.from (giver_of grid image) (giver_older grid image) (giver_lawful grid sound image)
    (giver_genuine grid sound image) change a in
    (s.0, known_ids image.vector.ids (giver_of grid image) own.1.is_image.vector_is (id_of change) ∙ s.1)
took_here grid sound me deed past o law own change a = absurd a

pub took_sound : (grid : Grid) → IsSound grid → (me : ℕ) (past : List Deed) → Older past (grid.history me)
    → IsLawful (identity grid me) (grid.opening me) past → IsGenuine grid me past
    → (change : Change) → Among change (took grid past) → IsMade grid change × (has_id (id_of change) (ids past) ≡ true)
took_sound grid sound me [] o law own change a = absurd a
took_sound grid sound me (deed ∷ past) o law own change a = ⊎_elim
    (λ here. let s = took_here grid sound me deed past o law.0 own.0 change here in
    (s.0, has_left (id_of change) (ids_at deed) (ids past) s.1))
    (λ there. let s = took_sound grid sound me past (older_past deed past (grid.history me) o) law.1 own.1 change there in
    (s.0, has_right (id_of change) (ids_at deed) (ids past) s.1))
    (among_either change (took_at grid deed) (took grid past) a)

pub law_1-holds : (grid : Grid) → IsSound grid → law_1 grid
law_1-holds grid sound me deed past o change made_ before a same =
    let o' = older_past deed past (grid.history me) o in
    let law : IsLawful (identity grid me) (grid.opening me) (deed ∷ past) =
    older_lawful (identity grid me) (grid.opening me) (deed ∷ past) (grid.history me) o (sound.lawful me) in
    let own : IsGenuine grid me (deed ∷ past) = older_genuine grid me (deed ∷ past) (grid.history me) o (sound.genuine me) in
    let s = took_sound grid sound me past o' law.1 own.1 before a in
    let t = made_stamped (identity grid me) (grid.opening me) change deed past law.0 made_ in
    let low : before.stamp.ver ≤ reach (grid.opening me) change.key past =
    subst (λ k. before.stamp.ver ≤ reach (grid.opening me) k past) same (law_0-holds grid sound me past o' before s.0 s.1) in
    let v : change.stamp.ver ≡ 1 + (reach (grid.opening me) change.key past) = t.ver_is in
    omega (arith, low, v)
