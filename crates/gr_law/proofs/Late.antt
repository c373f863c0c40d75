-- Law 2: what comes in after a tombstone of its key expired beats that tombstone.
use Rattle.std.proofs.Common.{◌+◌, ◌≡◌, ◌⊎◌, ℕ, ◌≤◌, ◌<◌, List, [], ◌∷◌, true, false, refl, sym, ◌∙◌, subst, inl, inr, ⊎_elim, arith}
use Rattle.gr_stamp.specs.declared.change.Change.{Change}
use Rattle.gr_vector.specs.Ids.{Id, has_id}
use Rattle.gr_history.specs.declared.deed.Deed.{Deed}
use Rattle.gr_history.specs.declared.deed.Deed.TheVariants.{Imaged}
use Rattle.gr_history.specs.Ids.{id_of, ids_at, ids}
use Rattle.gr_history.specs.Made.{made}
use Rattle.gr_history.specs.Calls.{reach}
use Rattle.gr_history.specs.Floor.{expired}
use Rattle.gr_history.specs.Stable.{last_heard, is_stable}
use Rattle.gr_history.specs.Lawful.{IsLawful}
use Rattle.gr_law.specs.Grids.{identity, Among, Older, Grid}
use Rattle.gr_law.specs.Integrity.{IsMade, IsGenuine, IsClosed, IsWhole, IsParted}
use Rattle.gr_law.specs.Laws.{IsLate, law_2}
use Rattle.gr_law.proofs.Lists.{either, has_left}
use Rattle.gr_law.proofs.Winners.{ver-beats}
use Rattle.gr_law.proofs.Made.{older_past, older_trans, older_itself, older_lawful, older_genuine, older_ids}
use Rattle.gr_law.proofs.Steps.{true_isnt_false, came_sound, came_fresh, standing_sound}
use Rattle.gr_law.proofs.Reached.{law_0-holds, all_carried}
use Rattle.gr_law.proofs.Expired.{expired_found, older_heard, own_greater, seen_greater, seen_at, stable_of}
use Rattle.gr_law.proofs.Joiners.{IsUncounted, uncounted, made_place, image_in, ready_image, image_has}
use Rattle.gr_law.proofs.Parted.{whole_parted}

unknown_before : (id : Id) (q h : List Deed) → Older q h → has_id id (ids h) ≡ false → has_id id (ids q) ≡ false
unknown_before id q h o unknown = at_test (either (has_id id (ids q)))
  where
    at_test : (has_id id (ids q) ≡ true) ⊎ (has_id id (ids q) ≡ false) → has_id id (ids q) ≡ false
    at_test (inl is) = absurd (true_isnt_false (sym (older_ids id q h o is) ∙ unknown))
    at_test (inr is) = is

-- What a joiner makes that didn't count is greater than a tombstone that was stable: its image knew the tombstone.
joiner_greater : (grid : Grid) → IsParted grid → (me : ℕ) (past : List Deed) → Older past (grid.history me)
    → (tombstone change : Change) → IsMade grid tombstone → has_id (id_of tombstone) (ids past) ≡ true
    → is_stable (identity grid me) (id_of tombstone) past ≡ true → IsMade grid change → change.stamp.member ≤ 8
    → IsUncounted grid.founders change.stamp.member past → tombstone.key ≡ change.key → tombstone.stamp.ver < change.stamp.ver
joiner_greater grid parted me past o tombstone change made_tombstone known stable is eight un same =
    let sound = parted.sound in
    let i = change.stamp.member in
    let p = made_place grid i (grid.history i) (sound.lawful i) change is in
    let im = image_in p.0 (ready_image grid i p.0 un.joins p.3) in
    let oi = older_trans (Imaged im.0 ∷ im.1) p.0 (grid.history i) im.2 p.1 in
    let g : IsGenuine grid i (Imaged im.0 ∷ im.1) = older_genuine grid i (Imaged im.0 ∷ im.1) (grid.history i) oi (sound.genuine i) in
    let has = image_has grid parted me past o (id_of tombstone) known stable i eight un im.0 g.0.1 im.1 oi in
    let there = older_ids (id_of tombstone) (Imaged im.0 ∷ im.1) p.0 im.2 (has_left (id_of tombstone) im.0.vector.ids (ids im.1) has) in
    let low : tombstone.stamp.ver ≤ reach (grid.opening i) change.key p.0 =
    subst (λ k. tombstone.stamp.ver ≤ reach (grid.opening i) k p.0) same
    (law_0-holds grid sound i p.0 p.1 tombstone made_tombstone there) in
    let v : change.stamp.ver ≡ 1 + reach (grid.opening i) change.key p.0 = p.2.ver_is in
    omega (arith, low, v)

-- What wasn't known when a tombstone of its key had expired has a greater version.
pub late_greater : (grid : Grid) → IsParted grid → (me : ℕ) (h : List Deed) → Older h (grid.history me)
    → (tombstone change : Change) → Among tombstone (expired h) → IsMade grid change → has_id (id_of change) (ids h) ≡ false
    → tombstone.key ≡ change.key
    → ((place : List Deed) → Older place h → IsClosed grid me change.stamp.member place → has_id (id_of change) (ids place) ≡ true)
    → tombstone.stamp.ver < change.stamp.ver
late_greater grid parted me h o tombstone change t is unknown same shut =
    let sound = parted.sound in
    let law = older_lawful (identity grid me) (grid.opening me) h (grid.history me) o (sound.lawful me) in
    let own = older_genuine grid me h (grid.history me) o (sound.genuine me) in
    let e = expired_found (identity grid me) (grid.opening me) h law tombstone t in
    let o' = older_trans e.past h (grid.history me) e.older o in
    let law' = older_lawful (identity grid me) (grid.opening me) e.past h e.older law in
    let own' = older_genuine grid me e.past h e.older own in
    let known = standing_sound grid sound me e.past o' law' own' (all_carried grid sound me e.past own') tombstone.key tombstone e.stood
    in
    let unknown' = unknown_before (id_of change) e.past h e.older unknown in
    let i = change.stamp.member in
    let small : i ≤ grid.members → i ≤ 8 = λ le. let few = sound.few in omega (arith, le, few) in
    ⊎_elim
    (λ within. ⊎_elim
    (λ home. own_greater grid sound me e.past o' tombstone change known.0 known.1 is home unknown' same)
    (λ rest. ⊎_elim
    (λ no. joiner_greater grid parted me e.past o' tombstone change known.0 known.1 e.stable is (small within.1)
    (uncounted grid.founders i e.past no) same)
    (λ covered. ⊎_elim
    (λ seen. seen_greater grid sound e.past tombstone change known.0 is unknown' same seen)
    (λ closed. absurd (true_isnt_false (sym (older_ids (id_of change) closed.0 e.past closed.1
    (shut closed.0 (older_trans closed.0 e.past h closed.1 e.older) closed.2)) ∙ unknown')))
    (seen_at grid sound me e.past (older_heard grid me e.past (grid.history me) o' (parted.heard me)) i (id_of tombstone)
    (last_heard i e.past) refl covered)) rest)
    (stable_of (identity grid me) (id_of tombstone) e.past e.stable i within.0 (small within.1)))
    (λ none. absurd (subst (λ z. Among change (made z)) none is))
    (sound.outside i)

-- Law 2.
late_from : (grid : Grid) → IsParted grid → (me : ℕ) (past : List Deed) → Older past (grid.history me)
    → IsLawful (identity grid me) (grid.opening me) past → IsGenuine grid me past → IsLate past
late_from grid parted me [] o law own = tt
late_from grid parted me (deed ∷ past) o law own =
    let o' = older_past deed past (grid.history me) o in
    let carried = all_carried grid parted.sound me (deed ∷ past) own in (
      (λ change tombstone a t same.
          let came = came_sound grid parted.sound me deed past o law.0 own.0 carried.0 change a in
          let known = older_ids (id_of change) (deed ∷ past) (grid.history me) o
          (has_left (id_of change) (ids_at deed) (ids past) came.1) in
          ver-beats change.stamp tombstone.stamp
          (late_greater grid parted me past o' tombstone change t came.0
          (came_fresh (identity grid me) (grid.opening me) deed past law.0 change a) (sym same)
          (λ place older closed. closed.here (id_of change) refl known))),
      late_from grid parted me past o' law.1 own.1,
    )

pub law_2-parted : (grid : Grid) → IsParted grid → law_2 grid
law_2-parted grid parted me = late_from grid parted me (grid.history me) (older_itself (grid.history me)) (parted.sound.lawful me)
    (parted.sound.genuine me)

pub law_2-holds : (grid : Grid) → IsWhole grid → law_2 grid
law_2-holds grid whole = law_2-parted grid (whole_parted grid whole)
