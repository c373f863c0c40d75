-- A joiner that doesn't count at a place made what it made behind an image that knew all that was stable there.
use Rattle.std.proofs.Common.{zero, suc, ◌≡◌, ◌⊎◌, ℕ, ◌≤◌, ◌<◌, List, [], ◌∷◌, Bool, true, false, ◌&&◌, ◌||◌, not, ◌==◌, refl, sym}
use Rattle.std.proofs.Common.{ap, ◌∙◌, subst, inl, inr, ⊎_elim, arith, if◌then◌else◌}
use Rattle.std.specs.Prelude.{Option, Some, None, map, nat_le}
use Rattle.std.specs.Int.{bit_at}
use Rattle.std.proofs.lemmas.Bool.Decides.{nat_tests}
use Rattle.gr_stamp.specs.declared.change.Change.{Change}
use Rattle.gr_vector.specs.Ids.{Id, has_id}
use Rattle.gr_vector.specs.declared.report.Report.{Report}
use Rattle.gr_history.specs.declared.image.Image.{Image}
use Rattle.gr_history.specs.declared.image.What.TheVariants as what
use Rattle.gr_history.specs.declared.deed.Deed.{Deed}
use Rattle.gr_history.specs.declared.deed.Deed.TheVariants.{Call, Asked, Taken, Gave, Imaged, Reported, Heard, Swept}
use Rattle.gr_history.specs.Ids.{ids}
use Rattle.gr_history.specs.Made.{made_at, made}
use Rattle.gr_history.specs.Recipients.{gave_to, has_image, is_in_bits, is_ready, is_recipient, recipients}
use Rattle.gr_history.specs.Stable.{last_heard, is_covered, is_named, is_named_upto, is_counting, is_stable}
use Rattle.gr_history.specs.Gifts.{IsReportOf}
use Rattle.gr_history.specs.Room.{bare}
use Rattle.gr_history.specs.Lawful.{IsLawful, IsLawfulDeed}
use Rattle.gr_law.specs.Grids.{identity, Among, Older, Grid}
use Rattle.gr_law.specs.Integrity.{giver_of, IsGift, IsParted}
use Rattle.gr_law.proofs.Lists.{and_left, cases_le, among_either, either, known_ids}
use Rattle.gr_law.proofs.Made.{IsStamped, older_itself, older_ids, made_stamped, gives_made}
use Rattle.gr_law.proofs.Steps.{true_isnt_false}
use Rattle.gr_law.proofs.Bits.{bits_at}
use Rattle.gr_law.proofs.Expired.{stable_of, last_among, heard_made, older_heard, reported_at}

-- The place at which a change was made, and that its maker was ready there.
pub made_place : (grid : Grid) (i : ℕ) (h : List Deed) → IsLawful (identity grid i) (grid.opening i) h → (change : Change)
    → Among change (made h)
    → (past : List Deed) × Older past h × IsStamped i (grid.opening i) past change × (is_ready (identity grid i) past ≡ true)
made_place grid i [] law change a = absurd a
made_place grid i (deed ∷ past) law change a = ⊎_elim
    (λ here. (
      past,
      inr (older_itself past),
      made_stamped (identity grid i) (grid.opening i) change deed past law.0 here,
      ready deed law.0 here,
    ))
    (λ there. let s = made_place grid i past law.1 change there in (s.0, inr s.1, s.2, s.3))
    (among_either change (made_at deed) (made past) a)
  where
    ready : (d : Deed) → IsLawfulDeed (identity grid i) (grid.opening i) d past → Among change (made_at d)
        → is_ready (identity grid i) past ≡ true
    ready (Call client to seq ask reply (Some own)) law a =
        (gives_made (identity grid i) (grid.opening i) past ask own (sym (ap (λ d. d.made) law))).0
    ready d law a = absurd a

-- the image in a history that has one
pub image_in : (past : List Deed) → has_image past ≡ true → (image : Image) × (q : List Deed) × Older (Imaged image ∷ q) past
image_in [] h = absurd (true_isnt_false (sym h))
image_in (Call client to seq ask reply own ∷ past) h = let s = image_in past h in (s.0, s.1, inr s.2)
image_in (Asked client seq ask reply ∷ past) h = let s = image_in past h in (s.0, s.1, inr s.2)
image_in (Taken c how ∷ past) h = let s = image_in past h in (s.0, s.1, inr s.2)
image_in (Gave to what ∷ past) h = let s = image_in past h in (s.0, s.1, inr s.2)
image_in (Imaged image ∷ past) h = (image, past, inl refl)
image_in (Reported report ∷ past) h = let s = image_in past h in (s.0, s.1, inr s.2)
image_in (Heard report ∷ past) h = let s = image_in past h in (s.0, s.1, inr s.2)
image_in (Swept moment named ∷ past) h = let s = image_in past h in (s.0, s.1, inr s.2)

pub older_among : (deed : Deed) (q h : List Deed) → Older (deed ∷ q) h → Among deed h
older_among deed q [] o = no o
  where
    no : deed ∷ q ≡ [] → ⊥
    no e = cc
older_among deed q (first ∷ past) (inl is) = let e : deed ≡ first = cc in inl e
older_among deed q (first ∷ past) (inr o) = inr (older_among deed q past o)

-- a place without a deed is no later than the deed
older_before : (deed : Deed) (q p h : List Deed) → Older q h → Older (deed ∷ p) h → (Among deed q → ⊥) → Older q p
older_before deed q p [] o d none = absurd (no d)
  where
    no : deed ∷ p ≡ [] → ⊥
    no e = cc
older_before deed q p (first ∷ past) (inl is) d none =
    absurd (none (subst (Among deed) (sym is) (older_among deed p (first ∷ past) d)))
older_before deed q p (first ∷ past) (inr o) (inl is) none = let e : p ≡ past = cc in subst (Older q) (sym e) o
older_before deed q p (first ∷ past) (inr o) (inr d) none = older_before deed q p past o d none

or_true : (a b : Bool) → b ≡ true → (a || b) ≡ true
or_true true b h = refl
or_true false b h = h

or_left : (a b : Bool) → (a || b) ≡ false → a ≡ false
or_left false b h = refl
or_left true b h = h

or_right : (a b : Bool) → (a || b) ≡ false → b ≡ false
or_right false b h = h
or_right true b h = absurd (true_isnt_false h)

gave_itself : (i : ℕ) (past : List Deed) → ((i == i) || gave_to i past) ≡ true
gave_itself i past = at_eq (i == i) (eq i)
  where
    eq : (i : ℕ) → (i == i) ≡ true
    eq i = grind (arith, nat_tests)

    at_eq : (b : Bool) → b ≡ true → (b || gave_to i past) ≡ true
    at_eq true h = refl
    at_eq false h = absurd (true_isnt_false (sym h))

gave_among : (i : ℕ) (q : List Deed) → Among (Gave i what.Image) q → gave_to i q ≡ true
gave_among i [] a = absurd a
gave_among i (deed ∷ past) (inl is) = subst (λ d. gave_to i (d ∷ past) ≡ true) is (gave_itself i past)
gave_among i (deed ∷ past) (inr a) = more deed (gave_among i past a)
  where
    more : (d : Deed) → gave_to i past ≡ true → gave_to i (d ∷ past) ≡ true
    more (Call client to seq ask reply own) h = h
    more (Asked client seq ask reply) h = h
    more (Taken c how) h = h
    more (Gave to what) h = or_true (to == i) (gave_to i past) h
    more (Imaged image) h = h
    more (Reported report) h = h
    more (Heard report) h = h
    more (Swept moment named) h = h

not_given : (i : ℕ) (q : List Deed) → gave_to i q ≡ false → Among (Gave i what.Image) q → ⊥
not_given i q h a = true_isnt_false (sym (gave_among i q a) ∙ h)

not_named : (i : ℕ) (n : ℕ) (past : List Deed) → is_named_upto i n past ≡ false → (f : ℕ) → 1 ≤ f → f ≤ n
    → is_named i (last_heard f past) ≡ false
not_named i zero past h f from to = absurd (omega (arith, from, to))
not_named i (suc n) past h f from to =
    at_last (cases_le f n) (λ le. not_named i n past (or_right (is_named i (last_heard (suc n) past)) (is_named_upto i n past) h) f from le)
  where
    at_last : (f ≤ n) ⊎ (n < f) → (f ≤ n → is_named i (last_heard f past) ≡ false) → is_named i (last_heard f past) ≡ false
    at_last (inl le) next = next le
    at_last (inr lt) next =
        let e : f ≡ suc n = omega (arith, lt, to) in
        subst (λ k. is_named i (last_heard k past) ≡ false) (sym e)
        (or_left (is_named i (last_heard (suc n) past)) (is_named_upto i n past) h)

-- A member that doesn't count at a place is no founder, was given nothing there, and is named by no founder's report.
pub record IsUncounted (founders i : ℕ) (past : List Deed) : Type 0 where
  pub joins : founders < i
  pub not_given_to : gave_to i past ≡ false
  pub nowhere : is_named_upto i founders past ≡ false

pub uncounted : (founders i : ℕ) (past : List Deed) → is_counting founders i past ≡ false → IsUncounted founders i past
uncounted founders i past h =
    let behind = or_right (nat_le i founders) (gave_to i past || is_named_upto i founders past) h in
    record {
      joins = above (nat_le i founders) refl (or_left (nat_le i founders) (gave_to i past || is_named_upto i founders past) h);
      not_given_to = or_left (gave_to i past) (is_named_upto i founders past) behind;
      nowhere = or_right (gave_to i past) (is_named_upto i founders past) behind;
    }
  where
    above : (b : Bool) → nat_le i founders ≡ b → b ≡ false → founders < i
    above b e h = grind (arith, nat_tests)

-- the report of a founder that doesn't name a joiner was made before the founder gave to it
unnamed_report : (grid : Grid) (f i : ℕ) (q : List Deed) (report : Report) → IsReportOf (identity grid f) q report → f ≤ grid.founders
    → grid.founders < i → i ≤ 8
    → is_in_bits i report.to ≡ false → gave_to i q ≡ false
unfolding recipients
unnamed_report grid f zero q report is le lt eight h = absurd (omega (arith, lt))
unnamed_report grid f (suc k) q report is le lt eight h =
    at_test (gave_to (suc k) q) (nat_le (suc k) grid.founders) (suc k == f) refl
    (not_set _ (sym bit ∙ ap (λ t. bit_at t k) (sym is.to_is)) h)
  where
    bit : bit_at (recipients (identity grid f) q) k ≡ (if is_recipient (identity grid f) q (suc k) then 1 else 0)
    bit = bits_at (is_recipient (identity grid f) q) 8 k eight

    is_one : (n : ℕ) → n ≡ 1 → (n == 1) ≡ true
    is_one n e = grind (arith, nat_tests)

    not_set : (b : Bool) → (if b then 1 else 0) ≡ bit_at report.to k → (bit_at report.to k == 1) ≡ false → b ≡ false
    not_set true e h = absurd (true_isnt_false (sym (is_one (bit_at report.to k) (sym e)) ∙ h))
    not_set false e h = refl

    other : (suc k == f) ≡ true → ⊥
    other h = let e : suc k ≡ f = grind (arith, nat_tests) in omega (arith, le, lt, e)

    at_test : (g a b : Bool) → (suc k == f) ≡ b → ((a || g) && not b) ≡ false → g ≡ false
    at_test g a true e h = absurd (other e)
    at_test false a false e h = refl
    at_test true true false e h = h
    at_test true false false e h = h

pub ready_image : (grid : Grid) (i : ℕ) (past : List Deed) → grid.founders < i → is_ready (identity grid i) past ≡ true
    → has_image past ≡ true
ready_image grid i past lt h = at_test (nat_le i grid.founders) refl h
  where
    at_test : (b : Bool) → nat_le i grid.founders ≡ b → (b || has_image past) ≡ true → has_image past ≡ true
    at_test true e h = let le : i ≤ grid.founders = grind (arith, nat_tests) in absurd (omega (arith, lt, le))
    at_test false e h = h

-- A joiner that doesn't count got its image from a founder that knew what was stable.
pub image_has : (grid : Grid) → IsParted grid → (me : ℕ) (past : List Deed) → Older past (grid.history me)
    → (id : Id) → has_id id (ids past) ≡ true → is_stable (identity grid me) id past ≡ true
    → (i : ℕ) → i ≤ 8 → IsUncounted grid.founders i past → (image : Image) → IsGift grid i image
    → (before : List Deed) → Older (Imaged image ∷ before) (grid.history i) → has_id id image.vector.ids ≡ true
image_has grid parted me past o id known stable i eight un image gift before merged =
    known_ids image.vector.ids (giver_of grid image) gift.is_image.vector_is id
    ∙ at_giver (either (image.from == me)) (parted.sound.outside image.from)
  where
    same : (image.from == me) ≡ true → image.from ≡ me
    same h = grind (arith, nat_tests)

    other : (image.from == me) ≡ false → image.from ≡ me → ⊥
    other h e = grind (arith, nat_tests)

    counts : is_counting grid.founders image.from past ≡ false → ⊥
    counts h = let u = uncounted grid.founders image.from past h in omega (arith, u.joins, gift.from_founder)

    none : (deed : Deed) (q h : List Deed) → h ≡ [] → Older (deed ∷ q) h → ⊥
    none deed q h e o = older_among deed q [] (subst (Older (deed ∷ q)) e o)

    from_made : (report : Report) → Among (bare (Reported report)) (map bare (grid.history image.from))
        → is_covered image.from id (Some report) (ids past) ≡ true → is_in_bits i report.to ≡ false
        → has_id id (ids (giver_of grid image)) ≡ true
    from_made report a c n =
        let r = reported_at (identity grid image.from) (grid.opening image.from) (grid.history image.from)
        (parted.sound.lawful image.from) report a in
        let is : IsReportOf (identity grid image.from) r.0 report = r.2 in
        older_ids id r.0 (giver_of grid image)
        (older_before (Gave i what.Image) r.0 (giver_of grid image) (grid.history image.from) r.1 gift.gave
        (not_given i r.0 (unnamed_report grid image.from i r.0 report is gift.from_founder un.joins eight n)))
        (sym (known_ids report.vector.ids r.0 is.vector_is id) ∙ and_left _ _ c)

    from_report : (r : Option Report) → last_heard image.from past ≡ r → is_covered image.from id r (ids past) ≡ true
        → is_named i r ≡ false
        → has_id id (ids (giver_of grid image)) ≡ true
    from_report None e c n = absurd (true_isnt_false (sym c))
    from_report (Some report) e c n =
        let l = last_among image.from past report e in
        ⊎_elim
        (λ made. from_made report (subst (λ k. Among (bare (Reported report)) (map bare (grid.history k))) l.1 made) c n)
        (λ closed. absurd (closed.2.gave_none i image before merged (sym l.1)))
        (heard_made grid me past (older_heard grid me past (grid.history me) o (parted.heard me)) report l.0)

    at_giver : ((image.from == me) ≡ true) ⊎ ((image.from == me) ≡ false)
        → (1 ≤ image.from) × (image.from ≤ grid.members) ⊎ (grid.history image.from ≡ [])
        → has_id id (ids (giver_of grid image)) ≡ true
    at_giver b (inr empty) = absurd (none (Gave i what.Image) (giver_of grid image) (grid.history image.from) empty gift.gave)
    at_giver (inl is) (inl within) =
        older_ids id past (giver_of grid image)
        (older_before (Gave i what.Image) past (giver_of grid image) (grid.history image.from)
        (subst (λ k. Older past (grid.history k)) (sym (same is)) o) gift.gave
        (not_given i past un.not_given_to))
        known
    at_giver (inr isnt) (inl within) =
        let few = parted.sound.few in
        let eight : image.from ≤ 8 = omega (arith, few, within.1) in
        ⊎_elim (λ e. absurd (other isnt e))
        (λ rest. ⊎_elim (λ no. absurd (counts no))
        (λ covered. from_report (last_heard image.from past) refl covered
        (not_named i grid.founders past un.nowhere image.from within.0 gift.from_founder)) rest)
        (stable_of (identity grid me) id past stable image.from within.0 eight)
