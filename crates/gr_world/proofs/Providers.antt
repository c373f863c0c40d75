-- Each image was given by a member that a line names as provider, and that stays.
use Rattle.std.proofs.Common.{◌≡◌, ◌⊎◌, ℕ, ◌+◌, ◌≤◌, List, [], ◌∷◌, Bool, true, false, ◌||◌, ◌==◌, refl, subst}
use Rattle.std.proofs.Common.{inl, inr, ⊎_elim, arith, if◌then◌else◌}
use Rattle.std.specs.Prelude.{Option, Some, None}
use Rattle.std.proofs.lemmas.List.Sums.{sum_by-cons}
use Rattle.gr_vector.specs.declared.report.Report.{Report}
use Rattle.gr_history.specs.declared.image.Image.{Image}
use Rattle.gr_history.specs.declared.image.What.TheVariants as what
use Rattle.gr_history.specs.declared.deed.Deed.{Deed}
use Rattle.gr_history.specs.declared.deed.Deed.TheVariants.{Call, Asked, Taken, Gave, Imaged, Reported, Heard, Swept}
use Rattle.gr_law.specs.Grids.{Older}
use Rattle.gr_law.specs.Integrity.{IsGift, IsSound, giver_of}
use Rattle.gr_law.proofs.Made.{older_genuine}
use Rattle.gr_script.specs.declared.line.Line.{Line}
use Rattle.gr_script.specs.declared.line.Line.TheVariants.{Step, Deliver, Hear, Sweep, Join, Depart, Leave, Back}
use Rattle.gr_script.specs.declared.line.Line.TheVariants as line
use Rattle.gr_script.specs.Rules.{Heading, NamesStaying, StandsAfter}
use Rattle.gr_script.specs.Steps.{departed, is_gone, is_join_from, joins_from}
use Rattle.gr_law.proofs.Joiners.{older_among}
use Rattle.gr_world.specs.Events.{Event, history}
use Rattle.gr_world.specs.Departures.{closing_report}
use Rattle.gr_world.specs.Doings.{Doing, Calls, Takes, Gives, Merges, Reports, Hears, Sweeps, Asks}
use Rattle.gr_world.specs.Named.{reports, numbered}
use Rattle.gr_world.specs.Courses.{does, hears, hears_of, course}
use Rattle.gr_world.specs.Causes.{grid_at}
use Rattle.gr_world.proofs.Events.{equal_numbers}
use Rattle.gr_world.proofs.Growing.{isnt_true, AreAll, all_did}
use Rattle.gr_world.proofs.Walks.{Keeps}
use Rattle.gr_world.proofs.Lines.{AreFit, fit_rest, MayDo, IsKeptByDeeds, kept_by, line_keeps}
use Rattle.gr_world.proofs.FromTaken.{ImagesStay}

-- a fact that each deed keeps is kept by a report that is heard
pub hears_keep : (heading : Heading) (P : List Event → Type 0) (m of number s : ℕ)
    → ((report : Report) → Keeps P (does heading m s (Hears report))) → Keeps P (hears_of heading m of number s)
hears_keep heading P m of number s keeps now h = at_report (numbered number (reports (history of s now)))
  where
    at_report : (o : Option Report) → P (hears heading m s o now)
    at_report None = h
    at_report (Some report) = keeps report now h

-- ---- who gave an image

-- the member gave an image on a line
abbrev Provided : List Line → ℕ → Type 0
Provided past i = 1 ≤ joins_from i past

provided_more : (one : Line) (past : List Line) (i : ℕ)
    → joins_from i (one ∷ past) ≡ (if is_join_from i one then 1 else 0) + joins_from i past
provided_more one past i = sum_by-cons (λ l. if is_join_from i l then 1 else 0) one past

provided_here : (one : Line) (past : List Line) (i : ℕ) → is_join_from i one ≡ true → Provided (one ∷ past) i
provided_here one past i here = at_test (is_join_from i one) here (provided_more one past i)
  where
    at_test : (b : Bool) → b ≡ true → joins_from i (one ∷ past) ≡ (if b then 1 else 0) + joins_from i past → Provided (one ∷ past) i
    at_test true e more = omega (arith, more)
    at_test false e more = absurd (isnt_true e)

provided_before : (one : Line) (past : List Line) (i : ℕ) → Provided past i → Provided (one ∷ past) i
provided_before one past i before = let more = provided_more one past i in omega (arith, more, before)

provided_either : (one : Line) (past : List Line) (i : ℕ) → Provided (one ∷ past) i → (is_join_from i one ≡ true) ⊎ Provided past i
provided_either one past i p = at_test (is_join_from i one) refl (provided_more one past i)
  where
    at_test : (b : Bool) → is_join_from i one ≡ b → joins_from i (one ∷ past) ≡ (if b then 1 else 0) + joins_from i past
        → (is_join_from i one ≡ true) ⊎ Provided past i
    at_test true e more = inl e
    at_test false e more = inr (omega (arith, more, p))

-- who gave an image is one of these
abbrev GivesAs : (ℕ → Type 0) → ℕ → Deed → Type 0
GivesAs P j (Gave to gift) = gift ≡ what.Image → P j
GivesAs P j _ = Unit {0}

givers_does : (heading : Heading) (past : List Line) (one : Line) (m s : ℕ) (doing : Doing) → MayDo one m doing
    → Keeps (AreAll (GivesAs (Provided (one ∷ past)))) (does heading m s doing)
givers_does heading past one m s (Calls client number ask) may now h = all_did (GivesAs (Provided (one ∷ past))) m s _ now tt h
givers_does heading past one m s (Takes change) may now h = all_did (GivesAs (Provided (one ∷ past))) m s _ now tt h
givers_does heading past one m s (Gives to gift) may now h =
    all_did (GivesAs (Provided (one ∷ past))) m s (Gave to gift) now (λ is. provided_here one past m (may is)) h
givers_does heading past one m s (Merges image) may now h = all_did (GivesAs (Provided (one ∷ past))) m s _ now tt h
givers_does heading past one m s Reports may now h = all_did (GivesAs (Provided (one ∷ past))) m s _ now tt h
givers_does heading past one m s (Hears report) may now h = absurd may
givers_does heading past one m s (Sweeps moment) may now h = all_did (GivesAs (Provided (one ∷ past))) m s _ now tt h
givers_does heading past one m s (Asks client number ask) may now h = all_did (GivesAs (Provided (one ∷ past))) m s _ now tt h

givers_by : (heading : Heading) (past : List Line) (one : Line) → IsKeptByDeeds heading past one (AreAll (GivesAs (Provided (one ∷ past))))
givers_by heading past one = record {
  done = λ m s doing may less stays. givers_does heading past one m s doing may;
  peeked = λ client number peek now h. h;
  gathered = λ client number replies now h. h;
  heard = λ m of number s less stays. hears_keep heading (AreAll (GivesAs (Provided (one ∷ past)))) m of number s
      (λ report now h. all_did (GivesAs (Provided (one ∷ past))) m s (Heard report) now tt h);
  closed = λ m of s less stays left now h.
      all_did (GivesAs (Provided (one ∷ past))) m s (Heard (closing_report of (history m s now))) now tt h;
}

gives_more : (one : Line) (past : List Line) (j : ℕ) (deed : Deed) → GivesAs (Provided past) j deed → GivesAs (Provided (one ∷ past)) j deed
gives_more one past j (Call client to seq ask reply made) g = tt
gives_more one past j (Asked client seq ask reply) g = tt
gives_more one past j (Taken change how) g = tt
gives_more one past j (Gave to gift) g = λ is. provided_before one past j (g is)
gives_more one past j (Imaged image) g = tt
gives_more one past j (Reported report) g = tt
gives_more one past j (Heard report) g = tt
gives_more one past j (Swept moment keys) g = tt

course_givers : (heading : Heading) (past : List Line) → AreFit heading past → AreAll (GivesAs (Provided past)) (course heading past)
course_givers heading [] fit = λ j shard deed a. absurd a
course_givers heading (one ∷ past) fit =
    line_keeps heading past (AreAll (GivesAs (Provided (one ∷ past)))) one fit.heading_is fit.names.0
    (kept_by heading past one (AreAll (GivesAs (Provided (one ∷ past)))) fit.heading_is (givers_by heading past one)) (course heading past)
    (λ j shard deed a. gives_more one past j deed
    (course_givers heading past (fit_rest heading one past fit) j shard deed a))

-- ---- who gave an image stays

giver_stays : (one : Line) (past : List Line) (heading : Heading) (i : ℕ) → NamesStaying heading past one → is_join_from i one ≡ true
    → is_gone (departed (one ∷ past)) i ≡ false
giver_stays (Step client number act) past heading i names e = absurd (isnt_true e)
giver_stays (Deliver to client number) past heading i names e = absurd (isnt_true e)
giver_stays (line.Report of) past heading i names e = absurd (isnt_true e)
giver_stays (Hear by of number) past heading i names e = absurd (isnt_true e)
giver_stays (Sweep of moment) past heading i names e = absurd (isnt_true e)
giver_stays (Join joiner provider) past heading i names e =
    subst (λ m. is_gone (departed past) m ≡ false) (equal_numbers provider i e) names.1
giver_stays (Depart of) past heading i names e = absurd (isnt_true e)
giver_stays (Leave client moment) past heading i names e = absurd (isnt_true e)
giver_stays (Back client moment) past heading i names e = absurd (isnt_true e)

-- a line after which one that gave an image before stays
stays_behind : (one : Line) (past : List Line) (heading : Heading) (i : ℕ) → StandsAfter heading past one → Provided past i
    → is_gone (departed past) i ≡ false → is_gone (departed (one ∷ past)) i ≡ false
stays_behind (Step client number act) past heading i stands p stays = stays
stays_behind (Deliver to client number) past heading i stands p stays = stays
stays_behind (line.Report of) past heading i stands p stays = stays
stays_behind (Hear by of number) past heading i stands p stays = stays
stays_behind (Sweep of moment) past heading i stands p stays = stays
stays_behind (Join joiner provider) past heading i stands p stays = stays
stays_behind (Depart of) past heading i stands p stays = at_test (of == i) refl
  where
    at_test : (b : Bool) → (of == i) ≡ b → (b || is_gone (departed past) i) ≡ false
    at_test true e =
        let none : joins_from i past ≡ 0 = subst (λ m. joins_from m past ≡ 0) (equal_numbers of i e) stands.1 in
        absurd (omega (arith, none, p))
    at_test false e = stays
stays_behind (Leave client moment) past heading i stands p stays = stays
stays_behind (Back client moment) past heading i stands p stays = stays

providers_stay : (heading : Heading) (past : List Line) → AreFit heading past → (i : ℕ) → Provided past i
    → is_gone (departed past) i ≡ false
providers_stay heading [] fit i p = refl
providers_stay heading (one ∷ past) fit i p = ⊎_elim
    (λ here. giver_stays one past heading i fit.names.0 here)
    (λ before. stays_behind one past heading i fit.stand.0 before
    (providers_stay heading past (fit_rest heading one past fit) i before))
    (provided_either one past i p)

-- who gave an image by now
image_provided : (heading : Heading) (past : List Line) (shard : ℕ) → AreFit heading past
    → IsSound (grid_at heading shard (course heading past)) → (j : ℕ) (image : Image) (before : List Deed)
    → Older (Imaged image ∷ before) (history j shard (course heading past)) → Provided past image.from
image_provided heading past shard fit sound j image before merged =
    let gift : IsGift (grid_at heading shard (course heading past)) j image =
    (older_genuine (grid_at heading shard (course heading past)) j (Imaged image ∷ before) (history j shard (course heading past)) merged
    (sound.genuine j)).0.1 in
    course_givers heading past fit image.from shard (Gave j what.Image)
    (older_among (Gave j what.Image) (giver_of (grid_at heading shard (course heading past)) image)
    (history image.from shard (course heading past)) gift.gave) refl

pub images_stay : (heading : Heading) (past : List Line) (shard : ℕ) → AreFit heading past
    → IsSound (grid_at heading shard (course heading past)) → ImagesStay heading (departed past) shard (course heading past)
images_stay heading past shard fit sound j image before merged =
    providers_stay heading past fit image.from (image_provided heading past shard fit sound j image before merged)

-- so it is before a departure, without the one
pub images_gone : (heading : Heading) (of : ℕ) (past : List Line) (shard : ℕ) → AreFit heading (Depart of ∷ past)
    → IsSound (grid_at heading shard (course heading past)) → ImagesStay heading (of ∷ departed past) shard (course heading past)
images_gone heading of past shard fit sound j image before merged =
    providers_stay heading (Depart of ∷ past) fit image.from
    (provided_before (Depart of) past image.from
    (image_provided heading past shard (fit_rest heading (Depart of) past fit) sound j image
    before merged))
