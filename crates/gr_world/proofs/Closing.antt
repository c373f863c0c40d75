-- Each report that was heard was made, or its member had departed and is closed.
use Rattle.std.proofs.Common.{◌≡◌, ◌⊎◌, ℕ, ◌≤◌, ◌<◌, List, [], ◌∷◌, ◌++◌, Bool, true, false, ◌&&◌, ◌||◌, ◌==◌, refl, sym, ap, ◌∙◌}
use Rattle.std.proofs.Common.{subst, inl, inr, ⊎_elim, arith, length}
use Rattle.std.specs.Prelude.{Option, Some, None}
use Rattle.std.specs.List.{cons_option}
use Rattle.gr_vector.specs.declared.report.Report.{Report}
use Rattle.gr_vector.specs.Ids.{Id, has_id}
use Rattle.gr_history.specs.declared.image.Image.{Image}
use Rattle.gr_history.specs.declared.deed.Deed.{Deed}
use Rattle.gr_history.specs.declared.deed.Deed.TheVariants.{Call, Asked, Taken, Gave, Imaged, Reported, Heard, Swept}
use Rattle.gr_history.specs.Ids.{ids}
use Rattle.gr_law.specs.Grids.{Among, Older, identity}
use Rattle.gr_law.specs.Integrity.{IsSound, IsGift, giver_of, IsClosed, IsHeardOrClosed, AreHeardOrClosed}
use Rattle.gr_law.proofs.Made.{older_trans, older_itself, older_ids, older_genuine}
use Rattle.gr_law.proofs.Steps.{true_isnt_false}
use Rattle.gr_script.specs.declared.line.Line.{Line}
use Rattle.gr_script.specs.declared.line.Line.TheVariants.{Step, Deliver, Hear, Sweep, Join, Depart, Leave, Back}
use Rattle.gr_script.specs.declared.line.Line.TheVariants as line
use Rattle.gr_script.specs.Rules.{Heading, IsMember}
use Rattle.gr_script.specs.Steps.{departs, departed, is_gone}
use Rattle.gr_world.specs.Events.{Event, Did, put_if, history}
use Rattle.gr_world.specs.Departures.{closing_report}
use Rattle.gr_world.specs.Doings.{Doing, Calls, Takes, Gives, Merges, Reports, Hears, Sweeps, Asks, deed_of}
use Rattle.gr_world.specs.Named.{reports, numbered}
use Rattle.gr_world.specs.Courses.{identity_at, does, hears, closes, course}
use Rattle.gr_world.specs.Causes.{grid_at}
use Rattle.gr_world.specs.Shut.{IsStaying, IsShut}
use Rattle.gr_world.proofs.Events.{equal_numbers, more_among, other_shard}
use Rattle.gr_world.proofs.Causes.{reports_made, numbered_among, among_bare, reported_by}
use Rattle.gr_law.proofs.Growth.{older_length}
use Rattle.gr_world.proofs.Growing.{isnt_true, AreAll, all_did}
use Rattle.gr_world.proofs.Walks.{Keeps}
use Rattle.gr_world.proofs.Lines.{AreFit, fit_rest, fit_tail, gone_later, MayDo, IsKeptByDeeds, kept_by, line_keeps}
use Rattle.gr_world.proofs.Providers.{hears_keep, images_stay}
use Rattle.gr_world.proofs.Departed.{itself, course_sound, departed_shut}

-- a fact that all deeds keep, whatever is heard
every_deed : (heading : Heading) (past : List Line) (one : Line) (P : List Event → Type 0)
    → ((m s : ℕ) (doing : Doing) → s < heading.shards → is_gone (departed past) m ≡ false → Keeps P (does heading m s doing))
    → ((now later : List Event) → ((j shard : ℕ) → history j shard later ≡ history j shard now) → P now → P later)
    → AreFit heading (one ∷ past) → P (course heading past) → P (course heading (one ∷ past))
every_deed heading past one P keeps same fit =
    line_keeps heading past P one fit.heading_is fit.names.0
    (kept_by heading past one P fit.heading_is (record {
      done = λ m s doing may. keeps m s doing;
      peeked = λ client number peek now. same now _ (λ j shard. refl);
      gathered = λ client number replies now. same now _ (λ j shard. refl);
      heard = λ m of number s less stays. hears_keep heading P m of number s (λ report. keeps m s (Hears report) less stays);
      closed = λ m of s less stays left now. keeps m s (Hears (closing_report of (history m s now))) less stays now;
    })) (course heading past)

-- ---- histories grow

abbrev pub HasGrown : List Event → List Event → Type 0
HasGrown before now = (j shard : ℕ) → Older (history j shard before) (history j shard now)

grown_put : (b : Bool) (deed : Deed) (q past : List Deed) → Older q past → Older q (put_if b deed past)
grown_put true deed q past o = inr o
grown_put false deed q past o = o

grown_does : (heading : Heading) (before : List Event) (m s : ℕ) (doing : Doing) → Keeps (HasGrown before) (does heading m s doing)
grown_does heading before m s doing now h j shard =
    grown_put (shard == s && j == m) (deed_of (identity_at heading m s) heading.floor (history m s now) doing) (history j shard before)
    (history j shard now) (h j shard)

grown_later : (heading : Heading) (past later : List Line) → AreFit heading (later ++ past)
    → HasGrown (course heading past) (course heading (later ++ past))
grown_later heading past [] fit = λ j shard. older_itself (history j shard (course heading past))
grown_later heading past (one ∷ later) fit =
    every_deed heading (later ++ past) one (HasGrown (course heading past))
    (λ m s doing less stays. grown_does heading (course heading past) m s doing)
    (λ now next same h j shard. subst (Older (history j shard (course heading past))) (sym (same j shard)) (h j shard)) fit
    (grown_later heading past later (fit_rest heading one (later ++ past) fit))

-- ---- histories behind the last shard are empty

abbrev IsWithin : Heading → List Event → Type 0
IsWithin heading now = (j shard : ℕ) → heading.shards ≤ shard → history j shard now ≡ []

pub course_within : (heading : Heading) (past : List Line) → AreFit heading past → IsWithin heading (course heading past)
course_within heading [] fit = λ j shard le. refl
course_within heading (one ∷ past) fit =
    every_deed heading past one (IsWithin heading)
    (λ m s doing less stays now h j shard le.
    other_shard j shard m s (deed_of (identity_at heading m s) heading.floor (history m s now) doing) now
    (λ is. omega (arith, is, less, le)) ∙ h j shard le)
    (λ now next same h j shard le. same j shard ∙ h j shard le) fit
    (course_within heading past (fit_rest heading one past fit))

-- ---- histories of members that departed stay as they are

abbrev IsFrozen : ℕ → List Event → List Event → Type 0
IsFrozen j before now = (shard : ℕ) → history j shard now ≡ history j shard before

frozen_does : (heading : Heading) (j : ℕ) (before : List Event) (m s : ℕ) (doing : Doing) → (j ≡ m → ⊥)
    → Keeps (IsFrozen j before) (does heading m s doing)
frozen_does heading j before m s doing other now h shard = at_test (shard == s) (j == m) refl ∙ h shard
  where
    at_test : (a b : Bool) → (j == m) ≡ b
        → put_if (a && b) (deed_of (identity_at heading m s) heading.floor (history m s now) doing) (history j shard now)
        ≡ history j shard now
    at_test true true e = absurd (other (equal_numbers j m e))
    at_test true false e = refl
    at_test false b e = refl

frozen_later : (heading : Heading) (j : ℕ) (past later : List Line) → AreFit heading (later ++ past)
    → is_gone (departed past) j ≡ true
    → IsFrozen j (course heading past) (course heading (later ++ past))
frozen_later heading j past [] fit left = λ shard. refl
frozen_later heading j past (one ∷ later) fit left =
    every_deed heading (later ++ past) one (IsFrozen j (course heading past))
    (λ m s doing less stays. frozen_does heading j (course heading past) m s doing (apart m stays))
    (λ now next same h shard. same j shard ∙ h shard) fit
    (frozen_later heading j past later (fit_rest heading one (later ++ past) fit) left)
  where
    apart : (m : ℕ) → is_gone (departed (later ++ past)) m ≡ false → j ≡ m → ⊥
    apart m stays is =
        true_isnt_false (sym (gone_later later past j left) ∙ subst (λ n. is_gone (departed (later ++ past)) n ≡ false) (sym is) stays)

-- ---- what was heard

-- The member had departed by then, and who heard its closing report hadn't.
pub record IsShutAt (heading : Heading) (past : List Line) (me shard gone : ℕ) (place : List Deed) : Type 0 where
  pub later : List Line
  pub before : List Line
  pub split : past ≡ later ++ Depart gone ∷ before
  pub stays : is_gone (gone ∷ departed before) me ≡ false
  pub behind : Older (history me shard (course heading (Depart gone ∷ before))) place

abbrev IsTold : (ℕ → List Deed → Type 0) → (Report → Type 0) → Deed → List Deed → Type 0
IsTold P R (Heard report) past = R report ⊎ P report.member past
IsTold P R _ past = Unit {0}

abbrev AreTold : (ℕ → List Deed → Type 0) → (Report → Type 0) → List Deed → Type 0
AreTold P R [] = Unit {0}
AreTold P R (deed ∷ past) = IsTold P R deed past × AreTold P R past

told_map : (P Q : ℕ → List Deed → Type 0) (R S : Report → Type 0) → ((gone : ℕ) (past : List Deed) → P gone past → Q gone past)
    → ((report : Report) → R report → S report) → (h : List Deed) → AreTold P R h → AreTold Q S h
told_map P Q R S f g [] t = tt
told_map P Q R S f g (deed ∷ past) t = (at_deed deed t.0, told_map P Q R S f g past t.1)
  where
    at_deed : (d : Deed) → IsTold P R d past → IsTold Q S d past
    at_deed (Call client to seq ask reply made) t = tt
    at_deed (Asked client seq ask reply) t = tt
    at_deed (Taken change how) t = tt
    at_deed (Gave to what) t = tt
    at_deed (Imaged image) t = tt
    at_deed (Reported report) t = tt
    at_deed (Heard report) t = ⊎_elim (λ r. inl (g report r)) (λ p. inr (f report.member past p)) t
    at_deed (Swept moment keys) t = tt

abbrev WasMade : ℕ → List Event → Report → Type 0
WasMade shard now report = Among (Reported report) (history report.member shard now)

-- each heard report was made, or its member had departed
abbrev AllTold : (ℕ → ℕ → ℕ → List Deed → Type 0) → List Event → Type 0
AllTold P now = (me shard : ℕ) → AreTold (P me shard) (WasMade shard now) (history me shard now)

module _ (heading : Heading) (P : ℕ → ℕ → ℕ → List Deed → Type 0) where
  told_did : (m s : ℕ) (deed : Deed) (now : List Event)
      → IsTold (P m s) (WasMade s (Did m s deed ∷ now)) deed (history m s now) → AllTold P now → AllTold P (Did m s deed ∷ now)
  told_did m s deed now new h me shard =
      at_test (shard == s) (me == m) refl refl
      (told_map (P me shard) (P me shard) (WasMade shard now) (WasMade shard (Did m s deed ∷ now)) (λ gone past p. p)
      (λ report r. more_among report.member shard (Reported report) (Did m s deed) now r) (history me shard now) (h me shard))
    where
      at_test : (a b : Bool) → (shard == s) ≡ a → (me == m) ≡ b
          → AreTold (P me shard) (WasMade shard (Did m s deed ∷ now)) (history me shard now)
          → AreTold (P me shard) (WasMade shard (Did m s deed ∷ now)) (put_if (a && b) deed (history me shard now))
      at_test true true e f t = (
        subst (λ i. IsTold (P i shard) (WasMade shard (Did m s deed ∷ now)) deed (history i shard now)) (sym (equal_numbers me m f))
            (subst (λ k. IsTold (P m k) (WasMade k (Did m s deed ∷ now)) deed (history m k now)) (sym (equal_numbers shard s e)) new),
        t,
      )
      at_test true false e f t = t
      at_test false b e f t = t

  told_does : (one : Line) (m s : ℕ) (doing : Doing) → MayDo one m doing → Keeps (AllTold P) (does heading m s doing)
  told_does one m s (Calls client number ask) may now h = told_did m s _ now tt h
  told_does one m s (Takes change) may now h = told_did m s _ now tt h
  told_does one m s (Gives to what) may now h = told_did m s _ now tt h
  told_does one m s (Merges image) may now h = told_did m s _ now tt h
  told_does one m s Reports may now h = told_did m s _ now tt h
  told_does one m s (Hears report) may now h = absurd may
  told_does one m s (Sweeps moment) may now h = told_did m s _ now tt h
  told_does one m s (Asks client number ask) may now h = told_did m s _ now tt h

  -- a report that is heard was made
  told_hears : (m s : ℕ) (report : Report) (now : List Event) → WasMade s now report → AllTold P now
      → AllTold P (does heading m s (Hears report) now)
  told_hears m s report now made_is h =
      told_did m s (Heard report) now (inl (more_among report.member s (Reported report) (Did m s (Heard report)) now made_is)) h

  -- or it is a closing report
  told_closes : (m of s : ℕ) (now : List Event) → P m s of (history m s now) → AllTold P now → AllTold P (closes heading m s of now)
  told_closes m of s now is h =
      told_did m s (Heard (closing_report of (history m s now))) now (inr is) h

-- ---- line by line

-- a report has the number of its maker
abbrev NamesMaker : ℕ → Deed → Type 0
NamesMaker j (Reported report) = report.member ≡ j
NamesMaker j _ = Unit {0}

named_does : (heading : Heading) (m s : ℕ) (doing : Doing) → Keeps (AreAll NamesMaker) (does heading m s doing)
named_does heading m s (Calls client number ask) now h = all_did NamesMaker m s _ now tt h
named_does heading m s (Takes change) now h = all_did NamesMaker m s _ now tt h
named_does heading m s (Gives to what) now h = all_did NamesMaker m s _ now tt h
named_does heading m s (Merges image) now h = all_did NamesMaker m s _ now tt h
named_does heading m s Reports now h = all_did NamesMaker m s _ now refl h
named_does heading m s (Hears report) now h = all_did NamesMaker m s _ now tt h
named_does heading m s (Sweeps moment) now h = all_did NamesMaker m s _ now tt h
named_does heading m s (Asks client number ask) now h = all_did NamesMaker m s _ now tt h

-- what holds of what was done so far
record IsSoFar (P : ℕ → ℕ → ℕ → List Deed → Type 0) (start now : List Event) : Type 0 where
  pub told : AllTold P now
  pub grown : HasGrown start now
  pub named : AreAll NamesMaker now

-- where a member departed
record IsLeftAt (past : List Line) (of : ℕ) : Type 0 where
  pub later : List Line
  pub before : List Line
  pub split : past ≡ later ++ Depart of ∷ before

is_depart : (one : Line) (of : ℕ) → departs one ≡ Some of → one ≡ Depart of
is_depart (Step client number act) of e = absurd (cc)
is_depart (Deliver to client number) of e = absurd (cc)
is_depart (line.Report by) of e = absurd (cc)
is_depart (Hear by from number) of e = absurd (cc)
is_depart (Sweep by moment) of e = absurd (cc)
is_depart (Join joiner provider) of e = absurd (cc)
is_depart (Depart by) of e = let is : by ≡ of = cc in ap Depart is
is_depart (Leave client moment) of e = absurd (cc)
is_depart (Back client moment) of e = absurd (cc)

find_left : (past : List Line) (of : ℕ) → is_gone (departed past) of ≡ true → IsLeftAt past of
find_left [] of left = absurd (isnt_true left)
find_left (one ∷ past) of left = at_departs (departs one) refl left (λ h. find_left past of h)
  where
    further : IsLeftAt past of → IsLeftAt (one ∷ past) of
    further at = record { later = one ∷ at.later; before = at.before; split = ap (λ p. one ∷ p) at.split }

    at_departs : (o : Option ℕ) → departs one ≡ o → is_gone (cons_option o (departed past)) of ≡ true
        → (is_gone (departed past) of ≡ true → IsLeftAt past of) → IsLeftAt (one ∷ past) of
    at_departs None e left next = further (next left)
    at_departs (Some by) e left next = at_test (by == of) refl left
      where
        at_test : (b : Bool) → (by == of) ≡ b → (b || is_gone (departed past) of) ≡ true → IsLeftAt (one ∷ past) of
        at_test true f left = record {
          later = [];
          before = past;
          split = ap (λ l. l ∷ past) (is_depart one by e ∙ ap Depart (equal_numbers by of f));
        }
        at_test false f left = further (next left)

-- one that stays later stayed before
stayed : (later before : List Line) (of m : ℕ) → is_gone (departed (later ++ Depart of ∷ before)) m ≡ false
    → is_gone (of ∷ departed before) m ≡ false
stayed later before of m stays = at_test (is_gone (of ∷ departed before) m) refl
  where
    at_test : (b : Bool) → is_gone (of ∷ departed before) m ≡ b → is_gone (of ∷ departed before) m ≡ false
    at_test true e = absurd (true_isnt_false (sym (gone_later later (Depart of ∷ before) m e) ∙ stays))
    at_test false e = e

-- whoever hears a closing report on this line is shut to the one
shut_on : (heading : Heading) (past : List Line) (one : Line) → AreFit heading past → (m s of : ℕ)
    → is_gone (departed past) m ≡ false → is_gone (departed past) of ≡ true → (place : List Deed)
    → Older (history m s (course heading past)) place → IsShutAt heading (one ∷ past) m s of place
shut_on heading past one fit m s of stays left place o =
    let at = find_left past of left in
    record {
      later = one ∷ at.later;
      before = at.before;
      split = ap (λ p. one ∷ p) at.split;
      stays = stayed at.later at.before of m (subst (λ p. is_gone (departed p) m ≡ false) at.split stays);
      behind = older_trans (history m s (course heading (Depart of ∷ at.before))) (history m s (course heading past)) place
          (subst (λ p. Older (history m s (course heading (Depart of ∷ at.before))) (history m s (course heading p))) (sym at.split)
          (grown_later heading (Depart of ∷ at.before) at.later (subst (AreFit heading) at.split fit) m s))
          o;
    }

so_far_by : (heading : Heading) (past : List Line) (one : Line) → AreFit heading past
    → IsKeptByDeeds heading past one (IsSoFar (IsShutAt heading (one ∷ past)) (course heading past))
so_far_by heading past one fit = record {
  done = λ m s doing may less stays now h. record {
    told = told_does heading P one m s doing may now h.told;
    grown = grown_does heading (course heading past) m s doing now h.grown;
    named = named_does heading m s doing now h.named;
  };
  peeked = λ client number peek now h. record { told = h.told; grown = h.grown; named = h.named };
  gathered = λ client number replies now h. record { told = h.told; grown = h.grown; named = h.named };
  heard = λ m of number s less stays now h. at_report m of number s now h (numbered number (reports (history of s now))) refl;
  closed = λ m of s less stays left now h. record {
    told = told_closes heading P m of s now (shut_on heading past one fit m s of stays left (history m s now) (h.grown m s)) h.told;
    grown = grown_does heading (course heading past) m s (Hears (closing_report of (history m s now))) now h.grown;
    named = named_does heading m s (Hears (closing_report of (history m s now))) now h.named;
  };
}
  where
    P : ℕ → ℕ → ℕ → List Deed → Type 0
    P = IsShutAt heading (one ∷ past)

    at_report : (m of number s : ℕ) (now : List Event) → IsSoFar P (course heading past) now → (o : Option Report)
        → numbered number (reports (history of s now)) ≡ o → IsSoFar P (course heading past) (hears heading m s o now)
    at_report m of number s now h None e = h
    at_report m of number s now h (Some report) e =
        let made_is : Among (Reported report) (history of s now) =
        reports_made report (history of s now) (numbered_among number (reports (history of s now)) report e) in
        record {
          told = told_hears heading P m s report now
              (subst (λ i. Among (Reported report) (history i s now)) (sym (h.named of s (Reported report) made_is)) made_is) h.told;
          grown = grown_does heading (course heading past) m s (Hears report) now h.grown;
          named = named_does heading m s (Hears report) now h.named;
        }

-- reports have the numbers of their makers in a lawful history
all_named : (heading : Heading) (past : List Line) → AreFit heading past → AreAll NamesMaker (course heading past)
all_named heading past fit j shard deed = at_deed deed
  where
    at_deed : (d : Deed) → Among d (history j shard (course heading past)) → NamesMaker j d
    at_deed (Call client to seq ask reply made) a = tt
    at_deed (Asked client seq ask reply) a = tt
    at_deed (Taken change how) a = tt
    at_deed (Gave to what) a = tt
    at_deed (Imaged image) a = tt
    at_deed (Reported report) a =
        reported_by (identity (grid_at heading shard (course heading past)) j) heading.floor (history j shard (course heading past)) report
        ((course_sound heading past fit shard).lawful j) a
    at_deed (Heard report) a = tt
    at_deed (Swept moment keys) a = tt

pub all_told : (heading : Heading) (past : List Line) → AreFit heading past → AllTold (IsShutAt heading past) (course heading past)
all_told heading [] fit = λ me shard. tt
all_told heading (one ∷ past) fit =
    let before = fit_rest heading one past fit in
    (line_keeps heading past (IsSoFar (IsShutAt heading (one ∷ past)) (course heading past)) one fit.heading_is fit.names.0
    (kept_by heading past one (IsSoFar (IsShutAt heading (one ∷ past)) (course heading past)) fit.heading_is
    (so_far_by heading past one before)) (course heading past)
    (record {
      told = λ me shard. told_map (IsShutAt heading past me shard) (IsShutAt heading (one ∷ past) me shard)
          (WasMade shard (course heading past)) (WasMade shard (course heading past))
          (λ gone place shut. record {
            later = one ∷ shut.later;
            before = shut.before;
            split = ap (λ p. one ∷ p) shut.split;
            stays = shut.stays;
            behind = shut.behind;
          })
          (λ report r. r) (history me shard (course heading past)) (all_told heading past before me shard);
      grown = λ j shard. older_itself (history j shard (course heading past));
      named = all_named heading past before;
    })).told

-- ---- closed

module _ (heading : Heading) (gone : ℕ) (later before : List Line) (fit : AreFit heading (later ++ Depart gone ∷ before)) (shard : ℕ)
    (less : shard < heading.shards) where
  tail : AreFit heading (Depart gone ∷ before)
  tail = fit_tail heading later (Depart gone ∷ before) fit

  shut : IsShut heading gone before later
  shut = departed_shut heading gone before later fit

  sound_end : IsSound (grid_at heading shard (course heading (later ++ Depart gone ∷ before)))
  sound_end = course_sound heading (later ++ Depart gone ∷ before) fit shard

  sound_base : IsSound (grid_at heading shard (course heading (Depart gone ∷ before)))
  sound_base = course_sound heading (Depart gone ∷ before) tail shard

  member_of : (m : ℕ) (deed : Deed) (q : List Deed) → Older (deed ∷ q) (history m shard (course heading (later ++ Depart gone ∷ before)))
      → IsMember heading m
  member_of m deed q o = ⊎_elim (λ within. within) (λ empty. absurd (none (subst (Older (deed ∷ q)) empty o))) (sound_end.outside m)
    where
      none : Older (deed ∷ q) [] → ⊥
      none e = cc

  pub closed_there : (me : ℕ) (place : List Deed) → IsMember heading me → is_gone (gone ∷ departed before) me ≡ false
      → Older (history me shard (course heading (Depart gone ∷ before))) place
      → IsClosed (grid_at heading shard (course heading (later ++ Depart gone ∷ before))) me gone place
  closed_there me place member stays behind = record {
    here = λ id named known. older_ids id (history me shard (course heading (Depart gone ∷ before))) place behind
        (sym (shut.still shard less me at_me id named) ∙ known);
    joiners = λ joiner image q merged from older id named known. at_joiner joiner image q merged from older id named known
        (is_gone (gone ∷ departed before) joiner) refl;
    gave_none = λ joiner image q merged from.
        isnt_true (sym (images_stay heading (later ++ Depart gone ∷ before) shard fit sound_end joiner image q merged)
        ∙ subst (λ i. is_gone (departed (later ++ Depart gone ∷ before)) i ≡ true) (sym from)
        (gone_later later (Depart gone ∷ before) gone (itself gone (is_gone (departed before) gone))));
  }
    where
      at_me : IsStaying heading (gone ∷ departed before) me
      at_me = record { stated = member; stays = stays }

      too_long : (joiner : ℕ) (image : Image) (q : List Deed)
          → Older (Imaged image ∷ q) (history joiner shard (course heading (later ++ Depart gone ∷ before)))
          → image.from ≡ me → Older place (giver_of (grid_at heading shard (course heading (later ++ Depart gone ∷ before))) image)
          → is_gone (gone ∷ departed before) joiner ≡ true → ⊥
      too_long joiner image q merged from older left =
          let frozen : history joiner shard (course heading (later ++ Depart gone ∷ before))
          ≡ history joiner shard (course heading (Depart gone ∷ before)) =
          frozen_later heading joiner (Depart gone ∷ before) later fit left shard in
          let gift_base : IsGift (grid_at heading shard (course heading (Depart gone ∷ before))) joiner image =
          (older_genuine (grid_at heading shard (course heading (Depart gone ∷ before))) joiner (Imaged image ∷ q)
          (history joiner shard (course heading (Depart gone ∷ before))) (subst (Older (Imaged image ∷ q)) frozen merged)
          (sound_base.genuine joiner)).0.1 in
          let gift_end : IsGift (grid_at heading shard (course heading (later ++ Depart gone ∷ before))) joiner image =
          (older_genuine (grid_at heading shard (course heading (later ++ Depart gone ∷ before))) joiner (Imaged image ∷ q)
          (history joiner shard (course heading (later ++ Depart gone ∷ before))) merged (sound_end.genuine joiner)).0.1 in
          let short = older_length _ _ gift_base.gave in
          let short_me : length (history image.from shard (course heading (Depart gone ∷ before)))
          ≡ length (history me shard (course heading (Depart gone ∷ before))) =
          ap (λ i. length (history i shard (course heading (Depart gone ∷ before)))) from in
          let at_base = gift_base.is_image.at_is in
          let at_end = gift_end.is_image.at_is in
          let long = older_length _ _ older in
          let low = older_length _ _ behind in
          omega (arith, short, short_me, at_base, at_end, long, low)

      at_joiner : (joiner : ℕ) (image : Image) (q : List Deed)
          → Older (Imaged image ∷ q) (history joiner shard (course heading (later ++ Depart gone ∷ before)))
          → image.from ≡ me → Older place (giver_of (grid_at heading shard (course heading (later ++ Depart gone ∷ before))) image)
          → (id : Id) → id.member ≡ gone
          → has_id id (ids (history joiner shard (course heading (later ++ Depart gone ∷ before)))) ≡ true
          → (b : Bool) → is_gone (gone ∷ departed before) joiner ≡ b → has_id id (ids place) ≡ true
      at_joiner joiner image q merged from older id named known true left =
          absurd (too_long joiner image q merged from older left)
      at_joiner joiner image q merged from older id named known false stays =
          let at : IsStaying heading (gone ∷ departed before) joiner =
          record { stated = member_of joiner (Imaged image) q merged; stays = stays } in
          older_ids id (history me shard (course heading (Depart gone ∷ before))) place behind
          (shut.one shard less me joiner at_me at id named ∙ sym (shut.still shard less joiner at id named) ∙ known)

pub heard_closed : (heading : Heading) (past : List Line) → AreFit heading past → (shard : ℕ) → shard < heading.shards → (me : ℕ)
    → IsMember heading me → (h : List Deed)
    → AreTold (IsShutAt heading past me shard) (WasMade shard (course heading past)) h
    → AreHeardOrClosed (grid_at heading shard (course heading past)) me h
heard_closed heading past fit shard less me member [] t = tt
heard_closed heading past fit shard less me member (deed ∷ h) t =
    (at_deed deed t.0, heard_closed heading past fit shard less me member h t.1)
  where
    at_shut : (gone : ℕ) → IsShutAt heading past me shard gone h → IsClosed (grid_at heading shard (course heading past)) me gone h
    at_shut gone shut =
        subst (λ p. IsClosed (grid_at heading shard (course heading p)) me gone h) (sym shut.split)
        (closed_there heading gone shut.later shut.before (subst (AreFit heading) shut.split fit) shard less me h member
        shut.stays shut.behind)

    at_deed : (d : Deed) → IsTold (IsShutAt heading past me shard) (WasMade shard (course heading past)) d h
        → IsHeardOrClosed (grid_at heading shard (course heading past)) me d h
    at_deed (Call client to seq ask reply made) t = tt
    at_deed (Asked client seq ask reply) t = tt
    at_deed (Taken change how) t = tt
    at_deed (Gave to what) t = tt
    at_deed (Imaged image) t = tt
    at_deed (Reported report) t = tt
    at_deed (Heard report) t = ⊎_elim
        (λ made. inl (among_bare (Reported report) (history report.member shard (course heading past)) made))
        (λ shut. inr (at_shut report.member shut)) t
    at_deed (Swept moment keys) t = tt
