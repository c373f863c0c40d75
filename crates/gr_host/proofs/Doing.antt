-- How what a thread did grows, step by step.
use Rattle.std.proofs.Common.{◌≡◌, ◌≢◌, ℕ, ◌-◌, ◌<◌, ◌==◌, Bool, true, false, List, [], ◌∷◌, ◌++◌, length, get_or, map}
use Rattle.std.proofs.Common.{Option, Some, None, refl, sym, ap, ◌∙◌, subst, arith, append-nil, ⊎_elim, inl, eqb-true, if◌then◌else◌, cond}
use Rattle.std.specs.Prelude.{slice_get, flat_map, filter, nat_lt, reverse}
use Rattle.std.specs.List.{AllByRecursion, filter_map}
use Rattle.std.proofs.lemmas.Grind.{flat_map-append}
use Rattle.std.proofs.lemmas.Bool.Decides.{nat_tests}
use Rattle.std.proofs.lemmas.List.{map-append}
use Rattle.std.proofs.lemmas.List.Elements.{filter_map-append}
use Rattle.gr_stamp.specs.declared.change.Change.{Change}
use Rattle.gr_vector.specs.declared.report.Report.{Report}
use Rattle.gr_law.specs.Grids.{Among}
use Rattle.gr_history.specs.declared.deed.Deed.{Deed}
use Rattle.gr_history.specs.declared.deed.Deed.TheVariants.{Reported, Swept}
use Rattle.gr_history.specs.declared.image.Gift.TheVariants as gift_
use Rattle.gr_history.specs.declared.image.Image.{Image}
use Rattle.gr_history.specs.declared.image.What.{What}
use Rattle.gr_history.specs.declared.verdict.Verdict.{Verdict}
use Rattle.gr_post.specs.declared.mail.Mail.{Mail}
use Rattle.gr_post.specs.declared.mail.Mail.TheVariants as mail_
use Rattle.gr_world.specs.Courses.{what_from}
use Rattle.gr_run_law.specs.Duties.{Duty, Reports, Sweeps, Joins}
use Rattle.gr_run_law.specs.Threads.{Work, TookIn, HeardOf, ReportedAll, SweptAll, Merged, GotFrom}
use Rattle.gr_run_law.specs.Threads.{FitsShards, duty_at, got_from, is_for, mail_of, round_of, report_deed, sweep_deed, work_at}
use Rattle.gr_run_law.proofs.Lists.{all_append, get_some}
use Rattle.gr_member.specs.declared.plan.Plan.{Plan}
use Rattle.gr_member.specs.Plans.{identity_of}
use Rattle.gr_member.specs.Seats.{Place, Adds, nowhere}
use Rattle.gr_member.specs.Passes.{TurnsAll}
use Rattle.gr_host.specs.Houses.{IsOther, of_member}
use Rattle.gr_host.specs.Joins.{HasJoined, IsGivenBy, changes_in, what_of}
use Rattle.gr_host.specs.Mails.{works_of}
use Rattle.gr_host.specs.Works.{Follows, HasDone, HasSwept, StandMore, gift_for}
use Rattle.gr_host.proofs.Lists.{among_behind, among_cut, among_front, get_there}
use Rattle.gr_host.proofs.Seats.{gives_none, gives_one, gives_trans, stand_each, stand_none, stand_trans, what_is}

-- ---- one after the other

pub did_none : (plan : Plan) (p : List Place) (v : List (List Place)) → HasDone plan [] p p v v []
did_none plan p v = record {
  stand = λ shard s less. stand_none (get_or p shard s);
  fits = tt;
  duties_are = λ shard less. refl;
  givers = tt;
  gifts = λ giver shard. [];
  gave = λ giver shard x s other less.
      gives_none (identity_of (of_member plan giver) shard) plan.floor plan.member (get_or (get_or v (giver - 1) x) shard s);
  whats = λ giver shard other less. refl;
  got = λ giver shard other less. refl;
  merged = λ shard image a. absurd a;
  spare = λ x. refl;
}

pub did_trans : (plan : Plan) (ds es : List Duty) (p q r : List Place) (v w y : List (List Place)) (xs ys : List Work)
    → HasDone plan ds p q v w xs → HasDone plan es q r w y ys → HasDone plan (ds ++ es) p r v y (xs ++ ys)
did_trans plan ds es p q r v w y xs ys a b = record {
  stand = λ shard s less.
      subst (λ (l : List Deed). StandMore (get_or p shard s) l (get_or r shard s)) (sym (flat_map-append (work_at plan.shards shard) xs ys))
      (stand_trans (get_or p shard s) (get_or q shard s) (get_or r shard s) (flat_map (work_at plan.shards shard) xs)
      (flat_map (work_at plan.shards shard) ys) (a.stand shard s less) (b.stand shard s less));
  fits = all_append (FitsShards plan.shards) xs ys a.fits b.fits;
  duties_are = λ shard less. filter_map-append (duty_at shard) xs ys
      ∙ ap (λ (l : List Duty). l ++ filter_map (duty_at shard) ys) (a.duties_are shard less)
      ∙ ap (λ (l : List Duty). ds ++ l) (b.duties_are shard less);
  givers = all_append (IsGivenBy plan) xs ys a.givers b.givers;
  gifts = λ giver shard. a.gifts giver shard ++ b.gifts giver shard;
  gave = λ giver shard x s other less.
      gives_trans (identity_of (of_member plan giver) shard) plan.floor plan.member (get_or (get_or v (giver - 1) x) shard s)
      (get_or (get_or w (giver - 1) x) shard s) (get_or (get_or y (giver - 1) x) shard s) (a.gifts giver shard) (b.gifts giver shard)
      (a.gave giver shard x s other less) (b.gave giver shard x s other less);
  whats = λ giver shard other less. map-append what_of (a.gifts giver shard) (b.gifts giver shard)
      ∙ ap (λ (l : List What). l ++ map what_of (b.gifts giver shard)) (a.whats giver shard other less)
      ∙ ap (λ (l : List What). filter_map (gift_for giver plan.member) ds ++ l) (b.whats giver shard other less)
      ∙ sym (filter_map-append (gift_for giver plan.member) ds es);
  got = λ giver shard other less. filter_map-append (got_from plan.shards shard giver) xs ys
      ∙ ap (λ (l : List Change). l ++ filter_map (got_from plan.shards shard giver) ys) (a.got giver shard other less)
      ∙ ap (λ (l : List Change). flat_map changes_in (a.gifts giver shard) ++ l) (b.got giver shard other less)
      ∙ sym (flat_map-append changes_in (a.gifts giver shard) (b.gifts giver shard));
  merged = λ shard image m. ⊎_elim
      (λ there. let one = a.merged shard image there in (
        one.0,
        (one.1.0, one.1.1, among_front (gift_.Image image) (a.gifts one.1.0 shard) (b.gifts one.1.0 shard) one.1.2),
      ))
      (λ there. let one = b.merged shard image there in (
        one.0,
        (one.1.0, one.1.1, among_behind (gift_.Image image) (a.gifts one.1.0 shard) (b.gifts one.1.0 shard) one.1.2),
      ))
      (among_cut (Merged shard image) xs ys m);
  spare = λ x. b.spare x ∙ a.spare x;
}

-- ---- what is no join

-- It isn't of a gift.
abbrev IsPlain : Work → Type 0
IsPlain (TookIn at change verdict) = Unit {0}
IsPlain (HeardOf at report) = Unit {0}
IsPlain (ReportedAll reports) = Unit {0}
IsPlain (SweptAll moment expired) = Unit {0}
IsPlain (Merged at image) = ⊥
IsPlain (GotFrom giver change verdict) = ⊥

plain_given : (plan : Plan) (works : List Work) → AllByRecursion IsPlain works → AllByRecursion (IsGivenBy plan) works
plain_given plan [] all = tt
plain_given plan (TookIn at change verdict ∷ works) all = (tt, plain_given plan works all.1)
plain_given plan (HeardOf at report ∷ works) all = (tt, plain_given plan works all.1)
plain_given plan (ReportedAll reports ∷ works) all = (tt, plain_given plan works all.1)
plain_given plan (SweptAll moment expired ∷ works) all = (tt, plain_given plan works all.1)
plain_given plan (Merged at image ∷ works) all = absurd all.0
plain_given plan (GotFrom giver change verdict ∷ works) all = absurd all.0

plain_got : (shards shard giver : ℕ) (works : List Work) → AllByRecursion IsPlain works
    → filter_map (got_from shards shard giver) works ≡ []
plain_got shards shard giver [] all = refl
plain_got shards shard giver (TookIn at change verdict ∷ works) all = plain_got shards shard giver works all.1
plain_got shards shard giver (HeardOf at report ∷ works) all = plain_got shards shard giver works all.1
plain_got shards shard giver (ReportedAll reports ∷ works) all = plain_got shards shard giver works all.1
plain_got shards shard giver (SweptAll moment expired ∷ works) all = plain_got shards shard giver works all.1
plain_got shards shard giver (Merged at image ∷ works) all = absurd all.0
plain_got shards shard giver (GotFrom from change verdict ∷ works) all = absurd all.0

plain_unmerged : (at : ℕ) (image : Image) (works : List Work) → AllByRecursion IsPlain works → Among (Merged at image) works → ⊥
plain_unmerged at image [] all a = a
plain_unmerged at image (work ∷ works) all a =
    ⊎_elim (λ is. subst IsPlain (sym is) all.0) (λ b. plain_unmerged at image works all.1 b) a

did_plain : (plan : Plan) (ds : List Duty) (p q : List Place) (v : List (List Place)) (works : List Work)
    → ((shard : ℕ) (s : Place) → shard < plan.shards
    → StandMore (get_or p shard s) (flat_map (work_at plan.shards shard) works) (get_or q shard s))
    → AllByRecursion (FitsShards plan.shards) works
    → ((shard : ℕ) → shard < plan.shards → filter_map (duty_at shard) works ≡ ds)
    → AllByRecursion IsPlain works → ((giver : ℕ) → filter_map (gift_for giver plan.member) ds ≡ []) → HasDone plan ds p q v v works
did_plain plan ds p q v works stand fits duties plain none = record {
  stand = stand;
  fits = fits;
  duties_are = duties;
  givers = plain_given plan works plain;
  gifts = λ giver shard. [];
  gave = λ giver shard x s other less.
      gives_none (identity_of (of_member plan giver) shard) plan.floor plan.member (get_or (get_or v (giver - 1) x) shard s);
  whats = λ giver shard other less. sym (none giver);
  got = λ giver shard other less. plain_got plan.shards shard giver works plain;
  merged = λ shard image a. absurd (plain_unmerged shard image works plain a);
  spare = λ x. refl;
}

-- ---- a mail

nothing_due : (b : Bool) (at : ℕ) (report : Report) (shard : ℕ)
    → filter_map (duty_at shard) (if b then HeardOf at report ∷ [] else []) ≡ []
nothing_due true at report shard = refl
nothing_due false at report shard = refl

heard_plain : (b : Bool) (at : ℕ) (report : Report) → AllByRecursion IsPlain (if b then HeardOf at report ∷ [] else [])
heard_plain true at report = (tt, tt)
heard_plain false at report = tt

heard_fits : (b : Bool) (at shards : ℕ) (report : Report) → nat_lt at shards ≡ b
    → AllByRecursion (FitsShards shards) (if b then HeardOf at report ∷ [] else [])
heard_fits true at shards report e = (below at shards e, tt)
  where
    below : (a b : ℕ) → nat_lt a b ≡ true → a < b
    below a b e = grind (arith, nat_tests)
heard_fits false at shards report e = tt

fits_mail : (shards : ℕ) (told : Verdict) (mail : Mail) → AllByRecursion (FitsShards shards) (works_of shards told mail)
fits_mail shards told (mail_.Change at change) = (tt, tt)
fits_mail shards told (mail_.Report at report) = heard_fits (nat_lt at shards) at shards report refl
fits_mail shards told mail_.End = tt

plain_mail : (shards : ℕ) (told : Verdict) (mail : Mail) → AllByRecursion IsPlain (works_of shards told mail)
plain_mail shards told (mail_.Change at change) = (tt, tt)
plain_mail shards told (mail_.Report at report) = heard_plain (nat_lt at shards) at report
plain_mail shards told mail_.End = tt

no_duty : (shards : ℕ) (told : Verdict) (mail : Mail) (shard : ℕ) → filter_map (duty_at shard) (works_of shards told mail) ≡ []
no_duty shards told (mail_.Change at change) shard = refl
no_duty shards told (mail_.Report at report) shard = nothing_due (nat_lt at shards) at report shard
no_duty shards told mail_.End shard = refl

pub no_round : (shards : ℕ) (told : Verdict) (mail : Mail) → filter_map round_of (works_of shards told mail) ≡ []
no_round shards told (mail_.Change at change) = refl
no_round shards told (mail_.Report at report) = at_test (nat_lt at shards)
  where
    at_test : (b : Bool) → filter_map round_of (if b then HeardOf at report ∷ [] else []) ≡ []
    at_test true = refl
    at_test false = refl
no_round shards told mail_.End = refl

pub its_mail : (shards : ℕ) (told : Verdict) (mail : Mail)
    → filter_map mail_of (works_of shards told mail) ≡ filter (is_for shards) (mail ∷ [])
its_mail shards told (mail_.Change at change) = refl
its_mail shards told (mail_.Report at report) = at_test (nat_lt at shards)
  where
    at_test : (b : Bool) → filter_map mail_of (if b then HeardOf at report ∷ [] else []) ≡ cond b (mail_.Report at report ∷ []) []
    at_test true = refl
    at_test false = refl
its_mail shards told mail_.End = refl

pub did_mail : (plan : Plan) (p q : List Place) (v : List (List Place)) (mail : Mail) → length p ≡ plan.shards
    → (f : Follows plan.shards mail p q) → HasDone plan [] p q v v (works_of plan.shards f.0 mail)
did_mail plan p q v mail many f =
    did_plain plan [] p q v (works_of plan.shards f.0 mail)
    (λ shard s less. stand_each (get_or p shard s) (get_or q shard s) (flat_map (work_at plan.shards shard) (works_of plan.shards f.0 mail))
    (let there : shard < length p = omega arith in f.1 shard s there))
    (fits_mail plan.shards f.0 mail) (λ shard less. no_duty plan.shards f.0 mail shard) (plain_mail plan.shards f.0 mail) (λ giver. refl)

-- ---- reports and sweeps

reported_at : (reports : List Report) (shard : ℕ) (s t : Place) → shard < length reports
    → ((r : Report) → Adds s (Reported (get_or reports shard r)) t) → StandMore s (report_deed (slice_get reports shard) ++ []) t
reported_at reports shard s t less adds =
    let one = get_some reports shard less in
    subst (λ (o : Option Report). StandMore s (report_deed o ++ []) t) (sym one.1)
    (stand_each s t (Reported one.0 ∷ [])
    (t, subst (λ (r : Report). Adds s (Reported r) t) (get_there reports shard one.0 one.0 one.1) (adds one.0), refl))

pub did_report : (plan : Plan) (p q : List Place) (v : List (List Place)) (reports : List Report) → length p ≡ plan.shards
    → TurnsAll Reported p reports q → HasDone plan (Reports ∷ []) p q v v (ReportedAll reports ∷ [])
did_report plan p q v reports many turns =
    let long = turns.told_each in
    did_plain plan (Reports ∷ []) p q v (ReportedAll reports ∷ [])
    (λ shard s less.
    let there : shard < length p = omega arith in
    let told : shard < length reports = omega arith in
    reported_at reports shard (get_or p shard s) (get_or q shard s) told (λ r. turns.each shard r s there))
    (turns.told_each ∙ many, tt) (λ shard less. refl) (tt, tt) (λ giver. refl)

swept_at : (moment : ℕ) (expired : List (List (List ℕ))) (shard : ℕ) (s t : Place) → shard < length expired
    → ((r : List (List ℕ)) → Adds s (Swept moment (get_or expired shard r)) t)
    → StandMore s (sweep_deed moment (slice_get expired shard) ++ []) t
swept_at moment expired shard s t less adds =
    let one = get_some expired shard less in
    subst (λ (o : Option (List (List ℕ))). StandMore s (sweep_deed moment o ++ []) t) (sym one.1)
    (stand_each s t (Swept moment one.0 ∷ [])
    (t, subst (λ (r : List (List ℕ)). Adds s (Swept moment r) t) (get_there expired shard one.0 one.0 one.1) (adds one.0), refl))

pub did_sweep : (plan : Plan) (p q : List Place) (v : List (List Place)) (moment : ℕ) → length p ≡ plan.shards
    → (h : HasSwept moment p q) → HasDone plan (Sweeps moment ∷ []) p q v v (SweptAll moment h.0 ∷ [])
did_sweep plan p q v moment many h =
    let turns = h.1 in
    let long = turns.told_each in
    did_plain plan (Sweeps moment ∷ []) p q v (SweptAll moment h.0 ∷ [])
    (λ shard s less.
    let there : shard < length p = omega arith in
    let told : shard < length h.0 = omega arith in
    swept_at moment h.0 shard (get_or p shard s) (get_or q shard s) told (λ r. turns.each shard r s there))
    (turns.told_each ∙ many, tt) (λ shard less. refl) (tt, tt) (λ giver. refl)

-- ---- a join

due_by : (giver joiner from : ℕ) → giver ≢ joiner → filter_map (gift_for giver joiner) (Joins from ∷ []) ≡ what_from (giver == from) ∷ []
due_by giver joiner from apart = at_test (giver == joiner) refl
  where
    at_test : (b : Bool) → (giver == joiner) ≡ b
        → filter_map (λ (d : Duty). if b then None else Some (what_from (giver == from))) (Joins from ∷ []) ≡ what_from (giver == from) ∷ []
    at_test true e = absurd (apart (eqb-true giver joiner e))
    at_test false e = refl

pub did_join : (plan : Plan) (from : ℕ) (p q : List Place) (v w : List (List Place)) (works : List Work) → IsOther plan from
    → HasJoined plan from p q v w works → HasDone plan (Joins from ∷ []) p q v w works
did_join plan from p q v w works other h = record {
  stand = λ shard s less. stand_each (get_or p shard s) (get_or q shard s) (flat_map (work_at plan.shards shard) works) (h.adds shard s less);
  fits = h.fits;
  duties_are = h.duties;
  givers = h.givers;
  gifts = λ giver shard. h.gift giver shard ∷ [];
  gave = λ giver shard x s is less.
      gives_one (identity_of (of_member plan giver) shard) plan.floor plan.member (get_or (get_or v (giver - 1) x) shard s)
      (get_or (get_or w (giver - 1) x) shard s) (what_from (giver == from)) (h.gift giver shard) (h.gives giver shard x s is less);
  whats = λ giver shard is less. ap (λ (what : What). what ∷ []) (sym (given_what giver shard is less))
      ∙ sym (due_by giver plan.member from is.other);
  got = λ giver shard is less. h.got giver shard is less ∙ sym (append-nil (changes_in (h.gift giver shard)));
  merged = λ shard image m.
      let one = h.merged shard image m in (one.0, (from, other, inl (sym one.1)));
  spare = h.unused;
}
  where
    given_what : (giver shard : ℕ) → IsOther plan giver → shard < plan.shards → what_from (giver == from) ≡ what_of (h.gift giver shard)
    given_what giver shard is less =
        let g = h.gives giver shard [] nowhere is less in
        what_is giver plan.floor (reverse g.before) (what_from (giver == from)) (h.gift giver shard) g.given
