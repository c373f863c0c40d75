-- Each line that is said stands where it may.
use Rattle.std.proofs.Common.{◌≡◌, ℕ, ◌+◌, ◌≤◌, ◌<◌, List, [], ◌∷◌, Bool, true, false, eqb, ltb, leb, not, ◌||◌}
use Rattle.std.proofs.Common.{Option, Some, None, refl, sym, ap, ◌∙◌, subst, arith, bytes_eq, inl, inr}
use Rattle.std.specs.List.{cons_option}
use Rattle.std.specs.Option.{option_map_or, unwrap_or}
use Rattle.std.proofs.lemmas.Bool.{cases_lt, or_parts, leb-false, ltb-false, eqb-false, not-false, not_from_false}
use Rattle.std.proofs.lemmas.Slice.Eq.{bytes_eq-Decides}
use Rattle.gr_script.specs.declared.forms.LineKind.{LineKind}
use Rattle.gr_script.specs.declared.forms.LineKind.TheVariants as kind
use Rattle.gr_script.specs.declared.items.Item.{Item}
use Rattle.gr_script.specs.declared.line.Line.{Line}
use Rattle.gr_script.specs.declared.operation.Operation.TheVariants.{OfKey, OfValue, OfPair}
use Rattle.gr_script.specs.declared.reason.Reason.{Reason}
use Rattle.gr_script.specs.declared.reason.Reason.TheVariants.{Away, Count, Gone}
use Rattle.gr_script.specs.declared.saying.Saying.{Saying}
use Rattle.gr_script.specs.Absence.{asks, returned}
use Rattle.gr_script.specs.Forms.{rank}
use Rattle.gr_script.specs.Past.{setting, region, founders, home, steps, reports, joins, gifts, hears, count_of, stage}
use Rattle.gr_script.specs.Past.{next_rank}
use Rattle.gr_script.specs.Refusals.{tests, refusal, is_missing, asks as asks_here, is_away, is_full, is_gone, last_moment, open_count}
use Rattle.gr_script.specs.Rules.{Heading, IsWithin, IsStated, StandsAfter, AllBehind, AllStand, Stays, NamesStaying}
use Rattle.gr_script.specs.Rules.{Attends, AllAttend}
use Rattle.gr_script.specs.Rules.{AllNameStaying}
use Rattle.gr_script.specs.Said.{heading_said, line_of, lines_said}
use Rattle.gr_script.specs.Steps as lines
use Rattle.gr_script.specs.Suiting.{AreRests}
use Rattle.gr_script.proofs.Contents.{IsClient}
use Rattle.gr_script.proofs.Follows.{Follows, AllFollow, Held, held_items}
use Rattle.gr_script.proofs.Gone.{departed_said, gone_said, hears_said}
use Rattle.gr_script.proofs.Tallied.{line_by, tallied}

-- ---- what no test refused

abbrev pub AllPass : List (Bool × Reason) → Type 0
AllPass [] = Unit {0}
AllPass (test ∷ more) = (test.0 ≡ false) × AllPass more

pub passed : (all : List (Bool × Reason)) → refusal all ≡ None → AllPass all
passed [] none = tt
passed ((true, why) ∷ more) none = absurd cc
passed ((false, why) ∷ more) none = (refl, passed more none)

pub not_missing : (number count : ℕ) → is_missing number count ≡ false → IsWithin 1 count number
not_missing number count isnt =
    let parts = or_parts (eqb number 0) (ltb count number) isnt in
    let some = eqb-false number 0 parts.0 in
    let within = ltb-false count number parts.1 in
    (omega (arith, some), within)

not_full : (most count counted : ℕ) → is_full most count ≡ false → counted ≡ count → counted < most
not_full most count counted isnt is =
    let less = leb-false most count isnt in
    omega (arith, less, is)

own_region : (own : Option (List ℕ)) (asked : List ℕ) → option_map_or (λ name. bytes_eq asked name) own false ≡ true
    → asked ≡ unwrap_or own []
own_region None asked is = absurd cc
own_region (Some name) asked is = (bytes_eq-Decides asked name).0 is

-- ---- one line

abbrev Stands : Heading → List Line → Option Line → Type 0
Stands h past None = Unit {0}
Stands h past (Some l) = StandsAfter h past l

stated : (past : List Saying) (client : ℕ) → IsClient (setting past) client → IsStated client (heading_said past)
stated past client is = (is.0.0, is.1)

numbered : (past : List Saying) (client : ℕ) → AllFollow past → steps client past + 1 ≡ lines.step_count client (lines_said past) + 1
numbered past client all = ap (λ (n : ℕ). n + 1) (sym (tallied (λ m. m.step) client past refl all))

-- as many steps on queries by the lines as by what they say
pub asks_said : (past : List Saying) → AllFollow past → asks (lines_said past) ≡ asks_here past
asks_said past all = ap (λ (n : ℕ). n + returned (lines_said past)) (tallied (λ m. m.query) 0 past refl all)

few_queries : (past : List Saying) → AllFollow past → is_full 10000 (asks_here past) ≡ false → asks (lines_said past) < 10000
few_queries past all isnt = not_full 10000 (asks_here past) _ isnt (asks_said past all)

few_opens : (past : List Saying) → AllFollow past → is_full 16 (count_of kind.Open past) ≡ false → lines.opens (lines_said past) < 16
few_opens past all isnt = not_full 16 (count_of kind.Open past) _ isnt (tallied (λ m. m.opened) 0 past refl all)

line_stands : (past : List Saying) (form : LineKind) (c : Held past form) → refusal (tests past form (held_items past form c)) ≡ None
    → AreRests (held_items past form c) → AllFollow past
    → Stands (heading_said past) (lines_said past) (line_by past form (held_items past form c))
line_stands past (kind.Call (OfKey operation)) c none rests all = (stated past c.0.0 c.0.1, numbered past c.0.0 all, tt)
line_stands past (kind.Call (OfValue operation)) c none rests all = (stated past c.0.0 c.0.1, numbered past c.0.0 all, tt)
line_stands past (kind.Call (OfPair operation)) c none rests all = (stated past c.0.0 c.0.1, numbered past c.0.0 all, tt)
line_stands past kind.Peek c none rests all = (stated past c.0.0 c.0.1, numbered past c.0.0 all, tt)
line_stands past kind.Open c none rests all =
    let pass = passed (tests past kind.Open (held_items past kind.Open c)) none in
    let full = or_parts (is_full 16 (count_of kind.Open past)) (is_full 10000 (asks_here past)) pass.1.1.0 in (
      stated past c.0.0 c.0.1,
      numbered past c.0.0 all,
      (own_region (region past) _ c.1.1.1.0.1, few_opens past all full.0, few_queries past all full.1, rests.1.1.1.0),
    )
line_stands past kind.Stop c none rests all =
    let pass = passed (tests past kind.Stop (held_items past kind.Stop c)) none in
    (stated past c.0.0 c.0.1, numbered past c.0.0 all, few_queries past all pass.1.1.0)
line_stands past kind.Close c none rests all =
    let pass = passed (tests past kind.Close (held_items past kind.Close c)) none in
    (stated past c.0.0 c.0.1, numbered past c.0.0 all, few_queries past all pass.1.1.0)
line_stands past kind.Fetch c none rests all =
    let pass = passed (tests past kind.Fetch (held_items past kind.Fetch c)) none in
    (stated past c.0.0 c.0.1, numbered past c.0.0 all, few_queries past all pass.1.1.0)
line_stands past kind.Deliver c none rests all =
    let client = c.1.1.0.0.0 in
    let pass = passed (tests past kind.Deliver (held_items past kind.Deliver c)) none in
    let count = tallied (λ m. m.step) client past refl all in (
      c.1.0.1,
      stated past client c.1.1.0.1,
      subst (λ (n : ℕ). IsWithin 1 n c.1.1.0.0.1) (sym count) (not_missing c.1.1.0.0.1 (steps client past) pass.0),
      not_from_false (eqb c.1.0.0 (home client past)) pass.1.0,
    )
line_stands past kind.Report c none rests all =
    let pass = passed (tests past kind.Report (held_items past kind.Report c)) none in
    (c.1.0.1, not_full 200 (count_of kind.Report past) _ pass.1.0 (tallied (λ m. m.report) 0 past refl all))
line_stands past kind.Hear c none rests all =
    let of = c.1.1.0.0 in
    let pass = passed (tests past kind.Hear (held_items past kind.Hear c)) none in
    let count = tallied (λ m. m.report_of) of past refl all in (
      c.1.0.1,
      c.1.1.0.1,
      subst (λ (n : ℕ). IsWithin 1 n c.1.1.1.0) (sym count) (not_missing c.1.1.1.0 (reports of past) pass.0),
      not_from_false (eqb c.1.0.0 of) pass.1.0,
      not_full 1400 (hears past) _ pass.1.1.1.0 (hears_said past all),
    )
line_stands past kind.Sweep c none rests all =
    let pass = passed (tests past kind.Sweep (held_items past kind.Sweep c)) none in
    let full = or_parts (is_full 10000 (count_of kind.Sweep past)) (ltb 1400 (hears past + count_of kind.Depart past)) pass.1.0 in
    let closing = ltb-false 1400 (hears past + count_of kind.Depart past) full.1 in (
      c.1.0.1,
      c.1.1.0.1.1,
      not_full 10000 (count_of kind.Sweep past) _ full.0 (tallied (λ m. m.sweep) 0 past refl all),
      omega (arith, closing, hears_said past all, departed_said past all),
    )
line_stands past kind.Depart c none rests all =
    let pass = passed (tests past kind.Depart (held_items past kind.Depart c)) none in
    (c.1.0.1, tallied (λ m. m.join_from) c.1.0.0 past refl all ∙ no_gift (gifts c.1.0.0 past) pass.1.0)
  where
    no_gift : (count : ℕ) → not (eqb count 0) ≡ false → count ≡ 0
    no_gift count isnt = grind arith
line_stands past kind.Leave c none rests all = (stated past c.0.0 c.0.1, c.1.1.0.1.1)
line_stands past kind.Back c none rests all =
    let pass = passed (tests past kind.Back (held_items past kind.Back c)) none in
    let within = ltb-false 10000 (asks_here past + open_count c.0.0 past) pass.1.1.0 in
    (stated past c.0.0 c.0.1, c.1.1.0.1.1, omega (arith, within, asks_said past all))
line_stands past kind.Join c none rests all =
    let member = c.1.0.0 in
    let provider = c.1.1.0.0 in
    let isnt = (passed (tests past kind.Join (held_items past kind.Join c)) none).0 in
    let p = or_parts (leb member (founders past) || not (eqb (joins member past) 0)) (ltb (founders past) provider) isnt in
    let q = or_parts (leb member (founders past)) (not (eqb (joins member past) 0)) p.0 in
    let within = ltb-false (founders past) provider p.1 in (
      leb-false member (founders past) q.0,
      c.1.0.1.1,
      (c.1.1.0.1.0, within),
      tallied (λ m. m.join_of) member past refl all ∙ none_yet (joins member past) q.1,
    )
  where
    none_yet : (count : ℕ) → not (eqb count 0) ≡ false → count ≡ 0
    none_yet count isnt = grind arith
line_stands past _ c none rests all = tt

-- ---- the members that it names

abbrev NameStaying : Heading → List Line → Option Line → Type 0
NameStaying h past None = Unit {0}
NameStaying h past (Some l) = NamesStaying h past l

stays : (past : List Saying) (member : ℕ) → AllFollow past → is_gone member past ≡ false → Stays (lines_said past) member
stays past member all isnt = gone_said past all member ∙ isnt

-- a step's client is at a member that stays
step_stays : (past : List Saying) (client : ℕ) (more : List (Bool × Reason)) → AllFollow past
    → refusal ((is_gone (home client past) past, Gone) ∷ more) ≡ None → Stays (lines_said past) (home client past)
step_stays past client more all none =
    stays past (home client past) all (passed ((is_gone (home client past) past, Gone) ∷ more) none).0

line_names : (past : List Saying) (form : LineKind) (c : Held past form) → refusal (tests past form (held_items past form c)) ≡ None
    → AllFollow past → NameStaying (heading_said past) (lines_said past) (line_by past form (held_items past form c))
line_names past (kind.Call (OfKey operation)) c none all = step_stays past c.0.0 ((is_away c.0.0 past, Away) ∷ []) all none
line_names past (kind.Call (OfValue operation)) c none all = step_stays past c.0.0 ((is_away c.0.0 past, Away) ∷ []) all none
line_names past (kind.Call (OfPair operation)) c none all = step_stays past c.0.0 ((is_away c.0.0 past, Away) ∷ []) all none
line_names past kind.Peek c none all = step_stays past c.0.0 ((is_away c.0.0 past, Away) ∷ []) all none
line_names past kind.Open c none all =
    step_stays past c.0.0
    ((is_away c.0.0 past, Away) ∷ (is_full 16 (count_of kind.Open past) || is_full 10000 (asks_here past), Count) ∷ []) all none
line_names past kind.Stop c none all =
    step_stays past c.0.0 ((is_away c.0.0 past, Away) ∷ (is_full 10000 (asks_here past), Count) ∷ []) all none
line_names past kind.Close c none all =
    step_stays past c.0.0 ((is_away c.0.0 past, Away) ∷ (is_full 10000 (asks_here past), Count) ∷ []) all none
line_names past kind.Fetch c none all =
    step_stays past c.0.0 ((is_away c.0.0 past, Away) ∷ (is_full 10000 (asks_here past), Count) ∷ []) all none
line_names past kind.Deliver c none all =
    stays past c.1.0.0 all (passed (tests past kind.Deliver (held_items past kind.Deliver c)) none).1.1.0
line_names past kind.Report c none all =
    stays past c.1.0.0 all (passed (tests past kind.Report (held_items past kind.Report c)) none).0
line_names past kind.Hear c none all = stays past c.1.0.0 all (passed (tests past kind.Hear (held_items past kind.Hear c)) none).1.1.0
line_names past kind.Sweep c none all = stays past c.1.0.0 all (passed (tests past kind.Sweep (held_items past kind.Sweep c)) none).0
line_names past kind.Join c none all =
    let pass = passed (tests past kind.Join (held_items past kind.Join c)) none in
    let gone = or_parts (is_gone c.1.0.0 past) (is_gone c.1.1.0.0 past) pass.1.0 in
    (stays past c.1.0.0 all gone.0, stays past c.1.1.0.0 all gone.1)
line_names past kind.Depart c none all =
    stays past c.1.0.0 all (passed (tests past kind.Depart (held_items past kind.Depart c)) none).0
line_names past kind.Leave c none all =
    stays past (home c.0.0 past) all (passed (tests past kind.Leave (held_items past kind.Leave c)) none).0
line_names past kind.Back c none all =
    stays past (home c.0.0 past) all (passed (tests past kind.Back (held_items past kind.Back c)) none).0
line_names past _ c none all = tt

follower_names : (past : List Saying) (form : LineKind) (items : List Item) → Follows past form items → AllFollow past
    → NameStaying (heading_said past) (lines_said past) (line_by past form items)
follower_names past form items f all =
    subst (λ (is : List Item). NameStaying (heading_said past) (lines_said past) (line_by past form is)) f.items_are
    (line_names past form f.held (subst (λ (is : List Item). refusal (tests past form is) ≡ None) (sym f.items_are) f.passes) all)

-- ---- clients that are away

abbrev Attend : List Line → Option Line → Type 0
Attend past None = Unit {0}
Attend past (Some l) = Attends past l

-- a step's client is there
step_attends : (past : List Saying) (client : ℕ) (gone : Bool) (more : List (Bool × Reason))
    → refusal ((gone, Gone) ∷ (is_away client past, Away) ∷ more) ≡ None → is_away client past ≡ false
step_attends past client gone more none = (passed ((gone, Gone) ∷ (is_away client past, Away) ∷ more) none).1.0

line_attends : (past : List Saying) (form : LineKind) (c : Held past form) → refusal (tests past form (held_items past form c)) ≡ None
    → Attend (lines_said past) (line_by past form (held_items past form c))
line_attends past (kind.Call (OfKey operation)) c none = step_attends past c.0.0 (is_gone (home c.0.0 past) past) [] none
line_attends past (kind.Call (OfValue operation)) c none = step_attends past c.0.0 (is_gone (home c.0.0 past) past) [] none
line_attends past (kind.Call (OfPair operation)) c none = step_attends past c.0.0 (is_gone (home c.0.0 past) past) [] none
line_attends past kind.Peek c none = step_attends past c.0.0 (is_gone (home c.0.0 past) past) [] none
line_attends past kind.Open c none = (passed (tests past kind.Open (held_items past kind.Open c)) none).1.0
line_attends past kind.Stop c none = (passed (tests past kind.Stop (held_items past kind.Stop c)) none).1.0
line_attends past kind.Close c none = (passed (tests past kind.Close (held_items past kind.Close c)) none).1.0
line_attends past kind.Fetch c none = (passed (tests past kind.Fetch (held_items past kind.Fetch c)) none).1.0
line_attends past kind.Leave c none =
    let pass = passed (tests past kind.Leave (held_items past kind.Leave c)) none in
    let here = or_parts (is_away c.0.0 past) (ltb c.1.1.0.0 (last_moment c.0.0 past)) pass.1.0 in
    (here.0, ltb-false c.1.1.0.0 (last_moment c.0.0 past) here.1)
line_attends past kind.Back c none =
    let pass = passed (tests past kind.Back (held_items past kind.Back c)) none in
    let away = or_parts (not (is_away c.0.0 past)) (ltb c.1.1.0.0 (last_moment c.0.0 past)) pass.1.0 in
    (not-false (is_away c.0.0 past) away.0, ltb-false c.1.1.0.0 (last_moment c.0.0 past) away.1)
line_attends past kind.Deliver c none = tt
line_attends past kind.Report c none = tt
line_attends past kind.Hear c none = tt
line_attends past kind.Sweep c none = tt
line_attends past kind.Join c none = tt
line_attends past kind.Depart c none = tt
line_attends past _ c none = tt

follower_attends : (past : List Saying) (form : LineKind) (items : List Item) → Follows past form items
    → Attend (lines_said past) (line_by past form items)
follower_attends past form items f =
    subst (λ (is : List Item). Attend (lines_said past) (line_by past form is)) f.items_are
    (line_attends past form f.held (subst (λ (is : List Item). refusal (tests past form is) ≡ None) (sym f.items_are) f.passes))

pub follower_stands : (past : List Saying) (form : LineKind) (items : List Item) → Follows past form items → AllFollow past
    → Stands (heading_said past) (lines_said past) (line_by past form items)
follower_stands past form items f all =
    subst (λ (is : List Item). Stands (heading_said past) (lines_said past) (line_by past form is)) f.items_are
    (line_stands past form f.held (subst (λ (is : List Item). refusal (tests past form is) ≡ None) (sym f.items_are) f.passes)
    (subst AreRests (sym f.items_are) f.rests) all)

-- ---- lines of the heading and of clients say no line

pub rank_next : (form : LineKind) → rank form ≤ next_rank form
rank_next form =
    elim (cases_lt (rank form) 7) [
      | inl lt ↦ grind arith
      | inr le ↦ grind arith
    ]

-- What holds of the kinds of the heading and of clients holds of each kind of such a rank.
pub early : (P : LineKind → Type 0) → P kind.Georep → P kind.Region → P kind.Members → P kind.Shards → P kind.Inbox → P kind.Trouble
    → P kind.Floor → P kind.Client → (form : LineKind) → rank form < 8 → P form
early P georep region members shards inbox trouble floor client kind.Georep lt = georep
early P georep region members shards inbox trouble floor client kind.Region lt = region
early P georep region members shards inbox trouble floor client kind.Members lt = members
early P georep region members shards inbox trouble floor client kind.Shards lt = shards
early P georep region members shards inbox trouble floor client kind.Inbox lt = inbox
early P georep region members shards inbox trouble floor client kind.Trouble lt = trouble
early P georep region members shards inbox trouble floor client kind.Floor lt = floor
early P georep region members shards inbox trouble floor client kind.Client lt = client
early P georep region members shards inbox trouble floor client _ lt = absurd (omega (arith, lt))

pub quiet : (past : List Saying) (form : LineKind) (items : List Item) → rank form < 8 → line_by past form items ≡ None
quiet past form items lt = early (λ f. line_by past f items ≡ None) refl refl refl refl refl refl refl refl form lt

quiet_lines : (past : List Saying) (saying : Saying) → rank saying.kind < 8 → lines_said past ≡ [] → lines_said (saying ∷ past) ≡ []
quiet_lines past saying lt none =
    ap (λ (l : Option Line). cons_option l (lines_said past)) (quiet past saying.kind saying.items lt) ∙ none

pub no_lines_yet : (past : List Saying) → AllFollow past → stage past ≤ 7 → lines_said past ≡ []
no_lines_yet [] all early = refl
no_lines_yet (saying ∷ past) all early =
    let low = rank_next saying.kind in
    let order = all.0.order in
    quiet_lines past saying (omega (arith, low, early)) (no_lines_yet past all.1 (omega (arith, low, early, order)))

-- ---- all lines

pub same_heading : (past : List Saying) (form : LineKind) (items : List Item) → 8 ≤ rank form
    → heading_said past ≡ heading_said (record { kind = form; items = items } ∷ past)
same_heading past kind.Georep items le = absurd (omega (arith, le))
same_heading past kind.Region items le = absurd (omega (arith, le))
same_heading past kind.Members items le = absurd (omega (arith, le))
same_heading past kind.Shards items le = absurd (omega (arith, le))
same_heading past kind.Inbox items le = absurd (omega (arith, le))
same_heading past kind.Trouble items le = absurd (omega (arith, le))
same_heading past kind.Floor items le = absurd (omega (arith, le))
same_heading past kind.Client items le = absurd (omega (arith, le))
same_heading past _ items le = refl

-- ---- what holds of each line that is said behind the earlier ones

module _ (Each : Heading → List Line → Line → Type 0) where
  abbrev Of : Heading → List Line → Option Line → Type 0
  Of h past None = Unit {0}
  Of h past (Some l) = Each h past l

  one_behind : (h : Heading) (l : Option Line) (lines : List Line) → Of h lines l → AllBehind (Each h) lines
      → AllBehind (Each h) (cons_option l lines)
  one_behind h None lines one all = all
  one_behind h (Some l) lines one all = (one, all)

  all_behind : ((past : List Saying) (saying : Saying) → Follows past saying.kind saying.items → AllFollow past
      → Of (heading_said past) (lines_said past) (line_of past saying))
      → (past : List Saying) → AllFollow past → AllBehind (Each (heading_said past)) (lines_said past)
  all_behind each [] all = tt
  all_behind each (saying ∷ past) all =
      elim (cases_lt (rank saying.kind) 8) [
        | inl lt ↦ let order = all.0.order in
            subst (AllBehind (Each (heading_said (saying ∷ past))))
            (sym (quiet_lines past saying lt (no_lines_yet past all.1 (omega (arith, lt, order))))) tt
        | inr le ↦
            subst (λ (h : Heading). AllBehind (Each h) (lines_said (saying ∷ past))) (same_heading past saying.kind saying.items le)
            (one_behind (heading_said past) (line_of past saying) (lines_said past) (each past saying all.0 all.1)
            (all_behind each past all.1))
      ]

pub all_stand : (past : List Saying) → AllFollow past → AllStand (heading_said past) (lines_said past)
all_stand past all =
    all_behind StandsAfter (λ past saying one rest. follower_stands past saying.kind saying.items one rest) past all

pub all_name_staying : (past : List Saying) → AllFollow past → AllNameStaying (heading_said past) (lines_said past)
all_name_staying past all =
    all_behind NamesStaying (λ past saying one rest. follower_names past saying.kind saying.items one rest) past all

pub all_attend : (past : List Saying) → AllFollow past → AllAttend (lines_said past)
all_attend past all =
    all_behind (λ h. Attends) (λ past saying one rest. follower_attends past saying.kind saying.items one) past all
