-- The expansion of a script is a script.
use Rattle.std.proofs.Common.{◌≡◌, ◌∙◌, ℕ, ◌+◌, ◌≤◌, ◌<◌, List, [], ◌∷◌, Bool, true, false, cond, eqb, ◌&&◌, length, map, reverse, refl, sym, ap, subst, arith}
use Rattle.std.proofs.Common.{inl, inr, ◌⊎◌, ◌≢◌}
use Rattle.std.proofs.lemmas.Bool.{cases_eq, eq-eqb, ne_eqb}
use Rattle.std.proofs.lemmas.List.{length-map, reverse-reverse}
use Rattle.gr_history.specs.declared.query_ask.QueryAsk.{QueryAsk}
use Rattle.gr_history.specs.declared.query_ask.QueryAsk.TheVariants as query
use Rattle.gr_script.specs.declared.line.Act.{Act}
use Rattle.gr_script.specs.declared.line.Act.TheVariants as act
use Rattle.gr_script.specs.declared.line.Line.{Line}
use Rattle.gr_script.specs.declared.line.Line.TheVariants as line
use Rattle.gr_script.specs.Absence.{asks, is_late, presence, returned}
use Rattle.gr_script.specs.Expanded.{added, expanded, expansion, new_number, return_of, returns, steps_on}
use Rattle.gr_script.specs.Rules.{Heading, IsStated, IsWithin, QuerySuits, ActSuits, StandsAfter, Stays, NamesStaying, AllStand}
use Rattle.gr_script.specs.Rules.{AllNameStaying, AllAttend, IsScript, home_of}
use Rattle.gr_script.specs.Steps.{departed, hears, is_gone, is_join_from, is_join_of, is_query, is_report, is_report_of, is_sweep, joins_from, joins_of}
use Rattle.gr_script.specs.Steps.{opens, queries, reports, reports_of, step_count, sweeps}
use Rattle.gr_script.proofs.Here.{all_here, none_returned}
use Rattle.gr_durable.proofs.Alike.{all_stay, counts_ignore, departed_are, hears_are, one_counted, opens_are, queries_are}
use Rattle.gr_durable.proofs.Stepped.{new_within, one_step, steps_are}

-- ---- how many there are

asks_are : (past : List Line) → asks (expanded past) ≡ asks past
asks_are past =
    let none = none_returned (expanded past) (all_stay past) in
    let many = queries_are past in
    omega (arith, none, many)

reports_are : (past : List Line) → reports (expanded past) ≡ reports past
reports_are past =
    counts_ignore is_report (λ client number done. refl) (λ to client number. refl) (λ client moment. refl) (λ client moment. refl) past

reports_of_are : (member : ℕ) (past : List Line) → reports_of member (expanded past) ≡ reports_of member past
reports_of_are member past =
    counts_ignore (is_report_of member) (λ client number done. refl) (λ to client number. refl) (λ client moment. refl)
    (λ client moment. refl) past

sweeps_are : (past : List Line) → sweeps (expanded past) ≡ sweeps past
sweeps_are past =
    counts_ignore is_sweep (λ client number done. refl) (λ to client number. refl) (λ client moment. refl) (λ client moment. refl) past

joins_are : (member : ℕ) (past : List Line) → joins_of member (expanded past) ≡ joins_of member past
joins_are member past =
    counts_ignore (is_join_of member) (λ client number done. refl) (λ to client number. refl) (λ client moment. refl)
    (λ client moment. refl) past

gifts_are : (member : ℕ) (past : List Line) → joins_from member (expanded past) ≡ joins_from member past
gifts_are member past =
    counts_ignore (is_join_from member) (λ client number done. refl) (λ to client number. refl) (λ client moment. refl)
    (λ client moment. refl) past

stay_so : (past : List Line) (member : ℕ) → Stays past member → Stays (expanded past) member
stay_so past member stays = ap (λ (gone : List ℕ). is_gone gone member) (departed_are past) ∙ stays

-- ---- the steps of a client that is back

module _ (h : Heading) (client : ℕ) (late : Bool) (stated : IsStated client h) where
  -- a fetch or a closing suits where there is room for it
  back_suits : (past : List Line) (name : List ℕ) → asks past < 10000 → ActSuits h past (act.Query (return_of late name))
  back_suits past name room = either late
    where
      either : (late : Bool) → ActSuits h past (act.Query (return_of late name))
      either true = room
      either false = room

  one_ask : (number : ℕ) (name : List ℕ) (past : List Line)
      → asks (line.Step client number (act.Query (return_of late name)) ∷ past) ≡ 1 + asks past
  one_ask number name past = let more = one_counted is_query (line.Step client number (act.Query (return_of late name))) past in omega (arith, more)

  back_stands : (number : ℕ) (names : List (List ℕ)) (past : List Line) → number ≡ step_count client past + 1
      → asks past + length names ≤ 10000 → AllStand h past → AllStand h (steps_on client number (map (return_of late) names) past)
  back_stands number [] past next room all = all
  back_stands number (name ∷ names) past next room all =
      let one = line.Step client number (act.Query (return_of late name)) in
      let counted = one_step client client number (act.Query (return_of late name)) past in
      let own = eq-eqb client client refl in
      let mine : step_count client (one ∷ past) ≡ 1 + step_count client past = counted ∙ ap (λ (b : Bool). cond b 1 0 + step_count client past) own in
      let more = one_ask number name past in
      back_stands (number + 1) names (one ∷ past) (omega (arith, next, mine)) (omega (arith, room, more))
      ((stated, next, back_suits past name (omega (arith, room))), all)

module _ (h : Heading) (client : ℕ) (late : Bool) where
  back_stays : (number : ℕ) (names : List (List ℕ)) (past : List Line) → Stays past (home_of h client) → AllNameStaying h past
      → AllNameStaying h (steps_on client number (map (return_of late) names) past)
  back_stays number [] past stays all = all
  back_stays number (name ∷ names) past stays all =
      back_stays (number + 1) names (line.Step client number (act.Query (return_of late name)) ∷ past) stays (stays, all)

-- ---- each line

query_suits : (h : Heading) (past : List Line) (ask : QueryAsk) → QuerySuits h past ask → QuerySuits h (expanded past) ask
query_suits h past (query.Enrol name question) suits =
    let few = opens_are past in
    let room = asks_are past in
    (suits.0, omega (arith, few, suits.1), omega (arith, room, suits.2), suits.3)
query_suits h past (query.Stop name) suits = let room = asks_are past in omega (arith, room, suits)
query_suits h past (query.Close name) suits = let room = asks_are past in omega (arith, room, suits)
query_suits h past (query.Fetch name) suits = let room = asks_are past in omega (arith, room, suits)

act_suits : (h : Heading) (past : List Line) (done : Act) → ActSuits h past done → ActSuits h (expanded past) done
act_suits h past (act.Call ask) suits = tt
act_suits h past (act.Query ask) suits = query_suits h past ask suits
act_suits h past (act.Peek key) suits = tt

pub all_stand : (h : Heading) (past : List Line) → AllStand h past → AllStand h (expanded past)
all_stand h [] all = tt
all_stand h (line.Step client seq done ∷ past) all =
    let many = steps_are client past in
    let next = all.0.1 in
    ((all.0.0, omega (arith, many, next), act_suits h past done all.0.2), all_stand h past all.1)
all_stand h (line.Deliver to client number ∷ past) all =
    let many = steps_are client past in
    let within = new_within h client number past all.1 all.0.2 in
    let low = within.0 in
    let high = within.1 in
    ((all.0.0, all.0.1, (low, omega (arith, many, high)), all.0.3), all_stand h past all.1)
all_stand h (line.Report member ∷ past) all =
    let same = reports_are past in
    ((all.0.0, omega (arith, same, all.0.1)), all_stand h past all.1)
all_stand h (line.Hear by of number ∷ past) all =
    let same = hears_are past in (
      (
        all.0.0,
        all.0.1,
        subst (λ (n : ℕ). IsWithin 1 n number) (sym (reports_of_are of past)) all.0.2,
        all.0.3,
        omega (arith, same, all.0.4),
      ),
      all_stand h past all.1,
    )
all_stand h (line.Sweep member moment ∷ past) all =
    let same = sweeps_are past in
    let heard = hears_are past in
    let gone = ap (length {A = ℕ}) (departed_are past) in
    ((all.0.0, all.0.1, omega (arith, same, all.0.2), omega (arith, heard, gone, all.0.3)), all_stand h past all.1)
all_stand h (line.Join member from ∷ past) all =
    ((all.0.0, all.0.1, all.0.2, joins_are member past ∙ all.0.3), all_stand h past all.1)
all_stand h (line.Depart member ∷ past) all = ((all.0.0, gifts_are member past ∙ all.0.1), all_stand h past all.1)
all_stand h (line.Leave client moment ∷ past) all = all_stand h past all.1
all_stand h (line.Back client moment ∷ past) all =
    let stands = presence client past in
    let many = steps_are client past in
    let room = asks_are past in
    back_stands h client (is_late stands.moment moment) all.0.0 (step_count client past + added client past + 1) stands.names (expanded past)
    (omega (arith, many)) (omega (arith, room, all.0.2)) (all_stand h past all.1)

pub all_name_staying : (h : Heading) (past : List Line) → AllNameStaying h past → AllNameStaying h (expanded past)
all_name_staying h [] all = tt
all_name_staying h (line.Step client seq done ∷ past) all = (stay_so past (home_of h client) all.0, all_name_staying h past all.1)
all_name_staying h (line.Deliver to client number ∷ past) all = (stay_so past to all.0, all_name_staying h past all.1)
all_name_staying h (line.Report member ∷ past) all = (stay_so past member all.0, all_name_staying h past all.1)
all_name_staying h (line.Hear by of number ∷ past) all = (stay_so past by all.0, all_name_staying h past all.1)
all_name_staying h (line.Sweep member moment ∷ past) all = (stay_so past member all.0, all_name_staying h past all.1)
all_name_staying h (line.Join member from ∷ past) all =
    ((stay_so past member all.0.0, stay_so past from all.0.1), all_name_staying h past all.1)
all_name_staying h (line.Depart member ∷ past) all = (stay_so past member all.0, all_name_staying h past all.1)
all_name_staying h (line.Leave client moment ∷ past) all = all_name_staying h past all.1
all_name_staying h (line.Back client moment ∷ past) all =
    let stands = presence client past in
    back_stays h client (is_late stands.moment moment) (step_count client past + added client past + 1) stands.names (expanded past)
    (stay_so past (home_of h client) all.0) (all_name_staying h past all.1)

-- A script's expansion is a script.
pub still_script : (h : Heading) (lines : List Line) → IsScript h lines → IsScript h (expansion lines)
still_script h lines is =
    let past = reverse lines in
    let again : reverse (expansion lines) ≡ expanded past = reverse-reverse (expanded past) in
    record {
      heading = is.heading;
      lines_stand = subst (AllStand h) (sym again) (all_stand h past is.lines_stand);
      names_staying = subst (AllNameStaying h) (sym again) (all_name_staying h past is.names_staying);
      attended = subst AllAttend (sym again) (all_here (expanded past) (all_stay past));
    }
