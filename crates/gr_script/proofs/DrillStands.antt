-- Each line of the drill may stand where it does.
use Rattle.std.proofs.Common.{◌≡◌, ℕ, zero, suc, ◌+◌, ◌-◌, ◌*◌, ◌/◌, ◌%◌, ◌≤◌, ◌<◌, List, [], ◌∷◌, ◌++◌, Bool, true, false, cond, eqb}
use Rattle.std.proofs.Common.{inl, inr, refl, sym, ap, ◌∙◌, subst, arith, reverse, length, append_assoc, append-nil, is_some}
use Rattle.std.specs.List.{count_by, list_any}
use Rattle.std.proofs.lemmas.Bool.{cases_eq, cases_Bool, eqb-true, eqb-false, eq-eqb, ne_eqb}
use Rattle.std.proofs.lemmas.List.{reverse-append}
use Rattle.std.proofs.lemmas.List.Sums.{sum_by-cons}
use Rattle.gr_history.specs.declared.ask.Ask.{Ask}
use Rattle.gr_history.specs.declared.query_ask.QueryAsk.TheVariants.{Enrol, Fetch}
use Rattle.gr_oql.specs.Grammar.{Spells}
use Rattle.gr_oql.specs.Question.{Question}
use Rattle.gr_script.specs.declared.line.Act.{Act}
use Rattle.gr_script.specs.declared.line.Act.TheVariants.{Call, Query}
use Rattle.gr_script.specs.declared.line.Line.{Line}
use Rattle.gr_script.specs.declared.line.Line.TheVariants.{Step, Report, Sweep}
use Rattle.gr_script.specs.Drill.{drill_client, drill_seq, drill_ask, drill_heading, drill_homes, drill_region, drill_query}
use Rattle.gr_script.specs.Drill.{query_name, asked_before}
use Rattle.gr_script.specs.Drill.{steps_made, at_members, step_lines, drill_steps, asks_at, drill_lines, IsDrill}
use Rattle.gr_script.specs.Rests.{IsRest}
use Rattle.gr_script.specs.Rules.{Heading, heading, IsHeading, AreWithin, IsWithin, AllStand, IsScript}
use Rattle.gr_script.specs.Steps.{step_of, step_count, opens, queries, reports, sweeps, is_report, is_sweep, is_query, departed, hears}
use Rattle.gr_value.specs.Drawing.{drawn}
use Rattle.gr_script.proofs.Gone.{all_staying}
use Rattle.gr_script.proofs.Here.{is_turn, all_here, none_returned}

-- ---- the heading

round : (more : List ℕ) → AreWithin 1 4 more → AreWithin 1 4 (1 ∷ 2 ∷ 3 ∷ 4 ∷ more)
round more within =
    ((omega arith, omega arith), ((omega arith, omega arith), ((omega arith, omega arith), ((omega arith, omega arith), within))))

pub drill_is_headed : (start : ℕ) → start ≤ 2147483646 → IsHeading (drill_heading start)
drill_is_headed start low = record {
  named = refl;
  members = (omega arith, omega arith);
  founders = (omega arith, omega arith);
  shards = (omega arith, omega arith);
  inbox = (omega arith, omega arith);
  trouble = low;
  floor = omega arith;
  few_clients = omega arith;
  at_members =
      let one = 1 ∷ 2 ∷ 3 ∷ 4 ∷ [] in
      round (one ++ (one ++ one)) (round (one ++ one) (round one (round [] tt)));
}

-- ---- what has been counted of the lines so far, which are listed the last one first

record Counted (start made reported swept : ℕ) (past : List Line) : Type 0 where
  stand : AllStand (drill_heading start) past
  steps : (client : ℕ) → IsWithin 1 16 client → step_count client past ≡ steps_made client made + asked_before client
  report : reports past ≡ reported
  sweep : sweeps past ≡ swept
  query : queries past ≡ 4
  gone : departed past ≡ []
  heard : hears past ≡ 0
  here : list_any is_turn past ≡ false

abbrev of_client : ℕ → Line → Bool
of_client client line = is_some (step_of client line)

is_own : (client own seq : ℕ) (act : Act) → is_some (step_of client (Step own seq act)) ≡ eqb own client
is_own client own seq act =
    elim (cases_Bool (eqb own client)) [
      | inl is ↦ rw is refl
      | inr isnt ↦ rw isnt refl
    ]

step_more : (client own seq : ℕ) (act : Act) (past : List Line)
    → step_count client (Step own seq act ∷ past) ≡ cond (eqb own client) 1 0 + step_count client past
step_more client own seq act past =
    sum_by-cons (λ (l : Line). cond (is_some (step_of client l)) 1 0) (Step own seq act) past
    ∙ ap (λ (b : Bool). cond b 1 0 + step_count client past) (is_own client own seq act)

-- a line of another kind, and one of this kind
other_line : (test : Line → Bool) (line : Line) (past : List Line) (counted : ℕ) → test line ≡ false → count_by test past ≡ counted
    → count_by test (line ∷ past) ≡ counted
other_line test line past counted isnt is =
    let more = sum_by-cons (λ (l : Line). cond (test l) 1 0) line past in
    let none = ap (λ (b : Bool). cond {A = ℕ} b 1 0) isnt in
    omega (arith, more, none, is)

this_line : (test : Line → Bool) (line : Line) (past : List Line) (counted : ℕ) → test line ≡ true → count_by test past ≡ counted
    → count_by test (line ∷ past) ≡ 1 + counted
this_line test line past counted holds is =
    let more = sum_by-cons (λ (l : Line). cond (test l) 1 0) line past in
    let one = ap (λ (b : Bool). cond {A = ℕ} b 1 0) holds in
    omega (arith, more, one, is)

-- ---- a step

own_made : (made : ℕ) → steps_made (drill_client (made + 1)) made + asked_before (drill_client (made + 1)) + 1 ≡ drill_seq (made + 1)
own_made made =
    let turns : steps_made (drill_client (made + 1)) made ≡ (made + 1 - 1) / 16 = omega arith in
    ap (λ (n : ℕ). n + asked_before (drill_client (made + 1)) + 1) turns

made_more : (made client : ℕ) → IsWithin 1 16 client
    → cond (eqb (drill_client (made + 1)) client) 1 0 + (steps_made client made + asked_before client)
    ≡ steps_made client (made + 1) + asked_before client
made_more made client within =
    elim (cases_eq (drill_client (made + 1)) client) [
      | inl is ↦ let own : eqb (drill_client (made + 1)) client ≡ true = eq-eqb _ _ is in
          let more : 1 + steps_made client made ≡ steps_made client (made + 1) = omega (arith, within.0, within.1, is) in
          rw own (omega (arith, more))
      | inr isnt ↦ let other : eqb (drill_client (made + 1)) client ≡ false = ne_eqb _ _ isnt in
          let same : steps_made client made ≡ steps_made client (made + 1) = omega (arith, within.0, within.1, isnt) in
          rw other (omega (arith, same))
    ]

client_within : (made : ℕ) → IsWithin 1 16 (drill_client (made + 1))
client_within made = (omega arith, omega arith)

step_counted : (start made reported swept : ℕ) (past : List Line) (ask : Ask) → Counted start made reported swept past
    → Counted start (made + 1) reported swept (Step (drill_client (made + 1)) (drill_seq (made + 1)) (Call ask) ∷ past)
step_counted start made reported swept past ask c =
    let own = drill_client (made + 1) in
    let seq = drill_seq (made + 1) in
    let line = Step own seq (Call ask) in
    let within = client_within made in
    let numbered : seq ≡ step_count own past + 1 = sym (ap (λ (n : ℕ). n + 1) (c.steps own within) ∙ own_made made) in
    record {
      stand = ((within, numbered, tt), c.stand);
      steps = λ client among. step_more client own seq (Call ask) past ∙ ap (λ (n : ℕ). cond (eqb own client) 1 0 + n)
          (c.steps client among)
          ∙ made_more made client among;
      report = other_line is_report line past reported refl c.report;
      sweep = other_line is_sweep line past swept refl c.sweep;
      query = other_line is_query line past 4 refl c.query;
      gone = c.gone;
      heard = omega (arith, c.heard);
      here = c.here;
    }

-- ---- reports and sweeps

report_counted : (start made reported swept member : ℕ) (past : List Line) → Counted start made reported swept past → IsWithin 1 4 member
    → reported < 200 → Counted start made (1 + reported) swept (Report member ∷ past)
report_counted start made reported swept member past c within few = record {
  stand = ((within, subst (λ (n : ℕ). n < 200) (sym c.report) few), c.stand);
  steps = λ client among. other_line (of_client client) (Report member) past _ refl (c.steps client among);
  report = this_line is_report (Report member) past reported refl c.report;
  sweep = other_line is_sweep (Report member) past swept refl c.sweep;
  query = other_line is_query (Report member) past 4 refl c.query;
  gone = c.gone;
  heard = omega (arith, c.heard);
  here = c.here;
}

sweep_counted : (start made reported swept member moment : ℕ) (past : List Line) → Counted start made reported swept past
    → IsWithin 1 4 member → moment ≤ 4294967295 → swept < 10000 → Counted start made reported (1 + swept) (Sweep member moment ∷ past)
sweep_counted start made reported swept member moment past c within early few = record {
  stand =
      ((within, early, subst (λ (n : ℕ). n < 10000) (sym c.sweep) few, omega (arith, c.heard, ap (length {A = ℕ}) c.gone)), c.stand);
  steps = λ client among. other_line (of_client client) (Sweep member moment) past _ refl (c.steps client among);
  report = other_line is_report (Sweep member moment) past reported refl c.report;
  sweep = this_line is_sweep (Sweep member moment) past swept refl c.sweep;
  query = other_line is_query (Sweep member moment) past 4 refl c.query;
  gone = c.gone;
  heard = omega (arith, c.heard, ap (length {A = ℕ}) c.gone);
  here = c.here;
}

recounted : (start made reported swept more further : ℕ) (past : List Line) → reported ≡ more → swept ≡ further
    → Counted start made reported swept past → Counted start made more further past
recounted start made reported swept more further past is also c = record {
  stand = c.stand;
  steps = c.steps;
  report = c.report ∙ is;
  sweep = c.sweep ∙ also;
  query = c.query;
  gone = c.gone;
  heard = c.heard;
  here = c.here;
}

swept_counted : (start made reported swept moment : ℕ) (past : List Line) → Counted start made reported swept past → reported < 197
    → swept < 9997 → moment ≤ 4294967295
    → Counted start made (4 + reported) (4 + swept) (reverse (at_members Report ++ at_members (λ member. Sweep member moment)) ++ past)
swept_counted start made r w moment past c few rare early =
    let one = report_counted start made r w 1 past c (omega arith, omega arith) (omega (arith, few)) in
    let two = report_counted start made (1 + r) w 2 _ one (omega arith, omega arith) (omega (arith, few)) in
    let three = report_counted start made (1 + (1 + r)) w 3 _ two (omega arith, omega arith) (omega (arith, few)) in
    let four = report_counted start made (1 + (1 + (1 + r))) w 4 _ three (omega arith, omega arith) (omega (arith, few)) in
    let told = 1 + (1 + (1 + (1 + r))) in
    let first = sweep_counted start made told w 1 moment _ four (omega arith, omega arith) early (omega (arith, rare)) in
    let second = sweep_counted start made told (1 + w) 2 moment _ first (omega arith, omega arith) early (omega (arith, rare)) in
    let third = sweep_counted start made told (1 + (1 + w)) 3 moment _ second (omega arith, omega arith) early (omega (arith, rare)) in
    let last = sweep_counted start made told (1 + (1 + (1 + w))) 4 moment _ third (omega arith, omega arith) early (omega (arith, rare)) in
    recounted start made told (1 + (1 + (1 + (1 + w)))) (4 + r) (4 + w) _ (omega arith) (omega arith) last

-- ---- so many steps

abbrev Behind : ℕ → ℕ → List Line → Type 0
Behind start made past = Counted start made (4 * (made / 1000)) (4 * (made / 1000)) past

behind_swept : (start made moment : ℕ) (line : Line) (past : List Line) → made < 50000 → moment ≤ 4294967295
    → Counted start (made + 1) (4 * (made / 1000)) (4 * (made / 1000)) (line ∷ past) → (due : Bool) → eqb ((made + 1) % 1000) 0 ≡ due
    → Behind start (made + 1) (reverse (line ∷ cond due (at_members Report ++ at_members (λ member. Sweep member moment)) []) ++ past)
behind_swept start made moment line past few early c true is =
    let so_far = 4 * (made / 1000) in
    let none : (made + 1) % 1000 ≡ 0 = eqb-true _ _ is in
    let whole : 4 + so_far ≡ 4 * ((made + 1) / 1000) = omega (arith, none) in
    recounted start (made + 1) (4 + so_far) (4 + so_far) _ _ _ whole whole
    (swept_counted start (made + 1) so_far so_far moment (line ∷ past) c (omega (arith, few)) (omega (arith, few)) early)
behind_swept start made moment line past few early c false isnt =
    let some = eqb-false _ _ isnt in
    let same : 4 * (made / 1000) ≡ 4 * ((made + 1) / 1000) = omega (arith, some) in
    recounted start (made + 1) _ _ _ _ _ same same c

one_behind : (start made first second : ℕ) (past : List Line) → made < 50000 → Behind start made past
    → Behind start (made + 1) (reverse (step_lines (made + 1) first second) ++ past)
one_behind start made first second past few c =
    let ask = drill_ask (drill_client (made + 1)) first second in
    let so_far = 4 * (made / 1000) in
    behind_swept start made (700 * ((made + 1) / 1000)) (Step (drill_client (made + 1)) (drill_seq (made + 1)) (Call ask)) past few
    (omega (arith, few)) (step_counted start made so_far so_far past ask c) _ refl

behind_more : (here more past : List Line) → reverse more ++ (reverse here ++ past) ≡ reverse (here ++ more) ++ past
behind_more here more past =
    sym (append_assoc (reverse more) (reverse here) past)
    ∙ ap (λ (lines : List Line). lines ++ past) (sym (reverse-append here more))

all_behind : (left start made x : ℕ) (past : List Line) → made + left ≤ 50000 → Behind start made past
    → Behind start (made + left) (reverse (drill_steps left (made + 1) x) ++ past)
all_behind zero start made x past few c = subst (λ (n : ℕ). Behind start n past) (omega arith) c
all_behind (suc left) start made x past few c =
    let here = step_lines (made + 1) (drawn x) (drawn (drawn x)) in
    let one = one_behind start made (drawn x) (drawn (drawn x)) past (omega (arith, few)) c in
    let all = all_behind left start (made + 1) (drawn (drawn x)) (reverse here ++ past) (omega (arith, few)) one in
    subst (Behind start (made + suc left)) (behind_more here (drill_steps left (made + 1 + 1) (drawn (drawn x))) past)
    (subst (λ (n : ℕ). Behind start n (reverse (drill_steps left (made + 1 + 1) (drawn (drawn x))) ++ (reverse here ++ past)))
    (omega arith) all)

-- ---- the queries

opened_by : (client : ℕ) → IsWithin 1 16 client
    → cond (eqb 4 client) 1 0 + (cond (eqb 3 client) 1 0 + (cond (eqb 2 client) 1 0 + (cond (eqb 1 client) 1 0 + 0)))
    ≡ steps_made client 0 + asked_before client
opened_by client within = grind arith

opened : (start : ℕ) (asked : Question) → asked.asked.region ≡ drill_region → IsRest asked.text
    → Behind start 0 (reverse (asks_at (λ client. 1) (Enrol query_name asked)) ++ [])
opened start asked own rest =
    let act = Query (Enrol query_name asked) in
    let one = Step 1 1 act ∷ [] in
    let two = Step 2 1 act ∷ one in
    let three = Step 3 1 act ∷ two in
    record {
      stand = (
        ((omega arith, omega arith), refl, (own, omega arith, omega arith, rest)),
        (
          ((omega arith, omega arith), refl, (own, omega arith, omega arith, rest)),
          (
            ((omega arith, omega arith), refl, (own, omega arith, omega arith, rest)),
            (((omega arith, omega arith), refl, (own, omega arith, omega arith, rest)), tt),
          ),
        ),
      );
      steps = λ client within.
          step_more client 4 1 act three ∙ ap (λ (n : ℕ). cond (eqb 4 client) 1 0 + n) (step_more client 3 1 act two
          ∙ ap (λ (n : ℕ). cond (eqb 3 client) 1 0 + n) (step_more client 2 1 act one
          ∙ ap (λ (n : ℕ). cond (eqb 2 client) 1 0 + n) (step_more client 1 1 act [])))
          ∙ opened_by client within;
      report = refl;
      sweep = refl;
      query = refl;
      gone = refl;
      heard = refl;
      here = refl;
    }

-- Of the clients that open a query, so many have fetched its events.
record Fetched (start made done asked : ℕ) (past : List Line) : Type 0 where
  stand : AllStand (drill_heading start) past
  steps : (client : ℕ) → done < client → client ≤ 4 → step_count client past ≡ steps_made client made + 1
  query : queries past ≡ asked
  gone : departed past ≡ []
  here : list_any is_turn past ≡ false

before_own : (client : ℕ) → client ≤ 4 → asked_before client ≡ 1
before_own client low = grind arith

fetched_none : (start made : ℕ) (past : List Line) → Behind start made past → Fetched start made 0 4 past
fetched_none start made past c = record {
  stand = c.stand;
  steps = λ client some low.
      c.steps client (omega (arith, some), omega (arith, low)) ∙ ap (λ (n : ℕ). steps_made client made + n) (before_own client low);
  query = c.query;
  gone = c.gone;
  here = c.here;
}

fetched_more : (start made done asked : ℕ) (past : List Line) → Fetched start made done asked past → done < 4 → asked < 10000
    → Fetched start made (done + 1) (1 + asked) (Step (done + 1) (steps_made (done + 1) made + 2) (Query (Fetch query_name)) ∷ past)
fetched_more start made done asked past f few rare =
    let act = Query (Fetch query_name) in
    let line = Step (done + 1) (steps_made (done + 1) made + 2) act in
    let own = f.steps (done + 1) (omega arith) (omega (arith, few)) in
    record {
      stand = (
        ((omega arith, omega (arith, few)), omega (arith, own), omega (arith, f.query, none_returned past f.here, rare)),
        f.stand,
      );
      steps = λ client some low.
          let other = is_own client (done + 1) _ act ∙ ne_eqb (done + 1) client (λ is. omega (arith, some, is)) in
          other_line (of_client client) line past _ other (f.steps client (omega (arith, some)) low);
      query = this_line is_query line past asked refl f.query;
      gone = f.gone;
      here = f.here;
    }

-- ---- the whole

-- Lines that may stand where they do, of which none departs a member, and on which no client leaves.
record AllLast (start : ℕ) (past : List Line) : Type 0 where
  stand : AllStand (drill_heading start) past
  gone : departed past ≡ []
  here : list_any is_turn past ≡ false

all_last : (start steps : ℕ) (asked : Question) → steps ≤ 50000 → asked.asked.region ≡ drill_region → IsRest asked.text
    → AllLast start (reverse (drill_lines asked start steps))
all_last start steps asked few own rest =
    let opens = asks_at (λ client. 1) (Enrol query_name asked) in
    let made = drill_steps steps 1 start in
    let fetches = asks_at (λ client. steps_made client steps + 2) (Fetch query_name) in
    let begun = opened start asked own rest in
    let done : Behind start steps (reverse made ++ (reverse opens ++ [])) = subst
    (λ (n : ℕ). Behind start n (reverse made ++ (reverse opens ++ []))) (omega arith)
    (all_behind steps start 0 start (reverse opens ++ []) (omega (arith, few)) begun) in
    let none : Fetched start steps 0 4 (reverse made ++ (reverse opens ++ [])) = fetched_none start steps _ done in
    let one = fetched_more start steps 0 4 _ none (omega arith) (omega arith) in
    let two = fetched_more start steps 1 5 _ one (omega arith) (omega arith) in
    let three = fetched_more start steps 2 6 _ two (omega arith) (omega arith) in
    let all = fetched_more start steps 3 7 _ three (omega arith) (omega arith) in
    subst (AllLast start)
    (behind_more made fetches (reverse opens ++ []) ∙ behind_more opens (made ++ fetches) [] ∙ append-nil _)
    (record { stand = all.stand; gone = all.gone; here = all.here })

same_heading : (start : ℕ) (region homes : List ℕ) → region ≡ drill_region → homes ≡ drill_homes
    → heading region 4 4 8 8 start 0 homes ≡ drill_heading start
same_heading start region homes is also =
    ap (λ (bytes : List ℕ). heading bytes 4 4 8 8 start 0 homes) is ∙ ap (heading drill_region 4 4 8 8 start 0) also

-- lines that were put one behind the other
pub put_together : (none one two all opens made fetches : List Line) → none ≡ [] → one ≡ none ++ opens → two ≡ one ++ made
    → all ≡ two ++ fetches → all ≡ opens ++ (made ++ fetches)
put_together none one two all opens made fetches empty first second third =
    third ∙ ap (λ (ls : List Line). ls ++ fetches) (second ∙ ap (λ (ls : List Line). ls ++ made) (first
    ∙ ap (λ (ls : List Line). ls ++ opens) empty)) ∙ append_assoc opens made fetches

-- What these lines stand under is the drill's heading, and they are a script.
module _ (start steps : ℕ) (region homes : List ℕ) (asked : Question) (lines : List Line) (own : region ≡ drill_region)
    (homed : homes ≡ drill_homes) (spelled : Spells drill_query asked) (are : lines ≡ drill_lines asked start steps) where
  pub drill_is : IsDrill start steps (heading region 4 4 8 8 start 0 homes, lines)
  drill_is = (
    asked,
    spelled,
    ap (λ (h : Heading). (h, lines)) (same_heading start region homes own homed)
        ∙ ap (λ (ls : List Line). (drill_heading start, ls)) are,
  )

  pub drill_is_ruled : start ≤ 2147483646 → steps ≤ 50000 → asked.asked.region ≡ drill_region
      → IsScript (heading region 4 4 8 8 start 0 homes) lines
  drill_is_ruled low few of_region =
      let rest : IsRest asked.text = subst IsRest (sym spelled.2) (record { line = refl; front = refl; back = refl }) in
      let last : AllLast start (reverse lines) = subst (λ (ls : List Line). AllLast start (reverse ls)) (sym are)
      (all_last start steps asked few of_region rest) in
      subst (λ (h : Heading). IsScript h lines) (sym (same_heading start region homes own homed))
      (record {
        heading = drill_is_headed start low;
        lines_stand = last.stand;
        names_staying = all_staying (drill_heading start) (reverse lines) last.gone;
        attended = all_here (reverse lines) last.here;
      })
