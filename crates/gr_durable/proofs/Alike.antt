-- What a script and its expansion have alike.
use Rattle.std.proofs.Common.{◌≡◌, ◌∙◌, ℕ, ◌+◌, ◌≤◌, List, [], ◌∷◌, Bool, true, false, cond, eqb, ◌&&◌, ◌||◌, length, map, refl, sym, ap, arith}
use Rattle.std.specs.List.{count_by, cons_option, list_any}
use Rattle.std.specs.Option.{is_some}
use Rattle.std.proofs.lemmas.List.{length-map}
use Rattle.std.proofs.lemmas.List.Sums.{sum_by-cons}
use Rattle.gr_history.specs.declared.query_ask.QueryAsk.{QueryAsk}
use Rattle.gr_history.specs.declared.query_ask.QueryAsk.TheVariants as query
use Rattle.gr_script.specs.declared.attendance.Presence.{Presence}
use Rattle.gr_script.specs.declared.line.Act.{Act}
use Rattle.gr_script.specs.declared.line.Act.TheVariants as act
use Rattle.gr_script.specs.declared.line.Line.{Line}
use Rattle.gr_script.specs.declared.line.Line.TheVariants as line
use Rattle.gr_script.specs.Absence.{asks, is_late, presence, returned_on}
use Rattle.gr_script.specs.Expanded.{added, expanded, new_number, return_of, returns, steps_on}
use Rattle.gr_script.specs.Steps.{departed, departs, hears, heard_on, is_open, is_query, opens, queries, step_count, step_of}
use Rattle.gr_script.proofs.Here.{is_turn}

-- ---- what neither the numbers of steps nor returns change

pub record Ignores (X : Type 0) (whole : List Line → X) (with : Line → X → X) : Type 0 where
  pub each : (l : Line) (past : List Line) → whole (l ∷ past) ≡ with l (whole past)
  pub step : (client one two : ℕ) (done : Act) (x : X) → with (line.Step client one done) x ≡ with (line.Step client two done) x
  pub deliver : (to client one two : ℕ) (x : X) → with (line.Deliver to client one) x ≡ with (line.Deliver to client two) x
  pub came : (client number : ℕ) (late : Bool) (name : List ℕ) (x : X)
      → with (line.Step client number (act.Query (return_of late name))) x ≡ x
  pub left : (client moment : ℕ) (x : X) → with (line.Leave client moment) x ≡ x
  pub back : (client moment : ℕ) (x : X) → with (line.Back client moment) x ≡ x

module _ (X : Type 0) (whole : List Line → X) (with : Line → X → X) (is : Ignores X whole with) where
  same_returned : (client number : ℕ) (late : Bool) (names : List (List ℕ)) (before : List Line)
      → whole (steps_on client number (map (return_of late) names) before) ≡ whole before
  same_returned client number late [] before = refl
  same_returned client number late (name ∷ names) before =
      same_returned client (number + 1) late names (line.Step client number (act.Query (return_of late name)) ∷ before)
      ∙ is.each (line.Step client number (act.Query (return_of late name))) before ∙ is.came client number late name (whole before)

  pub same_expanded : (past : List Line) → whole (expanded past) ≡ whole past
  same_expanded [] = refl
  same_expanded (line.Step client seq done ∷ past) =
      is.each (line.Step client (seq + added client past) done) (expanded past)
      ∙ is.step client (seq + added client past) seq done (whole (expanded past))
      ∙ ap (with (line.Step client seq done)) (same_expanded past) ∙ sym (is.each (line.Step client seq done) past)
  same_expanded (line.Deliver to client number ∷ past) =
      is.each (line.Deliver to client _) (expanded past)
      ∙ is.deliver to client _ number (whole (expanded past))
      ∙ ap (with (line.Deliver to client number)) (same_expanded past) ∙ sym (is.each (line.Deliver to client number) past)
  same_expanded (line.Leave client moment ∷ past) =
      same_expanded past ∙ sym (is.left client moment (whole past)) ∙ sym (is.each (line.Leave client moment) past)
  same_expanded (line.Back client moment ∷ past) =
      let stands = presence client past in
      same_returned client (step_count client past + added client past + 1) (is_late stands.moment moment) stands.names (expanded past)
      ∙ same_expanded past ∙ sym (is.back client moment (whole past)) ∙ sym (is.each (line.Back client moment) past)
  same_expanded (line.Report member ∷ past) =
      is.each (line.Report member) (expanded past) ∙ ap (with (line.Report member)) (same_expanded past)
      ∙ sym (is.each (line.Report member) past)
  same_expanded (line.Hear by of number ∷ past) =
      is.each (line.Hear by of number) (expanded past) ∙ ap (with (line.Hear by of number)) (same_expanded past)
      ∙ sym (is.each (line.Hear by of number) past)
  same_expanded (line.Sweep member moment ∷ past) =
      is.each (line.Sweep member moment) (expanded past) ∙ ap (with (line.Sweep member moment)) (same_expanded past)
      ∙ sym (is.each (line.Sweep member moment) past)
  same_expanded (line.Join member from ∷ past) =
      is.each (line.Join member from) (expanded past) ∙ ap (with (line.Join member from)) (same_expanded past)
      ∙ sym (is.each (line.Join member from) past)
  same_expanded (line.Depart member ∷ past) =
      is.each (line.Depart member) (expanded past) ∙ ap (with (line.Depart member)) (same_expanded past)
      ∙ sym (is.each (line.Depart member) past)

-- ---- how many lines pass a test

abbrev counting : (Line → Bool) → Line → ℕ → ℕ
counting test l count = cond (test l) 1 0 + count

not_counted : (test : Bool) (count : ℕ) → test ≡ false → cond test 1 0 + count ≡ count
not_counted test count isnt = ap (λ (b : Bool). cond b 1 0 + count) isnt ∙ omega arith

-- a test that no step, delivery, or line of leaving or coming back passes
pub counts_ignore : (test : Line → Bool) → ((client number : ℕ) (done : Act) → test (line.Step client number done) ≡ false)
    → ((to client number : ℕ) → test (line.Deliver to client number) ≡ false)
    → ((client moment : ℕ) → test (line.Leave client moment) ≡ false) → ((client moment : ℕ) → test (line.Back client moment) ≡ false)
    → (past : List Line) → count_by test (expanded past) ≡ count_by test past
counts_ignore test step deliver leave back past =
    same_expanded ℕ (count_by test) (counting test)
    (record {
      each = λ l past. sum_by-cons (λ (l : Line). cond (test l) 1 0) l past;
      step = λ client one two done x. ap (λ (b : Bool). cond b 1 0 + x) (step client one done ∙ sym (step client two done));
      deliver = λ to client one two x. ap (λ (b : Bool). cond b 1 0 + x) (deliver to client one ∙ sym (deliver to client two));
      came = λ client number late name x. not_counted _ x (step client number (act.Query (return_of late name)));
      left = λ client moment x. not_counted _ x (leave client moment);
      back = λ client moment x. not_counted _ x (back client moment);
    }) past

pub opens_are : (past : List Line) → opens (expanded past) ≡ opens past
opens_are past =
    same_expanded ℕ opens (counting is_open)
    (record {
      each = λ l past. sum_by-cons (λ (l : Line). cond (is_open l) 1 0) l past;
      step = same_step;
      deliver = λ to client one two x. refl;
      came = came;
      left = λ client moment x. omega arith;
      back = λ client moment x. omega arith;
    }) past
  where
    same_step : (client one two : ℕ) (done : Act) (x : ℕ)
        → counting is_open (line.Step client one done) x ≡ counting is_open (line.Step client two done) x
    same_step client one two (act.Call ask) x = refl
    same_step client one two (act.Peek key) x = refl
    same_step client one two (act.Query (query.Enrol name question)) x = refl
    same_step client one two (act.Query (query.Stop name)) x = refl
    same_step client one two (act.Query (query.Close name)) x = refl
    same_step client one two (act.Query (query.Fetch name)) x = refl

    came : (client number : ℕ) (late : Bool) (name : List ℕ) (x : ℕ)
        → counting is_open (line.Step client number (act.Query (return_of late name))) x ≡ x
    came client number true name x = omega arith
    came client number false name x = omega arith

-- ---- departures, and the reports that are heard

abbrev Heard : Type 0
Heard = ℕ × List ℕ

abbrev heard_by : Line → ℕ → ℕ
heard_by (line.Hear by of number) gone = 1
heard_by (line.Sweep member moment) gone = gone
heard_by _ gone = 0

abbrev heard : List Line → Heard
heard past = (hears past, departed past)

abbrev hearing : Line → Heard → Heard
hearing l (count, gone) = (heard_by l (length gone) + count, cons_option (departs l) gone)

heard_on_is : (past : List Line) (l : Line) → heard_on past l ≡ heard_by l (length (departed past))
heard_on_is past (line.Step client seq done) = refl
heard_on_is past (line.Deliver to client seq) = refl
heard_on_is past (line.Report member) = refl
heard_on_is past (line.Hear by of number) = refl
heard_on_is past (line.Sweep member moment) = refl
heard_on_is past (line.Join member from) = refl
heard_on_is past (line.Depart member) = refl
heard_on_is past (line.Leave client moment) = refl
heard_on_is past (line.Back client moment) = refl

none_heard : (x : Heard) → ◌≡◌ {A = Heard} (0 + x.0, x.1) x
none_heard (count, gone) = ap (λ (n : ℕ). (n, gone)) (omega arith)

pub heard_are : (past : List Line) → heard (expanded past) ≡ heard past
heard_are past =
    same_expanded Heard heard hearing
    (record {
      each = λ l past. ap (λ (n : ℕ). (n + hears past, departed (l ∷ past))) (heard_on_is past l);
      step = λ client one two done x. refl;
      deliver = λ to client one two x. refl;
      came = λ client number late name x. none_heard x;
      left = λ client moment x. none_heard x;
      back = λ client moment x. none_heard x;
    }) past

pub departed_are : (past : List Line) → departed (expanded past) ≡ departed past
departed_are past = ap (λ (x : Heard). x.1) (heard_are past)

pub hears_are : (past : List Line) → hears (expanded past) ≡ hears past
hears_are past = ap (λ (x : Heard). x.0) (heard_are past)

-- ---- no client leaves or comes back any more

none_turn : (client number : ℕ) (all : List QueryAsk) (before : List Line)
    → list_any is_turn (steps_on client number all before) ≡ list_any is_turn before
none_turn client number [] before = refl
none_turn client number (ask ∷ all) before = none_turn client (number + 1) all (line.Step client number (act.Query ask) ∷ before)

pub all_stay : (past : List Line) → list_any is_turn (expanded past) ≡ false
all_stay [] = refl
all_stay (line.Step client seq done ∷ past) = all_stay past
all_stay (line.Deliver to client number ∷ past) = all_stay past
all_stay (line.Leave client moment ∷ past) = all_stay past
all_stay (line.Back client moment ∷ past) =
    none_turn client (step_count client past + added client past + 1) (returns (presence client past) moment) (expanded past) ∙ all_stay past
all_stay (line.Report member ∷ past) = all_stay past
all_stay (line.Hear by of number ∷ past) = all_stay past
all_stay (line.Sweep member moment ∷ past) = all_stay past
all_stay (line.Join member from ∷ past) = all_stay past
all_stay (line.Depart member ∷ past) = all_stay past

-- ---- steps on queries, and steps of a client

-- steps that all pass a test, or of which none does
pub counted_on : (test : Line → Bool) (passes : Bool) (client : ℕ)
    → ((number : ℕ) (ask : QueryAsk) → test (line.Step client number (act.Query ask)) ≡ passes) → (number : ℕ) (all : List QueryAsk)
    → (before : List Line)
    → count_by test (steps_on client number all before) ≡ cond passes (length all) 0 + count_by test before
counted_on test true client each number [] before = omega arith
counted_on test false client each number [] before = omega arith
counted_on test passes client each number (ask ∷ all) before =
    let one = line.Step client number (act.Query ask) in
    let first : count_by test (one ∷ before) ≡ cond passes 1 0 + count_by test before =
    sum_by-cons (λ (l : Line). cond (test l) 1 0) one before ∙ ap (λ (b : Bool). cond b 1 0 + count_by test before) (each number ask) in
    either passes (count_by test before) (count_by test (one ∷ before)) _
    (counted_on test passes client each (number + 1) all (one ∷ before)) first
  where
    either : (passes : Bool) (count more whole : ℕ) → whole ≡ cond passes (length all) 0 + more → more ≡ cond passes 1 0 + count
        → whole ≡ cond passes (length (ask ∷ all)) 0 + count
    either true count more whole is first = omega (arith, is, first)
    either false count more whole is first = omega (arith, is, first)

pub one_counted : (test : Line → Bool) (l : Line) (before : List Line) → count_by test (l ∷ before) ≡ cond (test l) 1 0 + count_by test before
one_counted test l before = sum_by-cons (λ (l : Line). cond (test l) 1 0) l before

asks_kept : (l : Line) (past : List Line) → is_query l ≡ false → returned_on past l ≡ 0 → queries (expanded past) ≡ asks past
    → queries (l ∷ expanded past) ≡ asks (l ∷ past)
asks_kept l past isnt none rest =
    let here = one_counted is_query l (expanded past) in
    let old = one_counted is_query l past in
    let zero : cond {A = ℕ} (is_query l) 1 0 ≡ 0 = ap (λ (b : Bool). cond {A = ℕ} b 1 0) isnt in
    omega (arith, here, old, zero, none, rest)

pub queries_are : (past : List Line) → queries (expanded past) ≡ asks past
queries_are [] = refl
queries_are (line.Back client moment ∷ past) =
    let stands = presence client past in
    let here = counted_on is_query true client (λ number ask. refl) (step_count client past + added client past + 1) (returns stands moment)
    (expanded past) in
    let many = length-map stands.names (return_of (is_late stands.moment moment)) in
    let none = one_counted is_query (line.Back client moment) past in
    let rest = queries_are past in
    omega (arith, here, many, none, rest)
queries_are (line.Step client seq done ∷ past) =
    let new = line.Step client (seq + added client past) done in
    let here = one_counted is_query new (expanded past) in
    let old = one_counted is_query (line.Step client seq done) past in
    let same : cond {A = ℕ} (is_query new) 1 0 ≡ cond (is_query (line.Step client seq done)) 1 0 = same_query done in
    let rest = queries_are past in
    omega (arith, here, old, same, rest)
  where
    same_query : (done : Act) → cond {A = ℕ} (is_query (line.Step client (seq + added client past) done)) 1 0
        ≡ cond (is_query (line.Step client seq done)) 1 0
    same_query (act.Call ask) = refl
    same_query (act.Query ask) = refl
    same_query (act.Peek key) = refl
queries_are (line.Leave client moment ∷ past) =
    let old = one_counted is_query (line.Leave client moment) past in
    let rest = queries_are past in
    omega (arith, old, rest)
queries_are (line.Deliver to client number ∷ past) =
    let old = one_counted is_query (line.Deliver to client number) past in
    let here = one_counted is_query (line.Deliver to client (new_number client number past)) (expanded past) in
    let rest = queries_are past in
    omega (arith, old, here, rest)
queries_are (line.Report member ∷ past) = asks_kept (line.Report member) past refl refl (queries_are past)
queries_are (line.Hear by of number ∷ past) = asks_kept (line.Hear by of number) past refl refl (queries_are past)
queries_are (line.Sweep member moment ∷ past) = asks_kept (line.Sweep member moment) past refl refl (queries_are past)
queries_are (line.Join member from ∷ past) = asks_kept (line.Join member from) past refl refl (queries_are past)
queries_are (line.Depart member ∷ past) = asks_kept (line.Depart member) past refl refl (queries_are past)
