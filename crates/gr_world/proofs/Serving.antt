-- What each client was served in a course, and that the histories have its deeds and the record its answers.
use Rattle.std.proofs.Common.{◌≡◌, ℕ, ◌+◌, ◌<◌, List, [], ◌∷◌, ◌++◌, Bool, true, false, ◌&&◌, ◌==◌, refl, sym, ap, ◌∙◌, subst}
use Rattle.std.proofs.Common.{inl, inr, ⊎_elim, arith, length, map, filter, reverse, flat_map, get_or, if◌then◌else◌}
use Rattle.std.specs.Prelude.{Option, Some, None, cond}
use Rattle.std.specs.List.{AllByRecursion, cons_option}
use Rattle.std.specs.Option.{option_to_list}
use Rattle.std.proofs.lemmas.Grind.{reverse_onto, flat_map-append}
use Rattle.std.proofs.lemmas.List.{append-nil, map-append}
use Rattle.std.proofs.lemmas.List.Elements.{filter-append, filter_map-append}
use Rattle.gr_value.specs.Shard.{shard_of}
use Rattle.gr_stamp.specs.declared.change.Change.{Change}
use Rattle.gr_history.specs.Asks.{key_of}
use Rattle.gr_history.specs.Calls.{call_gives}
use Rattle.gr_history.specs.Deeds.{is_of_client}
use Rattle.gr_history.specs.Standing.{present}
use Rattle.gr_history.specs.declared.ask.Ask.{Ask}
use Rattle.gr_history.specs.declared.deed.Deed.{Deed}
use Rattle.gr_history.specs.declared.deed.Deed.TheVariants.{Call, Asked}
use Rattle.gr_history.specs.declared.done.Done.{Done}
use Rattle.gr_history.specs.declared.query_ask.QueryAsk.{QueryAsk}
use Rattle.gr_history.specs.declared.query_reply.QueryReply.TheVariants.{Unknown}
use Rattle.gr_history.specs.declared.record.Answer.{Answer}
use Rattle.gr_history.specs.declared.reply.Reply.{Reply}
use Rattle.gr_law.specs.Grids.{Among}
use Rattle.gr_law.proofs.Lists.{among_either}
use Rattle.gr_script.specs.declared.line.Act.TheVariants as act
use Rattle.gr_script.specs.declared.line.Line.{Line}
use Rattle.gr_script.specs.declared.line.Line.TheVariants.{Step, Deliver, Hear, Sweep, Join, Depart, Leave, Back}
use Rattle.gr_script.specs.declared.line.Line.TheVariants as line
use Rattle.gr_script.specs.declared.line.Step.{Step as StepOf}
use Rattle.gr_script.specs.Rules.{Heading, home_of}
use Rattle.gr_script.specs.Steps.{step_of as step_on, steps_of, departed}
use Rattle.gr_world.specs.Clients.{add_some, Numbered, told}
use Rattle.gr_world.specs.Courses.{identity_at, does, asks_at_each, replies_to, after, course}
use Rattle.gr_world.specs.Doings.{Doing, Calls, Takes, Gives, Merges, Reports, Hears, Sweeps, Asks, deed_of}
use Rattle.gr_world.specs.Events.{Event, Peek, Peeked, put_if, history}
use Rattle.gr_world.specs.Served.{Served, Called, Queried, Looked, step_of, answer_of, deeds_of, all_deeds_of, HasReplies}
use Rattle.gr_world.proofs.Asking.{answer_at, asked_there}
use Rattle.gr_world.proofs.Walks.{each_keep, IsNoStep}
use Rattle.gr_world.proofs.Clients.{IsQuiet, quiet_keeps, rest_tells, told_asks}
use Rattle.gr_world.proofs.Events.{equal_numbers, same_number}
use Rattle.gr_world.proofs.Lists.{numbers_length, numbers_get}

-- what a step came to
abbrev done_at : Heading → ℕ → Ask → List Event → Done
done_at heading client ask before =
    let shard = shard_of (key_of ask) heading.shards in
    call_gives (identity_at heading (home_of heading client) shard) heading.floor (history (home_of heading client) shard before) ask

abbrev called : ℕ → Ask → Done → Served
called number ask done = Called number ask done.reply done.made done.to

-- what was seen in a history
abbrev seen_in : List ℕ → List Deed → Peek
seen_in key past = record { key = key; value = present key past; at = length past }

abbrev looked : ℕ → List ℕ → List Deed → Served
looked number key past = Looked number (seen_in key past)

abbrev if_own : Bool → Served → Option Served
if_own b one = if b then Some one else None

-- what came of a line, where it is a step of the client
abbrev pub served_at : Heading → ℕ → Line → List Event → Option Served
served_at heading client (Step own number (act.Call ask)) before = if_own (own == client) (called number ask (done_at heading own ask before))
served_at heading client (Step own number (act.Query ask)) before =
    if_own (own == client) (Queried number ask (replies_to heading own ask before))
served_at heading client (Step own number (act.Peek key)) before =
    if_own (own == client) (looked number key (history (home_of heading own) (shard_of key heading.shards) before))
served_at heading client _ before = None

-- all that came of the client's steps, the first one first
abbrev pub served_in : Heading → ℕ → List Line → List Served
served_in heading client [] = []
served_in heading client (line ∷ past) = served_in heading client past ++ option_to_list (served_at heading client line (course heading past))

-- ---- the steps

one_step : (b : Bool) (one : Served)
    → map step_of (option_to_list (if_own b one)) ≡ cons_option (if b then Some (step_of one) else None) []
one_step true one = refl
one_step false one = refl

line_steps : (heading : Heading) (client : ℕ) (line : Line) (before : List Event)
    → map step_of (option_to_list (served_at heading client line before)) ≡ steps_of client (line ∷ [])
line_steps heading client (Step own number (act.Call ask)) before =
    one_step (own == client) (called number ask (done_at heading own ask before))
line_steps heading client (Step own number (act.Query ask)) before =
    one_step (own == client) (Queried number ask (replies_to heading own ask before))
line_steps heading client (Step own number (act.Peek key)) before =
    one_step (own == client) (looked number key (history (home_of heading own) (shard_of key heading.shards) before))
line_steps heading client _ before = refl

pub served_steps : (heading : Heading) (client : ℕ) (past : List Line)
    → map step_of (served_in heading client past) ≡ steps_of client (reverse past)
served_steps heading client [] = refl
served_steps heading client (line ∷ past) =
    map-append step_of (served_in heading client past) (option_to_list (served_at heading client line (course heading past)))
    ∙ ap (λ (all : List StepOf). all ++ map step_of (option_to_list (served_at heading client line (course heading past))))
    (served_steps heading client past)
    ∙ ap (λ (all : List StepOf). steps_of client (reverse past) ++ all) (line_steps heading client line (course heading past))
    ∙ sym (ap (steps_of client) (reverse_onto past line []) ∙ filter_map-append (step_on client) (reverse past) (line ∷ []))

-- ---- the replies

all_joined : {A : Type 0} → (P : A → Type 0) (xs ys : List A) → AllByRecursion P xs → AllByRecursion P ys → AllByRecursion P (xs ++ ys)
all_joined P [] ys all more = more
all_joined P (x ∷ xs) ys all more = (all.0, all_joined P xs ys all.1 more)

pub served_replies : (heading : Heading) (client : ℕ) (past : List Line)
    → AllByRecursion (HasReplies heading.shards) (served_in heading client past)
served_replies heading client [] = tt
served_replies heading client (last ∷ past) =
    all_joined (HasReplies heading.shards) (served_in heading client past) _ (served_replies heading client past) (at_line last)
  where
    before : List Event
    before = course heading past

    at_own : (b : Bool) (one : Served) → HasReplies heading.shards one
        → AllByRecursion (HasReplies heading.shards) (option_to_list (if_own b one))
    at_own true one has = (has, tt)
    at_own false one has = tt

    at_line : (l : Line) → AllByRecursion (HasReplies heading.shards) (option_to_list (served_at heading client l before))
    at_line (Step own number (act.Call ask)) = at_own (own == client) _ tt
    at_line (Step own number (act.Query ask)) = at_own (own == client) _ (numbers_length 0 heading.shards (answer_at heading own number ask before))
    at_line (Step own number (act.Peek key)) = at_own (own == client) _ tt
    at_line (Deliver to of number) = tt
    at_line (line.Report of) = tt
    at_line (Hear to of number) = tt
    at_line (Sweep of moment) = tt
    at_line (Join joiner provider) = tt
    at_line (Depart of) = tt
    at_line (Leave client moment) = tt
    at_line (Back client moment) = tt

-- ---- the answers

abbrev said : List Numbered → List Answer
said all = reverse (map (λ one. one.answer) all)

one_answer : (b : Bool) (number : ℕ) (one : Served) (all : List Numbered)
    → said (add_some (if b then Some (record { number = number; answer = answer_of one }) else None) all)
    ≡ said all ++ map answer_of (option_to_list (if_own b one))
one_answer true number one all = reverse_onto (map (λ one. one.answer) all) (answer_of one) []
one_answer false number one all = sym (append-nil (said all))

no_answer : (all now : List Numbered) → now ≡ all → said now ≡ said all ++ []
no_answer all now is = ap said is ∙ sym (append-nil (said all))

line_answers : (heading : Heading) (gone : List ℕ) (client : ℕ) (line : Line) (before : List Event)
    → said (told client (after heading gone line before))
    ≡ said (told client before) ++ map answer_of (option_to_list (served_at heading client line before))
line_answers heading gone client (Step own number (act.Call ask)) before =
    one_answer (own == client) number (called number ask (done_at heading own ask before)) (told client before)
line_answers heading gone client (Step own number (act.Query ask)) before =
    let one : Served = Queried number ask (replies_to heading own ask before) in
    one_answer (own == client) number one (told client (asks_at_each heading own number ask heading.shards before))
    ∙ ap (λ all. said all ++ map answer_of (option_to_list (if_own (own == client) one)))
    (told_asks heading own number ask heading.shards before client)
line_answers heading gone client (Step own number (act.Peek key)) before =
    one_answer (own == client) number (looked number key (history (home_of heading own) (shard_of key heading.shards) before))
    (told client before)
line_answers heading gone client (Deliver to of number) before = no_answer (told client before) _ (rest_tells heading gone (Deliver to of number) before client tt)
line_answers heading gone client (line.Report of) before = no_answer (told client before) _ (rest_tells heading gone (line.Report of) before client tt)
line_answers heading gone client (Hear to of number) before = no_answer (told client before) _ (rest_tells heading gone (Hear to of number) before client tt)
line_answers heading gone client (Sweep of moment) before = no_answer (told client before) _ (rest_tells heading gone (Sweep of moment) before client tt)
line_answers heading gone client (Join joiner provider) before = no_answer (told client before) _ (rest_tells heading gone (Join joiner provider) before client tt)
line_answers heading gone client (Depart of) before = no_answer (told client before) _ (rest_tells heading gone (Depart of) before client tt)
line_answers heading gone client (Leave who moment) before = no_answer (told client before) _ (rest_tells heading gone (Leave who moment) before client tt)
line_answers heading gone client (Back who moment) before = no_answer (told client before) _ (rest_tells heading gone (Back who moment) before client tt)

pub served_answers : (heading : Heading) (client : ℕ) (past : List Line)
    → reverse (map (λ one. one.answer) (told client (course heading past))) ≡ map answer_of (served_in heading client past)
served_answers heading client [] = refl
served_answers heading client (line ∷ past) =
    line_answers heading (departed past) client line (course heading past)
    ∙ ap (λ (all : List Answer). all ++ map answer_of (option_to_list (served_at heading client line (course heading past))))
    (served_answers heading client past)
    ∙ sym (map-append answer_of (served_in heading client past) (option_to_list (served_at heading client line (course heading past))))

-- ---- the deeds

module _ (heading : Heading) (client : ℕ) (shard : ℕ) (within : shard < heading.shards) where
  -- the client's deeds at the shard, the first one first
  abbrev Own : List Deed → List Deed
  Own past = filter (is_of_client client) (reverse past)

  abbrev Left : Option Served → List Deed
  Left one = flat_map (deeds_of client heading.shards shard) (option_to_list one)

  one_more : (deed : Deed) (past : List Deed) → Own (deed ∷ past) ≡ Own past ++ cond (is_of_client client deed) (deed ∷ []) []
  one_more deed past =
      ap (filter (is_of_client client)) (reverse_onto past deed []) ∙ filter-append (is_of_client client) (reverse past) (deed ∷ [])

  of_another : (deed : Deed) (past : List Deed) → is_of_client client deed ≡ false → Own (deed ∷ past) ≡ Own past
  of_another deed past other =
      one_more deed past ∙ ap (λ b. Own past ++ cond b (deed ∷ []) []) other ∙ append-nil (Own past)

  same_deeds : (b : Bool) (deed : Deed) (past : List Deed) → is_of_client client deed ≡ false → Own (put_if b deed past) ≡ Own past
  same_deeds true deed past other = of_another deed past other
  same_deeds false deed past other = refl

  quiet_other : (m s : ℕ) (doing : Doing) (now : List Event) → IsQuiet doing
      → is_of_client client (deed_of (identity_at heading m s) heading.floor (history m s now) doing) ≡ false
  quiet_other m s (Calls own number ask) now quiet = absurd quiet
  quiet_other m s (Takes change) now quiet = refl
  quiet_other m s (Gives to what) now quiet = refl
  quiet_other m s (Merges image) now quiet = refl
  quiet_other m s Reports now quiet = refl
  quiet_other m s (Hears report) now quiet = refl
  quiet_other m s (Sweeps moment) now quiet = refl
  quiet_other m s (Asks own number ask) now quiet = absurd quiet

  -- the client's member's history of the shard
  abbrev There : List Event → List Deed
  There now = history (home_of heading client) shard now

  rest_same : (gone : List ℕ) (line : Line) (before : List Event) → IsNoStep line → Own (There (after heading gone line before)) ≡ Own (There before) ++ []
  rest_same gone line before quiet =
      quiet_keeps heading gone (λ now. Own (There now) ≡ Own (There before))
      (λ m s doing now not e. same_deeds (shard == s && home_of heading client == m) _ (There now) (quiet_other m s doing now not) ∙ e)
      line before quiet refl
      ∙ sym (append-nil (Own (There before)))

  one_call : (own number : ℕ) (ask : Ask) (reply : Reply) (made : Option Change) (to : ℕ) (past : List Deed) (here home mine : Bool)
      → (shard == shard_of (key_of ask) heading.shards) ≡ here → (own == client) ≡ mine → (own ≡ client → home ≡ true)
      → Own (put_if (here && home) (Call own to number ask reply made) past)
      ≡ Own past ++ Left (if_own mine (Called number ask reply made to))
  one_call own number ask reply made to past true home true at_shard is at_home =
      let same = equal_numbers own client is in
      let h = at_home same in
      ap (λ b. Own (put_if b (Call own to number ask reply made) past)) h
      ∙ one_more (Call own to number ask reply made) past
      ∙ ap (λ b. Own past ++ cond b (Call own to number ask reply made ∷ []) []) is
      ∙ ap (λ c. Own past ++ Call c to number ask reply made ∷ []) same
      ∙ sym (ap (λ b. Own past ++ (cond b (Call client to number ask reply made ∷ []) [] ++ [])) at_shard)
  one_call own number ask reply made to past false home true at_shard is at_home =
      sym (append-nil (Own past)) ∙ sym (ap (λ b. Own past ++ (cond b (Call client to number ask reply made ∷ []) [] ++ [])) at_shard)
  one_call own number ask reply made to past here home false at_shard is at_home =
      same_deeds (here && home) (Call own to number ask reply made) past is ∙ sym (append-nil (Own past))

  one_query : (own number : ℕ) (ask : QueryAsk) (before : List Event) (mine : Bool) → (own == client) ≡ mine
      → Own (There (asks_at_each heading own number ask heading.shards before))
      ≡ Own (There before) ++ Left (if_own mine (Queried number ask (replies_to heading own ask before)))
  one_query own number ask before true is =
      let same : own ≡ client = equal_numbers own client is in
      subst (λ c. Own (There (asks_at_each heading c number ask heading.shards before))
      ≡ Own (There before) ++ Left (Some (Queried number ask (replies_to heading c ask before)))) (sym same) own_query
    where
      reply_there : get_or (replies_to heading client ask before) shard Unknown ≡ answer_at heading client number ask before shard
      reply_there =
          let e : 0 + shard ≡ shard = omega arith in
          numbers_get 0 heading.shards shard (answer_at heading client number ask before) Unknown within
          ∙ ap (answer_at heading client number ask before) e

      own_query : Own (There (asks_at_each heading client number ask heading.shards before))
          ≡ Own (There before) ++ Left (Some (Queried number ask (replies_to heading client ask before)))
      own_query =
          ap Own (asked_there heading client number ask before heading.shards shard within)
          ∙ one_more (Asked client number ask (answer_at heading client number ask before shard)) (There before)
          ∙ ap (λ b. Own (There before) ++ cond b (Asked client number ask (answer_at heading client number ask before shard) ∷ []) [])
          (same_number client)
          ∙ ap (λ reply. Own (There before) ++ Asked client number ask reply ∷ []) (sym reply_there)
  one_query own number ask before false is =
      each_keep (λ now. Own (There now) ≡ Own (There before)) heading.shards
      (λ s. does heading (home_of heading own) s (Asks own number ask))
      (λ s less now e. same_deeds (shard == s && home_of heading client == home_of heading own) _ (There now) is ∙ e) before refl
      ∙ sym (append-nil (Own (There before)))

  line_deeds : (gone : List ℕ) (line : Line) (before : List Event)
      → Own (There (after heading gone line before)) ≡ Own (There before) ++ Left (served_at heading client line before)
  line_deeds gone (Step own number (act.Call ask)) before =
      let done = done_at heading own ask before in
      one_call own number ask done.reply done.made done.to (There before) (shard == shard_of (key_of ask) heading.shards)
      (home_of heading client == home_of heading own) (own == client) refl refl
      (λ same. ap (λ c. home_of heading client == home_of heading c) same ∙ same_number (home_of heading client))
  line_deeds gone (Step own number (act.Query ask)) before = one_query own number ask before (own == client) refl
  line_deeds gone (Step own number (act.Peek key)) before = at_own (own == client)
    where
      at_own : (b : Bool)
          → Own (There before)
          ≡ Own (There before) ++ Left (if_own b (looked number key (history (home_of heading own) (shard_of key heading.shards) before)))
      at_own true = sym (append-nil (Own (There before)))
      at_own false = sym (append-nil (Own (There before)))
  line_deeds gone (Deliver to of number) before = rest_same gone (Deliver to of number) before tt
  line_deeds gone (line.Report of) before = rest_same gone (line.Report of) before tt
  line_deeds gone (Hear to of number) before = rest_same gone (Hear to of number) before tt
  line_deeds gone (Sweep of moment) before = rest_same gone (Sweep of moment) before tt
  line_deeds gone (Join joiner provider) before = rest_same gone (Join joiner provider) before tt
  line_deeds gone (Depart of) before = rest_same gone (Depart of) before tt
  line_deeds gone (Leave client moment) before = rest_same gone (Leave client moment) before tt
  line_deeds gone (Back client moment) before = rest_same gone (Back client moment) before tt

  -- The member's history has the deeds of the client's steps, each once and in order.
  pub served_deeds : (past : List Line)
      → filter (is_of_client client) (reverse (history (home_of heading client) shard (course heading past)))
      ≡ all_deeds_of client heading.shards shard (served_in heading client past)
  served_deeds [] = refl
  served_deeds (line ∷ past) =
      line_deeds (departed past) line (course heading past)
      ∙ ap (λ (all : List Deed). all ++ Left (served_at heading client line (course heading past))) (served_deeds past)
      ∙ sym (flat_map-append (deeds_of client heading.shards shard) (served_in heading client past)
      (option_to_list (served_at heading client line (course heading past))))

-- ---- the peeks

more_events : (heading : Heading) (gone : List ℕ) (one : Event) (line : Line) (before : List Event) → Among one before
    → Among one (after heading gone line before)
more_events heading gone one (Step own number (act.Call ask)) before a = inr a
more_events heading gone one (Step own number (act.Query ask)) before a =
    inr (each_keep (Among one) heading.shards (λ s. does heading (home_of heading own) s (Asks own number ask)) (λ s less now e. inr e)
    before a)
more_events heading gone one (Step own number (act.Peek key)) before a = inr a
more_events heading gone one (Deliver to of number) before a =
    quiet_keeps heading gone (Among one) (λ m s doing now quiet e. inr e) (Deliver to of number) before tt a
more_events heading gone one (line.Report of) before a =
    quiet_keeps heading gone (Among one) (λ m s doing now quiet e. inr e) (line.Report of) before tt a
more_events heading gone one (Hear to of number) before a =
    quiet_keeps heading gone (Among one) (λ m s doing now quiet e. inr e) (Hear to of number) before tt a
more_events heading gone one (Sweep of moment) before a =
    quiet_keeps heading gone (Among one) (λ m s doing now quiet e. inr e) (Sweep of moment) before tt a
more_events heading gone one (Join joiner provider) before a =
    quiet_keeps heading gone (Among one) (λ m s doing now quiet e. inr e) (Join joiner provider) before tt a
more_events heading gone one (Depart of) before a =
    quiet_keeps heading gone (Among one) (λ m s doing now quiet e. inr e) (Depart of) before tt a
more_events heading gone one (Leave client moment) before a =
    quiet_keeps heading gone (Among one) (λ m s doing now quiet e. inr e) (Leave client moment) before tt a
more_events heading gone one (Back client moment) before a =
    quiet_keeps heading gone (Among one) (λ m s doing now quiet e. inr e) (Back client moment) before tt a

module _ (heading : Heading) (client number : ℕ) (peek : Peek) where
  -- another step is no peek
  no_peek : (b : Bool) (one : Served) → (Looked number peek ≡ one → ⊥)
      → Among (Looked number peek) (option_to_list (if_own b one)) → ⊥
  no_peek true one apart (inl is) = apart is
  no_peek true one apart (inr a) = a
  no_peek false one apart a = a

  peek_at : (gone : List ℕ) (line : Line) (before : List Event)
      → Among (Looked number peek) (option_to_list (served_at heading client line before))
      → Among (Peeked client number peek) (after heading gone line before)
  peek_at gone (Step own seq (act.Call ask)) before a =
      absurd (no_peek (own == client) (called seq ask (done_at heading own ask before)) (λ e. cc) a)
  peek_at gone (Step own seq (act.Query ask)) before a =
      absurd (no_peek (own == client) (Queried seq ask (replies_to heading own ask before)) (λ e. cc) a)
  peek_at gone (Step own seq (act.Peek which)) before a = at_own (own == client) refl a
    where
      same : (other : Peek) → own ≡ client → Looked number peek ≡ Looked seq other → Peeked client number peek ≡ Peeked own seq other
      same other own_is e = cc

      at_own : (b : Bool) → (own == client) ≡ b
          → Among (Looked number peek) (option_to_list (if_own b (looked seq which (history (home_of heading own) (shard_of which
          heading.shards) before))))
          → Among (Peeked client number peek) (after heading gone (Step own seq (act.Peek which)) before)
      at_own true e (inl is) = inl (same (seen_in which (history (home_of heading own) (shard_of which heading.shards) before))
          (equal_numbers own client e) is)
      at_own true e (inr a) = absurd a
      at_own false e a = absurd a
  peek_at gone (Deliver to of seq) before a = absurd a
  peek_at gone (line.Report of) before a = absurd a
  peek_at gone (Hear to of seq) before a = absurd a
  peek_at gone (Sweep of moment) before a = absurd a
  peek_at gone (Join joiner provider) before a = absurd a
  peek_at gone (Depart of) before a = absurd a
  peek_at gone (Leave client moment) before a = absurd a
  peek_at gone (Back client moment) before a = absurd a

  -- What the client looked at is an event of the course.
  pub peek_stood : (past : List Line) → Among (Looked number peek) (served_in heading client past)
      → Among (Peeked client number peek) (course heading past)
  peek_stood [] a = absurd a
  peek_stood (line ∷ past) a =
      ⊎_elim (λ earlier. more_events heading (departed past) (Peeked client number peek) line (course heading past) (peek_stood past earlier))
      (λ here. peek_at (departed past) line (course heading past) here)
      (among_either (Looked number peek) (served_in heading client past)
      (option_to_list (served_at heading client line (course heading past))) a)
