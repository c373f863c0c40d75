-- The headline's part on queries: rows and events keep up with the result, and all events are handed out.
use Rattle.std.proofs.Common.{suc, ◌≡◌, ◌⊎◌, ℕ, List, [], ◌∷◌, ◌++◌, ◌≤◌, refl, sym, ap, ◌∙◌, subst, inl, inr, ⊎_elim, arith}
use Rattle.std.proofs.Common.{append-nil, append_assoc}
use Rattle.std.specs.Prelude.{Option, Some, None, length}
use Rattle.gr_oql.specs.declared.event.Event.{Event}
use Rattle.gr_oql.specs.Events.{where_matching, result_of, played}
use Rattle.gr_stamp.specs.Winner.{put_value}
use Rattle.std.specs.Option.{option_and_then}
use Rattle.gr_history.specs.declared.query_ask.QueryAsk.{QueryAsk}
use Rattle.gr_history.specs.declared.query_ask.QueryAsk.TheVariants.{Enrol, Stop, Close, Fetch}
use Rattle.gr_history.specs.declared.query_reply.QueryReply.{QueryReply}
use Rattle.gr_history.specs.declared.query_reply.QueryReply.TheVariants.{Fetched}
use Rattle.gr_history.specs.declared.deed.Deed.{Deed}
use Rattle.gr_history.specs.Standing.{standing, present}
use Rattle.gr_history.specs.Turned.{events_at, events_from, events}
use Rattle.gr_history.specs.Queries.{Asking, asked_of, Opening, State, Neither, Running, Halted, after_asking, after_asked, state}
use Rattle.gr_history.specs.Queries.{behind_fetched, fetched_upto, waiting_in, waiting, answer, rows_of}
use Rattle.gr_law.specs.Queries.{IsLawfulAsked, IsAnswered, found, present_of, with_reply, with_asked, handed, IsKeptUp}
use Rattle.gr_law.specs.Queries.{since_opening, IsFetched, IsHandedOut}
use Rattle.gr_law.proofs.Following.{played_append, played_deed, found_rows}
use Rattle.gr_law.proofs.Waiting.{at_end, at_before, events_on, events_none, IsWithin, within, fetched_within, noted_in, waits_on}
use Rattle.gr_law.proofs.Waiting.{waits_fetched, waits_stopped, waits_opened, noted_none, asked_same, asked_reply}

-- every key has what it had
abbrev pub IsQuiet : Deed → List Deed → Type 0
IsQuiet deed past = (key : List ℕ) → standing key (deed ∷ past) ≡ standing key past

-- of a deed that asks: the reply is the past's answer, and nothing is turned
abbrev pub IsLawfulAsking : Option Asking → Deed → List Deed → State → List Event → Type 0
IsLawfulAsking None deed past before events = Unit {0}
IsLawfulAsking (Some asking) deed past before events = (asking.reply ≡ answer asking.ask past before events) × IsQuiet deed past

pub lawful_asking : (client : ℕ) (name : List ℕ) (deed : Deed) (past : List Deed) → IsLawfulAsked deed past
    → IsLawfulAsking (asked_of client name deed) deed past (state client name past) (waiting client name past)
lawful_asking client name deed past law = at_asked (asked_of client name deed) refl
  where
    at_asked : (a : Option Asking) → asked_of client name deed ≡ a → IsLawfulAsking a deed past (state client name past) (waiting client
        name past)
    at_asked None e = tt
    at_asked (Some asking) e = (asked_reply client name deed past asking e law, asked_same client name deed past asking e)

-- A query that runs has run before, or is opened at this deed.
pub record IsOpenedHere (past : List Deed) (opening : Opening) : Type 0 where
  pub place_is : opening.place ≡ suc (length past)
  pub rows_are : opening.rows ≡ rows_of opening.question past

opened_here : (past : List Deed) (one opening : Opening) → Running one ≡ Running opening → IsOpenedHere past one → IsOpenedHere past
    opening
opened_here past one opening e h = let same : one ≡ opening = cc in subst (IsOpenedHere past) same h

running_at : (ask : QueryAsk) (past : List Deed) (before : State) (events : List Event) (opening : Opening)
    → after_asking ask (answer ask past before events) (length past) before ≡ Running opening → (before ≡ Running opening) ⊎ IsOpenedHere
    past opening
running_at (Enrol name question) past Neither all opening h =
    inr (opened_here past (record { question = question; rows = rows_of question past; place = suc (length past) }) opening h (record {
      place_is = refl;
      rows_are = refl;
    }))
running_at (Stop name) past (Running one) all opening h = absurd (cc)
running_at (Close name) past (Running one) all opening h = absurd (cc)
running_at (Close name) past (Halted one stop) all opening h = absurd (cc)
running_at (Fetch name) past Neither all opening h = inl h
running_at (Fetch name) past (Running one) all opening h = inl h
running_at (Fetch name) past (Halted one stop) all opening h = inl h
running_at ask past before all opening h = inl h

pub running_from : (a : Option Asking) (deed : Deed) (past : List Deed) (before : State) (events : List Event) → IsLawfulAsking a deed
    past before events
    → (opening : Opening) → after_asked a (length past) before ≡ Running opening → (before ≡ Running opening) ⊎ (IsOpenedHere past
    opening × IsQuiet deed past)
running_from None deed past before events law opening h = inl h
running_from (Some asking) deed past before events law opening h =
    ⊎_elim (λ ran. inl ran) (λ here. inr (here, law.1))
    (running_at asking.ask past before events opening (subst (λ r. after_asking asking.ask r (length past) before ≡ Running opening)
    law.0 h))

pub quiet_present : (deed : Deed) (past : List Deed) → IsQuiet deed past → (key : List ℕ) → present key (deed ∷ past) ≡ present key past
quiet_present deed past quiet key = ap (option_and_then (λ change. put_value change.kind)) (quiet key)

pub kept_up : (client : ℕ) (name : List ℕ) (h : List Deed) → IsAnswered h → IsKeptUp client name h
kept_up client name [] law opening runs key = absurd (cc)
kept_up client name (deed ∷ past) law opening runs key =
    at_cases (running_from (asked_of client name deed) deed past (state client name past) (waiting client name past)
    (lawful_asking client name deed past law.0) opening runs)
    (λ ran key. kept_up client name past law.1 opening ran key)
  where
    so_far : List Deed → List Event
    so_far h = events_from opening.question opening.place h

    whole : (h : List Deed) → events opening.question h opening.place (length h) ≡ events_from opening.question opening.place h
    whole h = ap (events_from opening.question opening.place) (at_end h)

    at_cases : (state client name past ≡ Running opening) ⊎ (IsOpenedHere past opening × IsQuiet deed past)
        → (state client name past ≡ Running opening → (key : List ℕ)
        → played (found opening.rows) (events opening.question past opening.place (length past)) key ≡ result_of opening.question
        (present_of past) key)
        → played (found opening.rows) (events opening.question (deed ∷ past) opening.place (length (deed ∷ past))) key ≡ result_of
        opening.question (present_of (deed ∷ past)) key
    at_cases (inl ran) next =
        let inside : IsWithin (Running opening) (length past) = subst (λ s. IsWithin s (length past)) ran (within client name past) in
        let more : events opening.question (deed ∷ past) opening.place (length (deed ∷ past))
        ≡ events opening.question past opening.place (length past) ++ events_at opening.question deed past =
        whole (deed ∷ past) ∙ events_on opening.question opening.place deed past inside
        ∙ ap (λ xs. xs ++ events_at opening.question deed past) (sym (whole past)) in
        ap (λ xs. played (found opening.rows) xs key) more
        ∙ ap (λ f. f key) (played_append (found opening.rows) (events opening.question past opening.place (length past)) (events_at
        opening.question deed past))
        ∙ played_deed opening.question deed past (played (found opening.rows) (events opening.question past opening.place (length past)))
        (next ran) key
    at_cases (inr here) next =
        let none : events opening.question (deed ∷ past) opening.place (length (deed ∷ past)) ≡ [] =
        whole (deed ∷ past) ∙ events_none opening.question opening.place (deed ∷ past) (omega (arith, here.0.place_is)) in
        ap (λ xs. played (found opening.rows) xs key) none
        ∙ ap (λ rows. found rows key) here.0.rows_are
        ∙ found_rows opening.question past key
        ∙ ap (where_matching opening.question) (sym (quiet_present deed past here.1 key))

-- the events since the opening go on as the waiting ones do
since_on : (s : State) (deed : Deed) (past : List Deed) → IsWithin s (length past) → since_opening s (deed ∷ past) ≡ noted_in s deed past
    (since_opening s past)
since_on Neither deed past h = refl
since_on (Running opening) deed past h =
    ap (events_from opening.question opening.place) (at_end (deed ∷ past)) ∙ events_on opening.question opening.place deed past h
    ∙ ap (λ z. events_from opening.question opening.place z ++ events_at opening.question deed past) (sym (at_end past))
since_on (Halted opening stop) deed past h = ap (events_from opening.question opening.place) (at_before stop deed past h.1)

noted_behind : (s : State) (deed : Deed) (past : List Deed) (xs ys : List Event) → xs ++ noted_in s deed past ys ≡ noted_in s deed past
    (xs ++ ys)
noted_behind Neither deed past xs ys = refl
noted_behind (Running opening) deed past xs ys = sym (append_assoc xs ys (events_at opening.question deed past))
noted_behind (Halted opening stop) deed past xs ys = refl

-- What was handed out and what waits are the events since the opening.
module _ (deed : Deed) (past : List Deed) where
  balance_on : (s : State) (fetched : ℕ) (before : List Event) → IsWithin s (length past) → fetched ≤ length past
      → before ++ waiting_in s fetched past ≡ since_opening s past
      → before ++ waiting_in s fetched (deed ∷ past) ≡ since_opening s (deed ∷ past)
  balance_on s fetched before inside f is =
      ap (λ xs. before ++ xs) (waits_on s fetched deed past inside f) ∙ noted_behind s deed past before (waiting_in s fetched past)
      ∙ ap (noted_in s deed past) is ∙ sym (since_on s deed past inside)

  balance_fetched : (s : State) (fetched : ℕ) (before : List Event) → IsWithin s (length past) → IsQuiet deed past
      → before ++ waiting_in s fetched past ≡ since_opening s past
      → (before ++ waiting_in s fetched past) ++ waiting_in s (suc (length past)) (deed ∷ past) ≡ since_opening s (deed ∷ past)
  balance_fetched s fetched before inside quiet is =
      ap (λ xs. (before ++ waiting_in s fetched past) ++ xs) (waits_fetched s deed past inside)
      ∙ append-nil (before ++ waiting_in s fetched past) ∙ is
      ∙ sym (since_on s deed past inside ∙ noted_none s deed past (since_opening s past) quiet)

  abbrev Balanced : List Event → State → ℕ → Type 0
  Balanced before s fetched = before ++ waiting_in s fetched (deed ∷ past) ≡ since_opening s (deed ∷ past)

  abbrev BalancedBy : QueryAsk → QueryReply → State → ℕ → List Event → Type 0
  BalancedBy ask reply s fetched before =
      Balanced (with_reply reply before) (after_asking ask reply (length past) s) (behind_fetched (Some (record {
        ask = ask;
        reply =
            reply;
      })) (length past) fetched)

  balance_at : (ask : QueryAsk) (s : State) (fetched : ℕ) (before : List Event) → IsWithin s (length past) → fetched ≤ length past →
      IsQuiet deed past
      → before ++ waiting_in s fetched past ≡ since_opening s past
      → BalancedBy ask (answer ask past s (waiting_in s fetched past)) s fetched before
  balance_at (Enrol name question) Neither fetched before inside f quiet is =
      waits_opened (record { question = question; rows = rows_of question past; place = suc (length past) }) fetched deed past refl
      ∙ sym (ap (events_from question (suc (length past))) (at_end (deed ∷ past)) ∙ events_none question (suc (length past)) (deed ∷
      past) (omega arith))
  balance_at (Stop name) (Running opening) fetched before inside f quiet is =
      ap (λ xs. before ++ xs) (waits_stopped opening fetched deed past) ∙ is
      ∙ sym (ap (events_from opening.question opening.place) (at_before (length past) deed past (omega arith)))
  balance_at (Close name) (Running opening) fetched before inside f quiet is = refl
  balance_at (Close name) (Halted opening stop) fetched before inside f quiet is = refl
  balance_at (Fetch name) (Running opening) fetched before inside f quiet is = balance_fetched (Running opening) fetched before inside
      quiet is
  balance_at (Fetch name) (Halted opening stop) fetched before inside f quiet is = balance_fetched (Halted opening stop) fetched before
      inside quiet is
  balance_at ask s fetched before inside f quiet is = balance_on s fetched before inside f is

  balance_asked : (a : Option Asking) (s : State) (fetched : ℕ) (before : List Event) → IsWithin s (length past) → fetched ≤ length past
      → IsLawfulAsking a deed past s (waiting_in s fetched past)
      → before ++ waiting_in s fetched past ≡ since_opening s past
      → Balanced (with_asked a before) (after_asked a (length past) s) (behind_fetched a (length past) fetched)
  balance_asked None s fetched before inside f law is = balance_on s fetched before inside f is
  balance_asked (Some asking) s fetched before inside f law is =
      subst (λ r. BalancedBy asking.ask r s fetched before) (sym law.0) (balance_at asking.ask s fetched before inside f law.1 is)

pub balanced : (client : ℕ) (name : List ℕ) (h : List Deed) → IsAnswered h → handed client name h ++ waiting client name h ≡
    since_opening (state client name h) h
balanced client name [] law = refl
balanced client name (deed ∷ past) law =
    balance_asked deed past (asked_of client name deed) (state client name past) (fetched_upto client name past) (handed client name past)
    (within client name past) (fetched_within client name past) (lawful_asking client name deed past law.0) (balanced client name past
    law.1)

-- nothing waits behind a Fetched deed
emptied_at : (deed : Deed) (past : List Deed) (ask : QueryAsk) (s : State) (fetched : ℕ) (reply : QueryReply) → IsWithin s (length past)
    → reply ≡ answer ask past s (waiting_in s fetched past) → IsFetched reply
    → waiting_in (after_asking ask reply (length past) s) (behind_fetched (Some (record { ask = ask; reply = reply })) (length past)
    fetched) (deed ∷ past) ≡ []
emptied_at deed past ask s fetched reply inside is (more, fetches) =
    subst (λ r. waiting_in (after_asking ask r (length past) s) (behind_fetched (Some (record { ask = ask; reply = r })) (length past)
    fetched) (deed ∷ past) ≡ [])
    (sym fetches) (at_ask ask s inside (sym is ∙ fetches))
  where
    at_ask : (ask : QueryAsk) (s : State) → IsWithin s (length past) → answer ask past s (waiting_in s fetched past) ≡ Fetched more
        → waiting_in (after_asking ask (Fetched more) (length past) s) (suc (length past)) (deed ∷ past) ≡ []
    at_ask (Fetch name) s inside e = waits_fetched s deed past inside
    at_ask (Enrol name question) s inside e = waits_fetched s deed past inside
    at_ask (Stop name) s inside e = waits_fetched s deed past inside
    at_ask (Close name) s inside e = waits_fetched s deed past inside

pub handed_out : (client : ℕ) (name : List ℕ) (h : List Deed) → IsAnswered h → IsHandedOut client name h
handed_out client name [] law = tt
handed_out client name (deed ∷ past) law = λ asking asks fetches.
    let lawful : IsLawfulAsking (Some asking) deed past (state client name past) (waiting client name past) =
    subst (λ a. IsLawfulAsking a deed past (state client name past) (waiting client name past)) asks (lawful_asking client name deed past
    law.0) in
    let none : waiting client name (deed ∷ past) ≡ [] =
    subst (λ a. waiting_in (after_asked a (length past) (state client name past)) (behind_fetched a (length past) (fetched_upto client
    name past)) (deed ∷ past) ≡ [])
    (sym asks) (emptied_at deed past asking.ask (state client name past) (fetched_upto client name past) asking.reply (within client name
    past) lawful.0 fetches) in
    sym (append-nil (handed client name (deed ∷ past)))
    ∙ ap (λ xs. handed client name (deed ∷ past) ++ xs) (sym none)
    ∙ balanced client name (deed ∷ past) law
