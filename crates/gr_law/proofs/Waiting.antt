-- How the state and the waiting events of a query go on by one deed.
use Rattle.std.proofs.Common.{suc, ◌≡◌, ℕ, ◌≤◌, ◌<◌, List, [], ◌∷◌, ◌++◌, Bool, true, false, ◌&&◌, ◌==◌, refl, sym, ap, ◌∙◌, subst}
use Rattle.std.proofs.Common.{arith, max, bytes_eq, append-nil, if◌then◌else◌}
use Rattle.std.specs.Prelude.{Option, Some, None, nat_le, length, filter}
use Rattle.std.proofs.lemmas.Bool.Decides.{nat_tests}
use Rattle.std.proofs.lemmas.Slice.Eq.{bytes_eq-Decides}
use Rattle.gr_oql.specs.declared.event.Event.{Event}
use Rattle.gr_oql.specs.Question.{Question}
use Rattle.gr_history.specs.declared.query_ask.QueryAsk.{QueryAsk}
use Rattle.gr_history.specs.declared.query_ask.QueryAsk.TheVariants.{Enrol}
use Rattle.gr_history.specs.declared.query_reply.QueryReply.{QueryReply}
use Rattle.gr_history.specs.declared.query_reply.QueryReply.TheVariants.{Opened, Stopped, Closed, Fetched, Unknown, NotRunning}
use Rattle.gr_history.specs.declared.deed.Deed.{Deed}
use Rattle.gr_history.specs.declared.deed.Deed.TheVariants.{Call, Taken, Gave, Imaged, Reported, Asked, Heard, Swept}
use Rattle.gr_history.specs.Standing.{standing, changes}
use Rattle.gr_law.specs.Grids.{at_place}
use Rattle.gr_history.specs.Regions.{keys_of}
use Rattle.gr_history.specs.Turned.{turns, turned_keys, events_at, events_from, events}
use Rattle.gr_history.specs.Queries.{name_of, Asking, asked_of, Opening, State, Neither, Running, Halted, after_asking, after_asked}
use Rattle.gr_history.specs.Queries.{state, behind_fetched, fetched_upto, waiting_in, waiting, answer}
use Rattle.gr_law.specs.Queries.{IsLawfulAsked}
use Rattle.gr_law.proofs.Turning.{same_unturned}
use Rattle.gr_history.specs.declared.query_reply.QueryReply.TheVariants as told_as

le_test : (a b : ℕ) → a ≤ b → nat_le a b ≡ true
le_test a b h = grind (arith, nat_tests)

lt_test : (a b : ℕ) → b < a → nat_le a b ≡ false
lt_test a b h = grind (arith, nat_tests)

-- a history at its end is the whole
pub at_end : (h : List Deed) → at_place (length h) h ≡ h
at_end [] = refl
at_end (deed ∷ past) = rw (le_test (suc (length past)) (suc (length past)) (omega arith)) refl

pub at_before : (place : ℕ) (deed : Deed) (past : List Deed) → place ≤ length past → at_place place (deed ∷ past) ≡ at_place place past
at_before place deed past h = rw (lt_test (suc (length past)) place (omega arith)) refl

-- one more deed has its events behind those before
pub events_on : (question : Question) (place : ℕ) (deed : Deed) (past : List Deed) → place ≤ length past
    → events_from question place (deed ∷ past) ≡ events_from question place past ++ events_at question deed past
events_on question place deed past h = rw (le_test place (length past) h) refl

pub events_none : (question : Question) (place : ℕ) (h : List Deed) → length h ≤ place → events_from question place h ≡ []
events_none question place [] h = refl
events_none question place (deed ∷ past) h = rw (lt_test place (length past) (omega arith)) refl

at_place_short : (place : ℕ) (h : List Deed) → length (at_place place h) ≤ place
at_place_short place [] = omega arith
at_place_short place (deed ∷ past) = at_test (nat_le (suc (length past)) place) refl (at_place_short place past)
  where
    at_test : (b : Bool) → nat_le (suc (length past)) place ≡ b → length (at_place place past) ≤ place
        → length (if b then deed ∷ past else at_place place past) ≤ place
    at_test true e next = grind (arith, nat_tests)
    at_test false e next = next

-- the places of a state lie within the history
abbrev pub IsWithin : State → ℕ → Type 0
IsWithin Neither n = Unit {0}
IsWithin (Running opening) n = opening.place ≤ n
IsWithin (Halted opening stop) n = (opening.place ≤ stop) × (stop ≤ n)

within_longer : (s : State) (n : ℕ) → IsWithin s n → IsWithin s (suc n)
within_longer Neither n h = tt
within_longer (Running opening) n h = omega arith
within_longer (Halted opening stop) n h = (h.0, omega (arith, h.1))

within_asking : (ask : QueryAsk) (reply : QueryReply) (n : ℕ) (s : State) → IsWithin s n → IsWithin (after_asking ask reply n s) (suc n)
within_asking (Enrol name question) (Opened rows) n s h = omega arith
within_asking ask Stopped n (Running opening) h = (h, omega arith)
within_asking ask Closed n s h = tt
within_asking ask reply n s h = within_longer s n h

within_asked : (a : Option Asking) (n : ℕ) (s : State) → IsWithin s n → IsWithin (after_asked a n s) (suc n)
within_asked None n s h = within_longer s n h
within_asked (Some asking) n s h = within_asking asking.ask asking.reply n s h

pub within : (client : ℕ) (name : List ℕ) (h : List Deed) → IsWithin (state client name h) (length h)
within client name [] = tt
within client name (deed ∷ past) = within_asked (asked_of client name deed) (length past) (state client name past) (within client name
    past)

-- the events that a state adds at a deed
abbrev pub noted_in : State → Deed → List Deed → List Event → List Event
noted_in Neither deed past events = events
noted_in (Running opening) deed past events = events ++ events_at opening.question deed past
noted_in (Halted opening stop) deed past events = events

-- the four steps of the waiting events: nothing is asked; fetched; stopped; opened
pub waits_on : (s : State) (fetched : ℕ) (deed : Deed) (past : List Deed) → IsWithin s (length past) → fetched ≤ length past
    → waiting_in s fetched (deed ∷ past) ≡ noted_in s deed past (waiting_in s fetched past)
waits_on Neither fetched deed past h f = refl
waits_on (Running opening) fetched deed past h f =
    ap (events_from opening.question (max opening.place fetched)) (at_end (deed ∷ past))
    ∙ events_on opening.question (max opening.place fetched) deed past (omega (arith, h, f))
    ∙ ap (λ z. events_from opening.question (max opening.place fetched) z ++ events_at opening.question deed past) (sym (at_end past))
waits_on (Halted opening stop) fetched deed past h f =
    ap (events_from opening.question (max opening.place fetched)) (at_before stop deed past h.1)

pub waits_fetched : (s : State) (deed : Deed) (past : List Deed) → IsWithin s (length past) → waiting_in s (suc (length past)) (deed ∷
    past) ≡ []
waits_fetched Neither deed past h = refl
waits_fetched (Running opening) deed past h =
    ap (events_from opening.question (max opening.place (suc (length past)))) (at_end (deed ∷ past))
    ∙ events_none opening.question (max opening.place (suc (length past))) (deed ∷ past) (omega arith)
waits_fetched (Halted opening stop) deed past h =
    events_none opening.question (max opening.place (suc (length past))) (at_place stop (deed ∷ past)) (omega (
      arith,
      at_place_short stop
          (deed ∷ past),
      h.1,
    ))

pub waits_stopped : (opening : Opening) (fetched : ℕ) (deed : Deed) (past : List Deed)
    → waiting_in (Halted opening (length past)) fetched (deed ∷ past) ≡ waiting_in (Running opening) fetched past
waits_stopped opening fetched deed past = ap (events_from opening.question (max opening.place fetched)) (at_before (length past) deed
    past (omega arith))

pub waits_opened : (opening : Opening) (fetched : ℕ) (deed : Deed) (past : List Deed) → opening.place ≡ suc (length past)
    → waiting_in (Running opening) fetched (deed ∷ past) ≡ []
waits_opened opening fetched deed past h =
    ap (events_from opening.question (max opening.place fetched)) (at_end (deed ∷ past))
    ∙ events_none opening.question (max opening.place fetched) (deed ∷ past) (omega (arith, h))

-- what was fetched lies within the history
fetched_asked : (a : Option Asking) (n f : ℕ) → f ≤ n → behind_fetched a n f ≤ suc n
fetched_asked None n f h = omega arith
fetched_asked (Some asking) n f h = at_reply asking.reply
  where
    at_reply : (reply : QueryReply) → behind_fetched (Some (record { ask = asking.ask; reply = reply })) n f ≤ suc n
    at_reply (Opened rows) = omega arith
    at_reply Stopped = omega arith
    at_reply Closed = omega arith
    at_reply (Fetched events) = omega arith
    at_reply Unknown = omega arith
    at_reply told_as.Taken = omega arith
    at_reply NotRunning = omega arith

pub fetched_within : (client : ℕ) (name : List ℕ) (h : List Deed) → fetched_upto client name h ≤ length h
fetched_within client name [] = omega arith
fetched_within client name (deed ∷ past) = fetched_asked (asked_of client name deed) (length past) (fetched_upto client name past)
    (fetched_within client name past)

-- a deed that asks something of a query is an Asked deed,
record IsAsked (client : ℕ) (name : List ℕ) (deed : Deed) (asking : Asking) : Type 0 where
  seq : ℕ
  deed_is : deed ≡ Asked client seq asking.ask asking.reply
  named : name_of asking.ask ≡ name

asked_is : (client : ℕ) (name : List ℕ) (deed : Deed) (asking : Asking) → asked_of client name deed ≡ Some asking
    → IsAsked client name deed asking
asked_is client name (Asked own seq ask reply) asking e = at_test (own == client && bytes_eq (name_of ask) name) refl e
  where
    at_test : (b : Bool) → (own == client && bytes_eq (name_of ask) name) ≡ b → (if b then Some (record { ask = ask; reply = reply })
        else None) ≡ Some asking
        → IsAsked client name (Asked own seq ask reply) asking
    at_test true h is =
        let one : own ≡ client = grind (arith, nat_tests) in
        let two : bytes_eq (name_of ask) name ≡ true = grind arith in
        let named : name_of ask ≡ name = (bytes_eq-Decides (name_of ask) name).0 two in
        let asks : ask ≡ asking.ask = cc in
        let replies : reply ≡ asking.reply = cc in
        record { seq = seq; deed_is = cc; named = ap name_of (sym asks) ∙ named }
    at_test false h is = absurd (cc)
asked_is client name (Call own to seq ask reply made) asking e = absurd (cc)
asked_is client name (Taken change verdict) asking e = absurd (cc)
asked_is client name (Gave to what) asking e = absurd (cc)
asked_is client name (Imaged image) asking e = absurd (cc)
asked_is client name (Reported report) asking e = absurd (cc)
asked_is client name (Heard report) asking e = absurd (cc)
asked_is client name (Swept moment keys) asking e = absurd (cc)

-- which turns nothing
pub asked_same : (client : ℕ) (name : List ℕ) (deed : Deed) (past : List Deed) (asking : Asking) → asked_of client name deed ≡ Some asking
    → (key : List ℕ) → standing key (deed ∷ past) ≡ standing key past
asked_same client name deed past asking e key =
    subst (λ d. standing key (d ∷ past) ≡ standing key past) (sym (asked_is client name deed asking e).deed_is) refl

filter_none : {A : Type 0} → (p : A → Bool) (xs : List A) → ((x : A) → p x ≡ false) → filter p xs ≡ []
filter_none p [] none = refl
filter_none p (x ∷ xs) none = rw (none x) (filter_none p xs none)

-- a deed at which all keys have what they had tells a query nothing
pub none_turned : (deed : Deed) (past : List Deed) → ((key : List ℕ) → standing key (deed ∷ past) ≡ standing key past) → turned_keys deed
    past ≡ []
none_turned deed past same = filter_none (turns deed past) (keys_of (changes (deed ∷ past))) (λ key. same_unturned deed past key (same
    key))

pub none_told : (question : Question) (deed : Deed) (past : List Deed) → ((key : List ℕ) → standing key (deed ∷ past) ≡ standing key
    past) → events_at question deed past ≡ []
none_told question deed past same = rw (none_turned deed past same) refl

pub noted_none : (s : State) (deed : Deed) (past : List Deed) (all : List Event) → ((key : List ℕ) → standing key (deed ∷ past) ≡
    standing key past) → noted_in s deed past all ≡ all
noted_none Neither deed past all same = refl
noted_none (Running opening) deed past all same = ap (λ more. all ++ more) (none_told opening.question deed past same) ∙ append-nil all
noted_none (Halted opening stop) deed past all same = refl

-- and its reply is the one that the past gives
pub asked_reply : (client : ℕ) (name : List ℕ) (deed : Deed) (past : List Deed) (asking : Asking) → asked_of client name deed ≡ Some
    asking
    → IsLawfulAsked deed past → asking.reply ≡ answer asking.ask past (state client name past) (waiting client name past)
asked_reply client name deed past asking e law =
    let is = asked_is client name deed asking e in
    subst (λ n. asking.reply ≡ answer asking.ask past (state client n past) (waiting client n past)) is.named
    (subst (λ d. IsLawfulAsked d past) is.deed_is law)
