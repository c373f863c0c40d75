-- What a client holds by one shard is the result at the place that it shows.
use Rattle.std.proofs.Common.{suc, ◌≡◌, ◌⊎◌, ℕ, ◌≤◌, List, [], ◌∷◌, ◌++◌, Bool, true, false, ◌&&◌, ◌==◌, refl, sym, ap, ◌∙◌, subst, cond}
use Rattle.std.proofs.Common.{arith, bytes_eq, if◌then◌else◌, inl, inr}
use Rattle.std.specs.Prelude.{Option, Some, None, length, nat_le}
use Rattle.std.specs.Ordering.{nat_cmp}
use Rattle.std.specs.Cmp.Lexicographic.{slice_cmp}
use Rattle.std.specs.FinMap as finite
use Rattle.std.proofs.lemmas.Map.Text.{is_eq-slice_cmp}
use Rattle.std.proofs.lemmas.Slice.Eq.{bytes_eq-Decides}
use Rattle.gr_oql.specs.declared.event.Event.{Event}
use Rattle.gr_oql.specs.Question.{Question}
use Rattle.gr_history.specs.declared.query_ask.QueryAsk.{QueryAsk}
use Rattle.gr_history.specs.declared.query_ask.QueryAsk.TheVariants.{Enrol, Stop, Close, Fetch}
use Rattle.gr_history.specs.declared.query_reply.QueryReply.{QueryReply}
use Rattle.gr_history.specs.declared.query_reply.QueryReply.TheVariants.{Opened, Stopped, Closed, Fetched, Unknown, NotRunning}
use Rattle.gr_history.specs.declared.query_reply.QueryReply.TheVariants as told_as
use Rattle.gr_history.specs.declared.deed.Deed.{Deed}
use Rattle.gr_history.specs.declared.deed.Deed.TheVariants.{Call, Taken, Gave, Imaged, Reported, Asked, Heard, Swept}
use Rattle.gr_history.specs.Places.{at_place}
use Rattle.gr_history.specs.Turned.{events_from}
use Rattle.gr_history.specs.Queries.{name_of, Asking, asked_of, Opening, State, Neither, Running, Halted, after_asking, after_asked}
use Rattle.gr_history.specs.Queries.{state, waiting, answer, rows_of}
use Rattle.gr_law.specs.Queries.{IsAnswered, handed, with_asked, since_opening}
use Rattle.gr_law.specs.QueryMaps.{Rows, followed, map_of, put_at}
use Rattle.gr_law.proofs.AsMaps.{kept_up_as_maps}
use Rattle.gr_law.proofs.KeptUp.{handed_out}
use Rattle.gr_law.proofs.Waiting.{asked_reply, at_before, at_end, within, IsWithin}
use Rattle.gr_by_key.specs.Maps.{with_value}
use Rattle.gr_by_key.proofs.Maps.{get_with_value}
use Rattle.gr_durable.specs.Places.{opening_of, shown_after, shown_asked, shown_upto}
use Rattle.gr_durable.specs.Results.{result_shown, HoldsResults}
use Rattle.gr_durable.specs.Tables.{Held, held_after, put_table, with_deed, with_reply}

-- ---- one name

abbrev pub held : ℕ → List ℕ → List Deed → Option Rows
held client name history = finite.get (held_after client history) name

abbrev pub after_reply : Option Asking → Option Rows → Option Rows
after_reply None before = before
after_reply (Some asking) before = with_reply asking.reply before

put_is : (name : List ℕ) (rows : Option Rows) (all : Held) → put_table name rows all ≡ with_value name rows all
put_is name None all = refl
put_is name (Some rows) all = refl

get_put : (at : List ℕ) (rows : Option Rows) (all : Held) (name : List ℕ)
    → finite.get (put_table at rows all) name ≡ (if bytes_eq at name then rows else finite.get all name)
get_put at rows all name =
    ap (λ m. finite.get m name) (put_is at rows all)
    ∙ get_with_value at rows all name
    ∙ ap (λ b. cond b rows (finite.get all name)) (is_eq-slice_cmp at name)

abbrev asked_if : Bool → QueryAsk → QueryReply → Option Asking
asked_if b ask reply = if b then Some (record { ask = ask; reply = reply }) else None

pub held_deed : (client : ℕ) (name : List ℕ) (deed : Deed) (all : Held)
    → finite.get (with_deed client deed all) name ≡ after_reply (asked_of client name deed) (finite.get all name)
held_deed client name (Asked own seq ask reply) all =
    at_tests (own == client) (bytes_eq (name_of ask) name) refl
  where
    at_tests : (b c : Bool) → bytes_eq (name_of ask) name ≡ c
        → finite.get (if b then put_table (name_of ask) (with_reply reply (finite.get all (name_of ask))) all else all) name
        ≡ after_reply (asked_if (b && c) ask reply) (finite.get all name)
    at_tests false c e = refl
    at_tests true false e =
        get_put (name_of ask) (with_reply reply (finite.get all (name_of ask))) all name
        ∙ ap (λ t. if t then with_reply reply (finite.get all (name_of ask)) else finite.get all name) e
    at_tests true true e =
        get_put (name_of ask) (with_reply reply (finite.get all (name_of ask))) all name
        ∙ ap (λ t. if t then with_reply reply (finite.get all (name_of ask)) else finite.get all name) e
        ∙ ap (λ k. with_reply reply (finite.get all k)) ((bytes_eq-Decides (name_of ask) name).0 e)
held_deed client name (Call own to seq ask reply made) all = refl
held_deed client name (Taken change verdict) all = refl
held_deed client name (Gave to what) all = refl
held_deed client name (Imaged image) all = refl
held_deed client name (Reported report) all = refl
held_deed client name (Heard report) all = refl
held_deed client name (Swept moment expired) all = refl

-- ---- what is held is the opening's rows with all that was handed out

followed_append : (rows : Rows) (xs ys : List Event) → followed rows (xs ++ ys) ≡ followed (followed rows xs) ys
followed_append rows [] ys = refl
followed_append rows (event ∷ xs) ys = followed_append (put_at event.key _ rows) xs ys

abbrev rows_played : State → List Event → Option Rows
rows_played Neither all = None
rows_played (Running opening) all = Some (followed (map_of opening.rows) all)
rows_played (Halted opening stop) all = Some (followed (map_of opening.rows) all)

played_on : (ask : QueryAsk) (past : List Deed) (place : ℕ) (waits : List Event) (s : State) (all : List Event)
    → with_reply (answer ask past s waits) (rows_played s all)
    ≡ rows_played (after_asking ask (answer ask past s waits) place s)
    (with_asked (Some (record { ask = ask; reply = answer ask past s waits })) all)
played_on (Enrol name question) past place waits Neither all = refl
played_on (Enrol name question) past place waits (Running opening) all = refl
played_on (Enrol name question) past place waits (Halted opening stop) all = refl
played_on (Stop name) past place waits Neither all = refl
played_on (Stop name) past place waits (Running opening) all = refl
played_on (Stop name) past place waits (Halted opening stop) all = refl
played_on (Close name) past place waits Neither all = refl
played_on (Close name) past place waits (Running opening) all = refl
played_on (Close name) past place waits (Halted opening stop) all = refl
played_on (Fetch name) past place waits Neither all = refl
played_on (Fetch name) past place waits (Running opening) all = ap (λ rows. Some rows) (sym (followed_append (map_of opening.rows) all waits))
played_on (Fetch name) past place waits (Halted opening stop) all = ap (λ rows. Some rows) (sym (followed_append (map_of opening.rows) all waits))

abbrev IsPlayed : ℕ → List ℕ → List Deed → Type 0
IsPlayed client name history = held client name history ≡ rows_played (state client name history) (handed client name history)

pub asking_eta : (asking : Asking) (reply : QueryReply) → asking.reply ≡ reply
    → Some asking ≡ Some (record { ask = asking.ask; reply = reply })
asking_eta asking reply e = ap (λ r. Some (record { ask = asking.ask; reply = r })) e

pub held_played : (client : ℕ) (name : List ℕ) (history : List Deed) → IsAnswered history → IsPlayed client name history
held_played client name [] law = finite.get-empty (slice_cmp nat_cmp) name
held_played client name (deed ∷ past) law =
    held_deed client name deed (held_after client past)
    ∙ at_asked (held_played client name past law.1) (asked_of client name deed) refl
  where
    s : State
    s = state client name past

    all : List Event
    all = handed client name past

    waits : List Event
    waits = waiting client name past

    at_asked : IsPlayed client name past → (a : Option Asking) → asked_of client name deed ≡ a
        → after_reply (asked_of client name deed) (held client name past)
        ≡ rows_played (after_asked (asked_of client name deed) (length past) s) (with_asked (asked_of client name deed) all)
    at_asked before None e =
        subst (λ a. after_reply a (held client name past) ≡ rows_played (after_asked a (length past) s) (with_asked a all)) (sym e) before
    at_asked before (Some asking) e =
        let told : asking.reply ≡ answer asking.ask past s waits = asked_reply client name deed past asking e law.0 in
        subst (λ a. after_reply a (held client name past) ≡ rows_played (after_asked a (length past) s) (with_asked a all))
        (sym (e ∙ asking_eta asking (answer asking.ask past s waits) told))
        (ap (with_reply (answer asking.ask past s waits)) before ∙ played_on asking.ask past (length past) waits s all)

-- ---- where a stopped query ran

halted_asking : (ask : QueryAsk) (reply : QueryReply) (n : ℕ) (s : State) (opening : Opening) (stop : ℕ)
    → after_asking ask reply n s ≡ Halted opening stop
    → ((s ≡ Running opening) × (stop ≡ n)) ⊎ (s ≡ Halted opening stop)
halted_asking (Enrol name question) (Opened rows) n s opening stop e = absurd (cc)
halted_asking ask Stopped n (Running one) opening stop e = inl (cc, cc)
halted_asking ask Closed n s opening stop e = absurd (cc)
halted_asking ask reply n s opening stop e = inr e

halted_asked : (a : Option Asking) (n : ℕ) (s : State) (opening : Opening) (stop : ℕ)
    → after_asked a n s ≡ Halted opening stop
    → ((s ≡ Running opening) × (stop ≡ n)) ⊎ (s ≡ Halted opening stop)
halted_asked None n s opening stop e = inr e
halted_asked (Some asking) n s opening stop e = halted_asking asking.ask asking.reply n s opening stop e

stop_within : (s : State) (opening : Opening) (stop n : ℕ) → s ≡ Halted opening stop → IsWithin s n → stop ≤ n
stop_within s opening stop n e h = (subst (λ t. IsWithin t n) e h).1

-- At the place of its stop it ran.
ran : (client : ℕ) (name : List ℕ) (history : List Deed) (opening : Opening) (stop : ℕ)
    → state client name history ≡ Halted opening stop → state client name (at_place stop history) ≡ Running opening
ran client name [] opening stop e = absurd (cc)
ran client name (deed ∷ past) opening stop e =
    at_last (ran client name past opening stop) (halted_asked (asked_of client name deed) (length past) (state client name past) opening
    stop e)
  where
    at_last : (state client name past ≡ Halted opening stop → state client name (at_place stop past) ≡ Running opening)
        → ((state client name past ≡ Running opening) × (stop ≡ length past)) ⊎ (state client name past ≡ Halted opening stop)
        → state client name (at_place stop (deed ∷ past)) ≡ Running opening
    at_last earlier (inl here) =
        ap (λ n. state client name (at_place n (deed ∷ past))) here.1
        ∙ ap (state client name) (at_before (length past) deed past (omega arith) ∙ at_end past)
        ∙ here.0
    at_last earlier (inr before) =
        ap (state client name) (at_before stop deed past (stop_within (state client name past) opening stop (length past) before (within
        client name past)))
        ∙ earlier before

answered_at : (place : ℕ) (history : List Deed) → IsAnswered history → IsAnswered (at_place place history)
answered_at place [] law = tt
answered_at place (deed ∷ past) law = at_test (nat_le (suc (length past)) place) (answered_at place past law.1)
  where
    at_test : (b : Bool) → IsAnswered (at_place place past) → IsAnswered (if b then deed ∷ past else at_place place past)
    at_test true next = law
    at_test false next = next

-- ---- the place that a table shows

shown_reply : (reply : QueryReply) (n shown : ℕ) (s : State) → IsWithin s n → shown ≤ n → shown_after reply (suc n) s shown ≤ suc n
shown_reply (Opened rows) n shown s inside h = omega arith
shown_reply Stopped n shown s inside h = omega (arith, h)
shown_reply Closed n shown s inside h = omega (arith, h)
shown_reply (Fetched all) n shown Neither inside h = omega arith
shown_reply (Fetched all) n shown (Running opening) inside h = omega arith
shown_reply (Fetched all) n shown (Halted opening stop) inside h = omega (arith, inside.1)
shown_reply Unknown n shown s inside h = omega (arith, h)
shown_reply told_as.Taken n shown s inside h = omega (arith, h)
shown_reply NotRunning n shown s inside h = omega (arith, h)

shown_deed : (a : Option Asking) (n shown : ℕ) (s : State) → IsWithin s n → shown ≤ n → shown_asked a (suc n) s shown ≤ suc n
shown_deed None n shown s inside h = omega (arith, h)
shown_deed (Some asking) n shown s inside h = shown_reply asking.reply n shown s inside h

shown_within : (client : ℕ) (name : List ℕ) (history : List Deed) → shown_upto client name history ≤ length history
shown_within client name [] = omega arith
shown_within client name (deed ∷ past) =
    shown_deed (asked_of client name deed) (length past) (shown_upto client name past) (state client name past)
    (within client name past) (shown_within client name past)

-- a step on a query changes no result
rows_still : (client : ℕ) (name : List ℕ) (deed : Deed) (past : List Deed) (asking : Asking) (question : Question)
    → asked_of client name deed ≡ Some asking → rows_of question (deed ∷ past) ≡ rows_of question past
rows_still client name (Asked own seq ask reply) past asking question e = refl
rows_still client name (Call own to seq ask reply made) past asking question e = absurd (cc)
rows_still client name (Taken change verdict) past asking question e = absurd (cc)
rows_still client name (Gave to what) past asking question e = absurd (cc)
rows_still client name (Imaged image) past asking question e = absurd (cc)
rows_still client name (Reported report) past asking question e = absurd (cc)
rows_still client name (Heard report) past asking question e = absurd (cc)
rows_still client name (Swept moment expired) past asking question e = absurd (cc)

abbrev shown_in : State → ℕ → List Deed → Option Rows
shown_in s place history = result_shown (opening_of s) place history

-- ---- one step

module _ (client : ℕ) (name : List ℕ) (deed : Deed) (past : List Deed) (law : IsAnswered (deed ∷ past)) where
  abbrev whole : List Deed
  whole = deed ∷ past

  abbrev waits : List Event
  waits = waiting client name past

  -- a query that runs, once all is handed out
  fetched_running : (opening : Opening) (asking : Asking) (more : List Event) → asked_of client name deed ≡ Some asking
      → asking.reply ≡ Fetched more → state client name whole ≡ Running opening
      → held client name whole ≡ Some (map_of (rows_of opening.question whole))
  fetched_running opening asking more e told runs =
      held_played client name whole law
      ∙ ap (λ s. rows_played s (handed client name whole)) runs
      ∙ ap (λ all. Some (followed (map_of opening.rows) all))
      (handed_out client name whole law asking e (more, told) ∙ ap (λ s. since_opening s whole) runs)
      ∙ ap (λ rows. Some rows) (kept_up_as_maps client name whole law opening runs)

  -- a stopped one
  fetched_halted : (opening : Opening) (stop : ℕ) (asking : Asking) (more : List Event) → asked_of client name deed ≡ Some asking
      → asking.reply ≡ Fetched more → state client name whole ≡ Halted opening stop
      → held client name whole ≡ Some (map_of (rows_of opening.question (at_place stop whole)))
  fetched_halted opening stop asking more e told stopped =
      let tail : List Deed = at_place stop whole in
      held_played client name whole law
      ∙ ap (λ s. rows_played s (handed client name whole)) stopped
      ∙ ap (λ all. Some (followed (map_of opening.rows) all))
      (handed_out client name whole law asking e (more, told) ∙ ap (λ s. since_opening s whole) stopped
      ∙ ap (events_from opening.question opening.place) (sym (at_end tail)))
      ∙ ap (λ rows. Some rows) (kept_up_as_maps client name tail (answered_at stop whole law) opening (ran client name whole opening stop
      stopped))

  -- where nothing is opened, closed or handed out
  left_alone : held client name past ≡ shown_in (state client name past) (shown_upto client name past) past
      → held client name past ≡ shown_in (state client name past) (shown_upto client name past) whole
  left_alone before =
      before ∙ sym (at_state (state client name past))
    where
      at_state : (s : State) → shown_in s (shown_upto client name past) whole ≡ shown_in s (shown_upto client name past) past
      at_state Neither = refl
      at_state (Running opening) = ap (λ h. Some (map_of (rows_of opening.question h))) (at_before (shown_upto client name past) deed past
          (shown_within client name past))
      at_state (Halted opening stop) = ap (λ h. Some (map_of (rows_of opening.question h))) (at_before (shown_upto client name past) deed
          past (shown_within client name past))

  abbrev told_by : QueryAsk → State → QueryReply
  told_by ask s = answer ask past s waits

  abbrev asks : QueryAsk → State → Asking
  asks ask s = record { ask = ask; reply = told_by ask s }

  abbrev IsShownBehind : QueryAsk → State → Type 0
  IsShownBehind ask s =
      with_reply (told_by ask s) (held client name past)
      ≡ shown_in (after_asking ask (told_by ask s) (length past) s) (shown_after (told_by ask s) (suc (length past)) s (shown_upto client
      name past)) whole

  shown_behind : (ask : QueryAsk) (s : State) → asked_of client name deed ≡ Some (asks ask s) → state client name past ≡ s
      → held client name past ≡ shown_in s (shown_upto client name past) whole → IsShownBehind ask s
  shown_behind (Enrol own question) Neither e is before =
      ap (λ rows. Some (map_of rows))
      (sym (ap (rows_of question) (at_end whole) ∙ rows_still client name deed past (asks (Enrol own question) Neither) question e))
  shown_behind (Enrol own question) (Running opening) e is before = before
  shown_behind (Enrol own question) (Halted opening stop) e is before = before
  shown_behind (Stop own) Neither e is before = before
  shown_behind (Stop own) (Running opening) e is before = before
  shown_behind (Stop own) (Halted opening stop) e is before = before
  shown_behind (Close own) Neither e is before = before
  shown_behind (Close own) (Running opening) e is before = refl
  shown_behind (Close own) (Halted opening stop) e is before = refl
  shown_behind (Fetch own) Neither e is before = before
  shown_behind (Fetch own) (Running opening) e is before =
      let asking = asks (Fetch own) (Running opening) in
      let runs : state client name whole ≡ Running opening =
      ap (λ a. after_asked a (length past) (state client name past)) e ∙ ap (after_asking (Fetch own) (Fetched waits) (length past)) is in
      ap (with_reply (Fetched waits)) refl
      ∙ sym (held_deed client name deed (held_after client past) ∙ ap (λ a. after_reply a (held client name past)) e)
      ∙ fetched_running opening asking waits e refl runs
      ∙ ap (λ h. Some (map_of (rows_of opening.question h))) (sym (at_end whole))
  shown_behind (Fetch own) (Halted opening stop) e is before =
      let asking = asks (Fetch own) (Halted opening stop) in
      let stopped : state client name whole ≡ Halted opening stop =
      ap (λ a. after_asked a (length past) (state client name past)) e ∙ ap (after_asking (Fetch own) (Fetched waits) (length past)) is in
      sym (held_deed client name deed (held_after client past) ∙ ap (λ a. after_reply a (held client name past)) e)
      ∙ fetched_halted opening stop asking waits e refl stopped

  abbrev IsShownIf : State → Option Asking → Type 0
  IsShownIf s a = after_reply a (held client name past)
      ≡ shown_in (after_asked a (length past) s) (shown_asked a (suc (length past)) s (shown_upto client name past)) whole

  shown_step : held client name past ≡ shown_in (state client name past) (shown_upto client name past) past
      → held client name whole ≡ shown_in (state client name whole) (shown_upto client name whole) whole
  shown_step before =
      held_deed client name deed (held_after client past) ∙ at_asked (asked_of client name deed) refl
    where
      s : State
      s = state client name past

      at_asked : (a : Option Asking) → asked_of client name deed ≡ a → IsShownIf s (asked_of client name deed)
      at_asked None e = subst (IsShownIf s) (sym e) (left_alone before)
      at_asked (Some asking) e =
          let told : asking.reply ≡ told_by asking.ask s = asked_reply client name deed past asking e law.0 in
          let is : asked_of client name deed ≡ Some (asks asking.ask s) = e ∙ asking_eta asking (told_by asking.ask s) told in
          subst (IsShownIf s) (sym is) (shown_behind asking.ask s is refl (left_alone before))

-- So it is after each history whose steps on queries were answered lawfully.
pub holds_results : (client : ℕ) (history : List Deed) → IsAnswered history → HoldsResults client history
holds_results client [] law name = finite.get-empty (slice_cmp nat_cmp) name
holds_results client (deed ∷ past) law name = shown_step client name deed past law (holds_results client past law.1 name)
