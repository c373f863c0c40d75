-- The open queries stay in step with a history: told of the turned keys at each deed, and changed where a client asks.
use Rattle.std.proofs.Common.{suc, ◌≡◌, ℕ, ◌≤◌, List, [], ◌∷◌, ◌++◌, Bool, true, false, refl, sym, ap, ◌∙◌, subst, arith}
use Rattle.std.proofs.Common.{bytes_eq}
use Rattle.std.proofs.Common.{append-nil, if◌then◌else◌}
use Rattle.std.specs.Prelude.{Option, Some, None, length, option_map}
use Rattle.std.proofs.lemmas.Bool.Decides.{nat_tests}
use Rattle.std.proofs.lemmas.Slice.Eq.{bytes_eq-Decides}
use Rattle.gr_oql.specs.declared.event.Event.{Event}
use Rattle.gr_oql.specs.Question.{Question}
use Rattle.gr_oql.specs.Events.{told_all}
use Rattle.gr_cq.specs.Entries.{Kept, Entry, find, kept_opened, kept_noted, noted, enrolled, changed_at, kept_stopped, kept_taken, closed}
use Rattle.gr_cq.specs.Entries.{is_same_query}
use Rattle.gr_cq.proofs.Pairs.{find_noted, find_enrolled, find_unenrolled, find_changed, find_unchanged, find_closed, find_unclosed}
use Rattle.gr_history.specs.declared.query_ask.QueryAsk.{QueryAsk}
use Rattle.gr_history.specs.declared.query_ask.QueryAsk.TheVariants.{Enrol, Stop, Close, Fetch}
use Rattle.gr_history.specs.declared.query_reply.QueryReply.{QueryReply}
use Rattle.gr_history.specs.declared.deed.Deed.{Deed}
use Rattle.gr_history.specs.declared.deed.Deed.TheVariants.{Asked}
use Rattle.gr_history.specs.Turned.{turned, events_at}
use Rattle.gr_history.specs.Queries.{name_of, Asking, State, Neither, Running, Halted, after_asked, state, behind_fetched}
use Rattle.gr_history.specs.Queries.{fetched_upto, waiting_in, waiting, rows_of, answer, query_gives}
use Rattle.gr_law.proofs.Waiting.{IsWithin, within, fetched_within, noted_in, waits_on, waits_fetched, waits_stopped, waits_opened}
use Rattle.gr_law.proofs.Waiting.{noted_none}
use Rattle.gr_law.proofs.KeptUp.{IsQuiet}
use Rattle.gr_shard.specs.InStep.{kept_in, IsInStep, IsUnasked, rows_of_ask, reply_by, where_found, is_running, served}

-- What is kept of the query that is asked, and of another.
abbrev kept_served : QueryAsk → Option Kept → Option Kept
kept_served (Enrol name question) None = Some (kept_opened question)
kept_served (Enrol name question) (Some kept) = Some kept
kept_served (Stop name) None = None
kept_served (Stop name) (Some kept) = if kept.runs then Some (kept_stopped kept) else Some kept
kept_served (Close name) kept = None
kept_served (Fetch name) None = None
kept_served (Fetch name) (Some kept) = Some (kept_taken kept)

find_served : (client : ℕ) (ask : QueryAsk) (entries : List Entry)
    → find client (name_of ask) (served client ask entries) ≡ kept_served ask (find client (name_of ask) entries)
find_served client (Enrol name question) entries = at_found (find client name entries) refl
  where
    at_found : (o : Option Kept) → find client name entries ≡ o
        → find client name (where_found o entries (enrolled client name question entries)) ≡ kept_served (Enrol name question) o
    at_found None e = find_enrolled client name question entries e
    at_found (Some kept) e = e
find_served client (Stop name) entries = at_found (find client name entries) refl
  where
    stopped_at : (b : Bool) (kept : Kept) → kept.runs ≡ b → find client name entries ≡ Some kept
        → find client name (if b then changed_at client name kept_stopped entries else entries)
        ≡ (if b then Some (kept_stopped kept) else Some kept)
    stopped_at true kept runs e = find_changed kept_stopped client name entries ∙ ap (option_map kept_stopped) e
    stopped_at false kept runs e = e

    at_found : (o : Option Kept) → find client name entries ≡ o
        → find client name (if is_running o then changed_at client name kept_stopped entries else entries) ≡ kept_served (Stop name) o
    at_found None e = e
    at_found (Some kept) e = stopped_at kept.runs kept refl e
find_served client (Close name) entries = at_found (find client name entries) refl
  where
    at_found : (o : Option Kept) → find client name entries ≡ o
        → find client name (where_found o (closed client name entries) entries) ≡ None
    at_found None e = e
    at_found (Some kept) e = find_closed client name entries
find_served client (Fetch name) entries = at_found (find client name entries) refl
  where
    at_found : (o : Option Kept) → find client name entries ≡ o
        → find client name (where_found o (changed_at client name kept_taken entries) entries) ≡ kept_served (Fetch name) o
    at_found None e = e
    at_found (Some kept) e = find_changed kept_taken client name entries ∙ ap (option_map kept_taken) e

find_unserved : (client two : ℕ) (ask : QueryAsk) (other : List ℕ) (entries : List Entry)
    → is_same_query client (name_of ask) two other ≡ false → find two other (served client ask entries) ≡ find two other entries
find_unserved client two (Enrol name question) other entries apart = at_found (find client name entries)
  where
    at_found : (o : Option Kept)
        → find two other (where_found o entries (enrolled client name question entries)) ≡ find two other entries
    at_found None = find_unenrolled client two name other question entries apart
    at_found (Some kept) = refl
find_unserved client two (Stop name) other entries apart = stopped_at (is_running (find client name entries))
  where
    stopped_at : (b : Bool)
        → find two other (if b then changed_at client name kept_stopped entries else entries) ≡ find two other entries
    stopped_at true = find_unchanged kept_stopped client two name other entries apart
    stopped_at false = refl
find_unserved client two (Close name) other entries apart = at_found (find client name entries)
  where
    at_found : (o : Option Kept)
        → find two other (where_found o (closed client name entries) entries) ≡ find two other entries
    at_found None = refl
    at_found (Some kept) = find_unclosed client two name other entries apart
find_unserved client two (Fetch name) other entries apart = at_found (find client name entries)
  where
    at_found : (o : Option Kept)
        → find two other (where_found o (changed_at client name kept_taken entries) entries) ≡ find two other entries
    at_found None = refl
    at_found (Some kept) = find_unchanged kept_taken client two name other entries apart

-- A deed that asks nothing: the queries are told of its turned keys.
kept_on : (s : State) (fetched : ℕ) (deed : Deed) (past : List Deed) → IsWithin s (length past) → fetched ≤ length past
    → kept_in s (waiting_in s fetched (deed ∷ past)) ≡ option_map (kept_noted (turned deed past)) (kept_in s (waiting_in s fetched past))
kept_on Neither fetched deed past inside f = refl
kept_on (Running opening) fetched deed past inside f = ap (kept_in (Running opening)) (waits_on (Running opening) fetched deed past
    inside f)
kept_on (Halted opening stop) fetched deed past inside f =
    ap (kept_in (Halted opening stop))
    (waits_on (Halted opening stop) fetched deed past inside f ∙ sym (append-nil (waiting_in (Halted opening stop) fetched past)))

abbrev kept_behind : Option Asking → State → ℕ → Deed → List Deed → Option Kept
kept_behind a s fetched deed past =
    kept_in (after_asked a (length past) s)
    (waiting_in (after_asked a (length past) s) (behind_fetched a (length past) fetched) (deed ∷ past))

pub noted_in_step : (deed : Deed) (past : List Deed) (entries : List Entry) → IsUnasked deed → IsInStep entries past
    → IsInStep (noted (turned deed past) entries) (deed ∷ past)
noted_in_step deed past entries unasked in_step client name =
    find_noted (turned deed past) client name entries
    ∙ ap (option_map (kept_noted (turned deed past))) (in_step client name)
    ∙ sym (kept_on (state client name past) (fetched_upto client name past) deed past (within client name past)
    (fetched_within client name past))
    ∙ ap (λ a. kept_behind a (state client name past) (fetched_upto client name past) deed past) (sym (unasked client name))

-- A client is answered what the past gives,
replied_by : (ask : QueryAsk) (past : List Deed) (s : State) (waits : List Event)
    → reply_by ask (rows_of_ask ask past) (kept_in s waits) ≡ answer ask past s waits
replied_by (Enrol name question) past Neither waits = refl
replied_by (Enrol name question) past (Running opening) waits = refl
replied_by (Enrol name question) past (Halted opening stop) waits = refl
replied_by (Stop name) past Neither waits = refl
replied_by (Stop name) past (Running opening) waits = refl
replied_by (Stop name) past (Halted opening stop) waits = refl
replied_by (Close name) past Neither waits = refl
replied_by (Close name) past (Running opening) waits = refl
replied_by (Close name) past (Halted opening stop) waits = refl
replied_by (Fetch name) past Neither waits = refl
replied_by (Fetch name) past (Running opening) waits = refl
replied_by (Fetch name) past (Halted opening stop) waits = refl

pub served_reply : (client : ℕ) (ask : QueryAsk) (past : List Deed) (entries : List Entry) → IsInStep entries past
    → reply_by ask (rows_of_ask ask past) (find client (name_of ask) entries) ≡ query_gives client ask past
served_reply client ask past entries in_step =
    ap (reply_by ask (rows_of_ask ask past)) (in_step client (name_of ask))
    ∙ replied_by ask past (state client (name_of ask) past) (waiting client (name_of ask) past)

-- and the queries are in step afterwards.
module _ (deed : Deed) (past : List Deed) where
  abbrev KeptAt : QueryAsk → State → ℕ → Type 0
  KeptAt ask s fetched =
      kept_served ask (kept_in s (waiting_in s fetched past))
      ≡ kept_behind (Some (record { ask = ask; reply = answer ask past s (waiting_in s fetched past) })) s fetched deed past

  kept_quiet : (s : State) (fetched : ℕ) → IsWithin s (length past) → fetched ≤ length past → IsQuiet deed past
      → kept_in s (waiting_in s fetched past) ≡ kept_in s (waiting_in s fetched (deed ∷ past))
  kept_quiet s fetched inside f quiet =
      ap (kept_in s) (sym (waits_on s fetched deed past inside f ∙ noted_none s deed past (waiting_in s fetched past) quiet))

  kept_asked : (ask : QueryAsk) (s : State) (fetched : ℕ) → IsWithin s (length past) → fetched ≤ length past → IsQuiet deed past
      → KeptAt ask s fetched
  kept_asked (Enrol name question) Neither fetched inside f quiet =
      ap (λ waits. Some (record { question = question; runs = true; waiting = waits }))
      (sym (waits_opened (record { question = question; rows = rows_of question past; place = suc (length past) }) fetched deed past
      refl))
  kept_asked (Enrol name question) (Running opening) fetched inside f quiet = kept_quiet (Running opening) fetched inside f quiet
  kept_asked (Enrol name question) (Halted opening stop) fetched inside f quiet = kept_quiet (Halted opening stop) fetched inside f quiet
  kept_asked (Stop name) Neither fetched inside f quiet = refl
  kept_asked (Stop name) (Running opening) fetched inside f quiet =
      ap (kept_in (Halted opening (length past))) (sym (waits_stopped opening fetched deed past))
  kept_asked (Stop name) (Halted opening stop) fetched inside f quiet = kept_quiet (Halted opening stop) fetched inside f quiet
  kept_asked (Close name) Neither fetched inside f quiet = refl
  kept_asked (Close name) (Running opening) fetched inside f quiet = refl
  kept_asked (Close name) (Halted opening stop) fetched inside f quiet = refl
  kept_asked (Fetch name) Neither fetched inside f quiet = refl
  kept_asked (Fetch name) (Running opening) fetched inside f quiet =
      ap (kept_in (Running opening)) (sym (waits_fetched (Running opening) deed past inside))
  kept_asked (Fetch name) (Halted opening stop) fetched inside f quiet =
      ap (kept_in (Halted opening stop)) (sym (waits_fetched (Halted opening stop) deed past inside))

pub served_in_step : (client seq : ℕ) (ask : QueryAsk) (reply : QueryReply) (past : List Deed) (entries : List Entry)
    → IsInStep entries past → reply ≡ query_gives client ask past
    → IsInStep (served client ask entries) (Asked client seq ask reply ∷ past)
served_in_step client seq ask reply past entries in_step replies two other = at_query (is_same_query client (name_of ask) two other) refl
  where
    deed : Deed
    deed = Asked client seq ask reply

    here : find client (name_of ask) (served client ask entries)
        ≡ kept_behind (Some (record { ask = ask; reply = reply })) (state client (name_of ask) past)
        (fetched_upto client (name_of ask) past) (Asked client seq ask reply) past
    here = find_served client ask entries ∙ ap (kept_served ask) (in_step client (name_of ask))
        ∙ kept_asked (Asked client seq ask reply) past ask (state client (name_of ask) past) (fetched_upto client (name_of ask) past)
        (within client (name_of ask) past) (fetched_within client (name_of ask) past) (λ key. refl)
        ∙ ap (λ r. kept_behind (Some (record { ask = ask; reply = r })) (state client (name_of ask) past)
        (fetched_upto client (name_of ask) past) (Asked client seq ask reply) past) (sym replies)

    at_query : (b : Bool) → is_same_query client (name_of ask) two other ≡ b
        → find two other (served client ask entries)
        ≡ kept_behind (if b then Some (record { ask = ask; reply = reply }) else None) (state two other past) (fetched_upto two other
        past)
        (Asked client seq ask reply) past
    at_query true e =
        let same_client : client ≡ two = grind (arith, nat_tests) in
        let names : bytes_eq (name_of ask) other ≡ true = grind arith in
        let same_name : name_of ask ≡ other = (bytes_eq-Decides (name_of ask) other).0 names in
        subst (λ c. find c other (served client ask entries)
        ≡ kept_behind (Some (record { ask = ask; reply = reply })) (state c other past) (fetched_upto c other past)
        (Asked client seq ask reply) past) same_client
        (subst (λ n. find client n (served client ask entries)
        ≡ kept_behind (Some (record { ask = ask; reply = reply })) (state client n past) (fetched_upto client n past)
        (Asked client seq ask reply) past) same_name here)
    at_query false e =
        find_unserved client two ask other entries e ∙ in_step two other
        ∙ kept_quiet (Asked client seq ask reply) past (state two other past) (fetched_upto two other past) (within two other past)
        (fetched_within two other past) (λ key. refl)

-- A shard with no deeds has no queries.
pub new_in_step : IsInStep [] []
new_in_step client name = refl

-- A deed that tells no query anything, as a sweep, leaves all as it is.
pub untold_in_step : (deed : Deed) (past : List Deed) (entries : List Entry) → IsUnasked deed
    → ((question : Question) → events_at question deed past ≡ []) → IsInStep entries past → IsInStep entries (deed ∷ past)
untold_in_step deed past entries unasked none in_step client name =
    in_step client name
    ∙ ap (kept_in (state client name past)) (sym (noted_nothing (state client name past) (waiting client name past)))
    ∙ ap (kept_in (state client name past)) (sym (waits_on (state client name past) (fetched_upto client name past) deed past
    (within client name past) (fetched_within client name past)))
    ∙ ap (λ a. kept_behind a (state client name past) (fetched_upto client name past) deed past) (sym (unasked client name))
  where
    noted_nothing : (s : State) (all : List Event) → noted_in s deed past all ≡ all
    noted_nothing Neither all = refl
    noted_nothing (Running opening) all = ap (λ more. all ++ more) (none opening.question) ∙ append-nil all
    noted_nothing (Halted opening stop) all = refl

-- So does a deed that turns no key.
pub quiet_in_step : (deed : Deed) (past : List Deed) (entries : List Entry) → IsUnasked deed → turned deed past ≡ []
    → IsInStep entries past → IsInStep entries (deed ∷ past)
quiet_in_step deed past entries unasked none in_step =
    untold_in_step deed past entries unasked (λ question. ap (told_all question) none) in_step
