-- Whether a query is open is told by what was asked alone.
use Rattle.std.proofs.Common.{map, ◌≡◌, ℕ, List, [], ◌∷◌, ◌++◌, Bool, true, false, ◌&&◌, ◌==◌, refl, sym, ap, ◌∙◌, subst, bytes_eq, if◌then◌else◌}
use Rattle.std.specs.Prelude.{Option, Some, None, filter, length, reverse, get_or}
use Rattle.std.proofs.lemmas.List.{reverse-append}
use Rattle.gr_oql.specs.declared.event.Event.{Event}
use Rattle.gr_history.specs.declared.query_ask.QueryAsk.{QueryAsk}
use Rattle.gr_history.specs.declared.query_ask.QueryAsk.TheVariants.{Enrol, Stop, Close, Fetch}
use Rattle.gr_history.specs.declared.deed.Deed.{Deed}
use Rattle.gr_history.specs.declared.deed.Deed.TheVariants.{Call, Taken, Gave, Imaged, Reported, Asked, Heard, Swept}
use Rattle.gr_value.specs.Shard.{shard_of}
use Rattle.gr_history.specs.Asks.{key_of}
use Rattle.gr_history.specs.declared.query_reply.QueryReply.TheVariants.{Unknown}
use Rattle.gr_history.specs.Deeds.{is_of_client}
use Rattle.gr_history.specs.Queries.{name_of, Asking, asked_of, Opening, State, Neither, Running, Halted, after_asking, after_asked}
use Rattle.gr_history.specs.Queries.{state, waiting, answer}
use Rattle.gr_law.specs.Queries.{IsAnswered, IsLawfulAsked}
use Rattle.gr_law.proofs.Waiting.{asked_reply}
use Rattle.gr_world.specs.Served.{Served, Called, Queried, Looked, all_deeds_of, deeds_of, step_of}
use Rattle.gr_world.proofs.Events.{same_number}
use Rattle.gr_durable.specs.Steps.{is_open_behind, opens}
use Rattle.gr_durable.proofs.Played.{asking_eta}

abbrev pub is_open : State → Bool
is_open Neither = false
is_open (Running opening) = true
is_open (Halted opening stop) = true

abbrev pub opens_asked : Option Asking → Bool → Bool
opens_asked None before = before
opens_asked (Some asking) before = opens asking.ask before

open_asking : (ask : QueryAsk) (past : List Deed) (place : ℕ) (waits : List Event) (s : State)
    → is_open (after_asking ask (answer ask past s waits) place s) ≡ opens ask (is_open s)
open_asking (Enrol name question) past place waits Neither = refl
open_asking (Enrol name question) past place waits (Running opening) = refl
open_asking (Enrol name question) past place waits (Halted opening stop) = refl
open_asking (Stop name) past place waits Neither = refl
open_asking (Stop name) past place waits (Running opening) = refl
open_asking (Stop name) past place waits (Halted opening stop) = refl
open_asking (Close name) past place waits Neither = refl
open_asking (Close name) past place waits (Running opening) = refl
open_asking (Close name) past place waits (Halted opening stop) = refl
open_asking (Fetch name) past place waits Neither = refl
open_asking (Fetch name) past place waits (Running opening) = refl
open_asking (Fetch name) past place waits (Halted opening stop) = refl

abbrev IsOpenIf : ℕ → State → Option Asking → Type 0
IsOpenIf n s a = is_open (after_asked a n s) ≡ opens_asked a (is_open s)

open_deed : (client : ℕ) (name : List ℕ) (deed : Deed) (past : List Deed) → IsLawfulAsked deed past
    → is_open (state client name (deed ∷ past)) ≡ opens_asked (asked_of client name deed) (is_open (state client name past))
open_deed client name deed past law = at_asked (asked_of client name deed) refl
  where
    s : State
    s = state client name past

    at_asked : (a : Option Asking) → asked_of client name deed ≡ a → IsOpenIf (length past) s (asked_of client name deed)
    at_asked None e = subst (IsOpenIf (length past) s) (sym e) refl
    at_asked (Some asking) e =
        let told : asking.reply ≡ answer asking.ask past s (waiting client name past) = asked_reply client name deed past asking e law in
        subst (IsOpenIf (length past) s) (sym (e ∙ asking_eta asking (answer asking.ask past s (waiting client name past)) told))
        (open_asking asking.ask past (length past) (waiting client name past) s)

-- ---- the oldest deed first

abbrev pub open_after : ℕ → List ℕ → Bool → List Deed → Bool
open_after client name before [] = before
open_after client name before (deed ∷ deeds) = open_after client name (opens_asked (asked_of client name deed) before) deeds

open_append : (client : ℕ) (name : List ℕ) (before : Bool) (xs ys : List Deed)
    → open_after client name before (xs ++ ys) ≡ open_after client name (open_after client name before xs) ys
open_append client name before [] ys = refl
open_append client name before (deed ∷ xs) ys = open_append client name (opens_asked (asked_of client name deed) before) xs ys

pub open_history : (client : ℕ) (name : List ℕ) (history : List Deed) → IsAnswered history
    → is_open (state client name history) ≡ open_after client name false (reverse history)
open_history client name [] law = refl
open_history client name (deed ∷ past) law =
    open_deed client name deed past law.0
    ∙ ap (opens_asked (asked_of client name deed)) (open_history client name past law.1)
    ∙ sym (open_append client name false (reverse past) (deed ∷ []))
    ∙ ap (open_after client name false) (sym (reverse-append (deed ∷ []) past))

pub not_asked : (client : ℕ) (name : List ℕ) (deed : Deed) → is_of_client client deed ≡ false → asked_of client name deed ≡ None
not_asked client name (Asked own seq ask reply) e =
    ap (λ b. if b && bytes_eq (name_of ask) name then Some (record { ask = ask; reply = reply }) else None) e
not_asked client name (Call own to seq ask reply made) e = refl
not_asked client name (Taken change verdict) e = refl
not_asked client name (Gave to what) e = refl
not_asked client name (Imaged image) e = refl
not_asked client name (Reported report) e = refl
not_asked client name (Heard report) e = refl
not_asked client name (Swept moment expired) e = refl

-- only the client's own deeds count
pub open_own : (client : ℕ) (name : List ℕ) (before : Bool) (deeds : List Deed)
    → open_after client name before deeds ≡ open_after client name before (filter (is_of_client client) deeds)
open_own client name before [] = refl
open_own client name before (deed ∷ deeds) =
    at_test (is_of_client client deed) (λ b. open_own client name b deeds) refl
  where
    at_test : (t : Bool)
        → ((b : Bool) → open_after client name b deeds ≡ open_after client name b (filter (is_of_client client) deeds)) → is_of_client client deed ≡ t
        → open_after client name (opens_asked (asked_of client name deed) before) deeds
        ≡ open_after client name before (if t then deed ∷ filter (is_of_client client) deeds else filter (is_of_client client) deeds)
    at_test true rest e = rest (opens_asked (asked_of client name deed) before)
    at_test false rest e =
        ap (λ a. open_after client name (opens_asked a before) deeds) (not_asked client name deed e)
        ∙ rest before

-- ---- what a client asked

-- It is the same at every shard.
pub open_everywhere : (client shards shard : ℕ) (name : List ℕ) (before : Bool) (served : List Served)
    → open_after client name before (all_deeds_of client shards shard served) ≡ is_open_behind name before (map step_of served)
open_everywhere client shards shard name before [] = refl
open_everywhere client shards shard name before (Called number ask reply made to ∷ served) =
    at_test (shard == shard_of (key_of ask) shards) (open_everywhere client shards shard name before served)
  where
    at_test : (t : Bool)
        → open_after client name before (all_deeds_of client shards shard served) ≡ is_open_behind name before (map step_of served)
        → open_after client name before ((if t then Call client to number ask reply made ∷ [] else []) ++ all_deeds_of client shards shard
        served) ≡ is_open_behind name before (map step_of served)
    at_test true rest = rest
    at_test false rest = rest
open_everywhere client shards shard name before (Queried number ask replies ∷ served) =
    let reply = get_or replies shard Unknown in
    ap (λ b. open_after client name (opens_asked (if b && bytes_eq (name_of ask) name then Some (record { ask = ask; reply = reply })
    else None) before) (all_deeds_of client shards shard served)) (same_number client)
    ∙ at_test (bytes_eq (name_of ask) name) (λ b. open_everywhere client shards shard name b served)
  where
    at_test : (t : Bool)
        → ((b : Bool) → open_after client name b (all_deeds_of client shards shard served) ≡ is_open_behind name b (map step_of served))
        → open_after client name (opens_asked (if t then Some (record { ask = ask; reply = get_or replies shard Unknown }) else None)
        before) (all_deeds_of client shards shard served) ≡ is_open_behind name (if t then opens ask before else before) (map step_of served)
    at_test true rest = rest (opens ask before)
    at_test false rest = rest before
open_everywhere client shards shard name before (Looked number peek ∷ served) =
    open_everywhere client shards shard name before served
