-- By each shard a client holds what its answers leave.
use Rattle.std.proofs.Common.{map, ◌≡◌, ℕ, ◌<◌, List, [], ◌∷◌, ◌++◌, Bool, true, false, ◌&&◌, ◌==◌, refl, sym, ap, ◌∙◌, subst, bytes_eq, if◌then◌else◌, arith}
use Rattle.std.specs.Prelude.{Option, Some, None, filter, get_or, length, reverse}
use Rattle.std.specs.Ordering.{nat_cmp}
use Rattle.std.specs.Cmp.Lexicographic.{slice_cmp}
use Rattle.std.specs.FinMap as finite
use Rattle.std.proofs.lemmas.List.{reverse-append}
use Rattle.gr_value.specs.Shard.{shard_of}
use Rattle.gr_history.specs.Asks.{key_of}
use Rattle.gr_history.specs.declared.deed.Deed.{Deed}
use Rattle.gr_history.specs.declared.deed.Deed.TheVariants.{Call}
use Rattle.gr_history.specs.declared.query_reply.QueryReply.TheVariants.{Unknown}
use Rattle.gr_history.specs.declared.record.ClientRecord.{ClientRecord}
use Rattle.gr_history.specs.declared.record.Record.{Record}
use Rattle.gr_history.specs.Deeds.{is_of_client}
use Rattle.gr_history.specs.Queries.{name_of, asked_of}
use Rattle.gr_law.specs.Grids.{Among}
use Rattle.gr_law.specs.QueryMaps.{Rows}
use Rattle.gr_script.specs.declared.line.Line.{Line}
use Rattle.gr_script.specs.Rules.{Heading, IsStated, home_of}
use Rattle.gr_script.specs.Steps.{steps_of}
use Rattle.gr_world.specs.Served.{Served, Called, Queried, Looked, HasServed, all_deeds_of, answer_of, client_of, histories_in, step_of}
use Rattle.gr_world.proofs.Events.{same_number}
use Rattle.gr_durable.specs.Answers.{HoldAnswers, table_behind}
use Rattle.gr_durable.specs.Tables.{held_after, with_reply}
use Rattle.gr_durable.proofs.Openness.{not_asked}
use Rattle.gr_durable.proofs.Played.{after_reply, held, held_deed}
use Rattle.gr_durable.proofs.Shown.{among_numbers}

-- the oldest deed first
abbrev rows_after : ℕ → List ℕ → Option Rows → List Deed → Option Rows
rows_after client name before [] = before
rows_after client name before (deed ∷ deeds) = rows_after client name (after_reply (asked_of client name deed) before) deeds

rows_append : (client : ℕ) (name : List ℕ) (before : Option Rows) (xs ys : List Deed)
    → rows_after client name before (xs ++ ys) ≡ rows_after client name (rows_after client name before xs) ys
rows_append client name before [] ys = refl
rows_append client name before (deed ∷ xs) ys = rows_append client name (after_reply (asked_of client name deed) before) xs ys

rows_history : (client : ℕ) (name : List ℕ) (history : List Deed)
    → held client name history ≡ rows_after client name None (reverse history)
rows_history client name [] = finite.get-empty (slice_cmp nat_cmp) name
rows_history client name (deed ∷ past) =
    held_deed client name deed (held_after client past)
    ∙ ap (after_reply (asked_of client name deed)) (rows_history client name past)
    ∙ sym (rows_append client name None (reverse past) (deed ∷ []))
    ∙ ap (rows_after client name None) (sym (reverse-append (deed ∷ []) past))

rows_own : (client : ℕ) (name : List ℕ) (before : Option Rows) (deeds : List Deed)
    → rows_after client name before deeds ≡ rows_after client name before (filter (is_of_client client) deeds)
rows_own client name before [] = refl
rows_own client name before (deed ∷ deeds) =
    at_test (is_of_client client deed) (λ b. rows_own client name b deeds) refl
  where
    at_test : (t : Bool)
        → ((b : Option Rows) → rows_after client name b deeds ≡ rows_after client name b (filter (is_of_client client) deeds))
        → is_of_client client deed ≡ t
        → rows_after client name (after_reply (asked_of client name deed) before) deeds
        ≡ rows_after client name before (if t then deed ∷ filter (is_of_client client) deeds else filter (is_of_client client) deeds)
    at_test true rest e = rest (after_reply (asked_of client name deed) before)
    at_test false rest e =
        ap (λ a. rows_after client name (after_reply a before) deeds) (not_asked client name deed e)
        ∙ rest before

rows_served : (client shards shard : ℕ) (name : List ℕ) (before : Option Rows) (served : List Served)
    → rows_after client name before (all_deeds_of client shards shard served)
    ≡ table_behind name shard before (map step_of served) (map answer_of served)
rows_served client shards shard name before [] = refl
rows_served client shards shard name before (Called number ask reply made to ∷ served) =
    at_test (shard == shard_of (key_of ask) shards) (rows_served client shards shard name before served)
  where
    at_test : (t : Bool)
        → rows_after client name before (all_deeds_of client shards shard served)
        ≡ table_behind name shard before (map step_of served) (map answer_of served)
        → rows_after client name before ((if t then Call client to number ask reply made ∷ [] else []) ++ all_deeds_of client shards shard
        served) ≡ table_behind name shard before (map step_of served) (map answer_of served)
    at_test true rest = rest
    at_test false rest = rest
rows_served client shards shard name before (Queried number ask replies ∷ served) =
    let reply = get_or replies shard Unknown in
    ap (λ b. rows_after client name (after_reply (if b && bytes_eq (name_of ask) name then Some (record { ask = ask; reply = reply })
    else None) before) (all_deeds_of client shards shard served)) (same_number client)
    ∙ at_test (bytes_eq (name_of ask) name) (λ b. rows_served client shards shard name b served)
  where
    at_test : (t : Bool)
        → ((b : Option Rows) → rows_after client name b (all_deeds_of client shards shard served)
        ≡ table_behind name shard b (map step_of served) (map answer_of served))
        → rows_after client name (after_reply (if t then Some (record { ask = ask; reply = get_or replies shard Unknown }) else None)
        before) (all_deeds_of client shards shard served)
        ≡ table_behind name shard (if t then with_reply (get_or replies shard Unknown) before else before) (map step_of served) (map
        answer_of served)
    at_test true rest = rest (with_reply (get_or replies shard Unknown) before)
    at_test false rest = rest before
rows_served client shards shard name before (Looked number peek ∷ served) =
    rows_served client shards shard name before served

pub hold_answers : (heading : Heading) (lines : List Line) (left : Record) → HasServed heading lines left → HoldAnswers heading lines left
hold_answers heading lines left served one a name shard within =
    let numbered = among_numbers 1 (length heading.clients) (client_of heading served.served) one
    (subst (Among one) served.answers a) in
    let client = numbered.0 in
    let stated : IsStated client heading = (numbered.1, omega (arith, numbered.2)) in
    let past = histories_in left (home_of heading client) shard in
    subst (λ one. held one.client name (histories_in left one.member shard)
    ≡ table_behind name shard None (steps_of one.client lines) one.answers) (sym numbered.3)
    (rows_history client name past
    ∙ rows_own client name None (reverse past)
    ∙ ap (rows_after client name None) ((served.each client stated).deeds shard within)
    ∙ rows_served client heading.shards shard name None (served.served client)
    ∙ ap (λ steps. table_behind name shard None steps (map answer_of (served.served client))) (served.each client stated).steps)
