-- Threads leave the small run.
use Rattle.std.proofs.Common.{◌≡◌, ℕ, zero, suc, ◌<◌, ◌≤◌, ◌⊎◌, List, [], ◌∷◌, refl, arith, inl, inr, Option, Some, map, reverse, flat_map, length, sym, ap, subst, ne_eqb, eqb-true, ◌==◌, Bool, true, false, if◌then◌else◌}
use Rattle.std.specs.List.{filter_map}
use native.Mathlib.Decide.{ℕ_discrete}
use mathlib.Core.Logic.{dite}
use Rattle.gr_value.specs.Shard.{shard_of}
use Rattle.gr_stamp.specs.declared.change.Change.{Change}
use Rattle.gr_vector.specs.declared.report.Report.{Report}
use Rattle.gr_turn.specs.Views.{times}
use Rattle.gr_history.specs.declared.deed.Deed.{Deed}
use Rattle.gr_history.specs.declared.image.What.{What}
use Rattle.gr_history.specs.declared.image.What.TheVariants as what
use Rattle.gr_history.specs.declared.ask.Ask.{Ask}
use Rattle.gr_history.specs.declared.reply.Reply.{Reply}
use Rattle.gr_history.specs.declared.query_ask.QueryAsk.{QueryAsk}
use Rattle.gr_history.specs.declared.query_reply.QueryReply.{QueryReply}
use Rattle.gr_history.specs.declared.verdict.Verdict.{Verdict}
use Rattle.gr_history.specs.declared.image.Image.{Image}
use Rattle.gr_history.specs.declared.deed.Deed.TheVariants.{Gave, Imaged}
use Rattle.gr_history.specs.Lawful.{IsLawful}
use Rattle.gr_history.specs.Recipients.{recipients}
use Rattle.gr_law.specs.Grids.{Among, identity}
use Rattle.gr_law.specs.Integrity.{IsGift}
use Rattle.gr_post.specs.Mails.{of}
use Rattle.gr_post.specs.Plan.{delivered}
use Rattle.gr_script.specs.Rules.{IsHeading, IsMember, IsScript, IsStated, IsWithin, home_of}
use Rattle.gr_world.specs.Grids.{grid_from}
use Rattle.gr_world.specs.Rows.{one_key}
use Rattle.gr_world.specs.Events.{Peek}
use Rattle.gr_world.specs.Served.{Called, Queried, Looked, all_deeds_of}
use Rattle.gr_run_law.specs.Duties.{given_to, gift_due, duty_of}
use Rattle.gr_run_law.specs.Plans.{draws_for, courier_of, reports_posted, changes_posted}
use Rattle.gr_run_law.specs.Shares.{Owner, Client, Thread, Giver, AreShared, Stands}
use Rattle.gr_run_law.specs.Threads.{AreLeftByThreads, HeardOf, Merged, GotFrom, IsWrittenBy, IsSession, IsThread, IsMailed, LooksFit, IsLook, IsReadyBefore, work_at, duty_at, got_from, round_of, client_place, member_place}
use Rattle.gr_run_law.specs.Small.{only, three, small_lines, image_0, image_1, small_histories, small_served, small_owned, small_places, small_works, small_taken}

-- two facts as one
infixr 10 ◌&◌
◌&◌ : {P Q : Type 0} → P → Q → P × Q
p & q = (p, q)

-- ---- the three members, the two clients, and the two shards

at_three : (P : ℕ → Type 0) → P 1 → P 2 → P 3 → (m : ℕ) → IsWithin 1 3 m → P m
at_three P one two more zero is = absurd (let k = is.0 in omega arith)
at_three P one two more (suc zero) is = one
at_three P one two more (suc (suc zero)) is = two
at_three P one two more (suc (suc (suc zero))) is = more
at_three P one two more (suc (suc (suc (suc n)))) is = absurd (let k = is.1 in omega arith)

at_two : (P : ℕ → Type 0) → P 1 → P 2 → (c : ℕ) → IsWithin 1 2 c → P c
at_two P one more zero is = absurd (let k = is.0 in omega arith)
at_two P one more (suc zero) is = one
at_two P one more (suc (suc zero)) is = more
at_two P one more (suc (suc (suc n))) is = absurd (let k = is.1 in omega arith)

at_shards : (P : ℕ → Type 0) → P 0 → P 1 → (s : ℕ) → s < 2 → P s
at_shards P none one zero less = none
at_shards P none one (suc zero) less = one
at_shards P none one (suc (suc s)) less = absurd (omega arith)

-- ---- who added what

abbrev StandsAt : ℕ → ℕ → Owner → Type 0
StandsAt member shard owner =
    Stands (reverse (small_histories member shard)) 0 (small_places member shard owner) (small_owned member shard owner)

-- what is only one owner's stands for each
stands_only : (list : List Deed) (number : ℕ) (ps : List ℕ) (ds : List Deed) → Stands list 0 ps ds → (own : ℕ)
    → Stands list 0 (only number ps own) (only number ds own)
stands_only list number ps ds h own = at_test (own == number)
  where
    at_test : (b : Bool) → Stands list 0 (if b then ps else []) (if b then ds else [])
    at_test true = h
    at_test false = (let k : 0 ≤ length list = omega arith in k)

first_stands_0 : (owner : Owner) → StandsAt 1 0 owner
first_stands_0 (Client client) = stands_only (reverse (small_histories 1 0)) 1 _ _ (omega arith, refl, omega arith) client
first_stands_0 Thread = (omega arith, refl, (omega arith, refl, (omega arith, refl, omega arith)))
first_stands_0 (Giver joiner) = stands_only (reverse (small_histories 1 0)) 3 _ _ (omega arith, refl, omega arith) joiner

first_stands_1 : (owner : Owner) → StandsAt 1 1 owner
first_stands_1 (Client client) =
    stands_only (reverse (small_histories 1 1)) 1 _ _ (omega arith, refl, (omega arith, refl, omega arith)) client
first_stands_1 Thread = (omega arith, refl, (omega arith, refl, omega arith))
first_stands_1 (Giver joiner) = stands_only (reverse (small_histories 1 1)) 3 _ _ (omega arith, refl, omega arith) joiner

second_stands_0 : (owner : Owner) → StandsAt 2 0 owner
second_stands_0 (Client client) = omega arith
second_stands_0 Thread = (omega arith, refl, omega arith)
second_stands_0 (Giver joiner) = stands_only (reverse (small_histories 2 0)) 3 _ _ (omega arith, refl, omega arith) joiner

second_stands_1 : (owner : Owner) → StandsAt 2 1 owner
second_stands_1 (Client client) = omega arith
second_stands_1 Thread = (omega arith, refl, (omega arith, refl, (omega arith, refl, omega arith)))
second_stands_1 (Giver joiner) = stands_only (reverse (small_histories 2 1)) 3 _ _ (omega arith, refl, omega arith) joiner

third_stands_0 : (owner : Owner) → StandsAt 3 0 owner
third_stands_0 (Client client) = omega arith
third_stands_0 Thread = (omega arith, refl, (omega arith, refl, omega arith))
third_stands_0 (Giver joiner) = omega arith

third_stands_1 : (owner : Owner) → StandsAt 3 1 owner
third_stands_1 (Client client) = stands_only (reverse (small_histories 3 1)) 2 _ _ (omega arith, refl, omega arith) client
third_stands_1 Thread = (omega arith, refl, (omega arith, refl, (omega arith, refl, omega arith)))
third_stands_1 (Giver joiner) = omega arith

abbrev OwnedAt : ℕ → ℕ → ℕ → Type 0
OwnedAt member shard p = (owner : Owner) × (0 < times p (small_places member shard owner))

first_each_0 : (p : ℕ) → p < 5 → OwnedAt 1 0 p
first_each_0 zero less = (Client 1, omega arith)
first_each_0 (suc zero) less = (Thread, omega arith)
first_each_0 (suc (suc zero)) less = (Thread, omega arith)
first_each_0 (suc (suc (suc zero))) less = (Giver 3, omega arith)
first_each_0 (suc (suc (suc (suc zero)))) less = (Thread, omega arith)
first_each_0 (suc (suc (suc (suc (suc n))))) less = absurd (omega arith)

first_each_1 : (p : ℕ) → p < 5 → OwnedAt 1 1 p
first_each_1 zero less = (Client 1, omega arith)
first_each_1 (suc zero) less = (Client 1, omega arith)
first_each_1 (suc (suc zero)) less = (Thread, omega arith)
first_each_1 (suc (suc (suc zero))) less = (Giver 3, omega arith)
first_each_1 (suc (suc (suc (suc zero)))) less = (Thread, omega arith)
first_each_1 (suc (suc (suc (suc (suc n))))) less = absurd (omega arith)

second_each_0 : (p : ℕ) → p < 2 → OwnedAt 2 0 p
second_each_0 zero less = (Thread, omega arith)
second_each_0 (suc zero) less = (Giver 3, omega arith)
second_each_0 (suc (suc n)) less = absurd (omega arith)

second_each_1 : (p : ℕ) → p < 4 → OwnedAt 2 1 p
second_each_1 zero less = (Thread, omega arith)
second_each_1 (suc zero) less = (Thread, omega arith)
second_each_1 (suc (suc zero)) less = (Giver 3, omega arith)
second_each_1 (suc (suc (suc zero))) less = (Thread, omega arith)
second_each_1 (suc (suc (suc (suc n)))) less = absurd (omega arith)

third_each_0 : (p : ℕ) → p < 2 → OwnedAt 3 0 p
third_each_0 zero less = (Thread, omega arith)
third_each_0 (suc zero) less = (Thread, omega arith)
third_each_0 (suc (suc n)) less = absurd (omega arith)

third_each_1 : (p : ℕ) → p < 4 → OwnedAt 3 1 p
third_each_1 zero less = (Thread, omega arith)
third_each_1 (suc zero) less = (Thread, omega arith)
third_each_1 (suc (suc zero)) less = (Thread, omega arith)
third_each_1 (suc (suc (suc zero))) less = (Client 2, omega arith)
third_each_1 (suc (suc (suc (suc n)))) less = absurd (omega arith)

abbrev SharedAt : ℕ → ℕ → Type 0
SharedAt member shard = AreShared (reverse (small_histories member shard)) (small_owned member shard) (small_places member shard)

small_shared : (member shard : ℕ) → IsMember three member → shard < 2 → SharedAt member shard
small_shared member shard is within = at_three (λ m. SharedAt m shard)
    (at_shards (SharedAt 1) (record { stands = first_stands_0; each = first_each_0 })
    (record { stands = first_stands_1; each = first_each_1 }) shard within)
    (at_shards (SharedAt 2) (record { stands = second_stands_0; each = second_each_0 })
    (record { stands = second_stands_1; each = second_each_1 }) shard within)
    (at_shards (SharedAt 3) (record { stands = third_stands_0; each = third_each_0 })
    (record { stands = third_stands_1; each = third_each_1 }) shard within) member is

-- who is a client at the member
client_only : (member number : ℕ) (ds : List Deed) → IsStated number three → member ≡ home_of three number → (own : ℕ)
    → (IsStated own three × (member ≡ home_of three own)) ⊎ (only number ds own ≡ [])
client_only member number ds stated home own = at_test (own == number) refl
  where
    at_test : (b : Bool) → (own == number) ≡ b → (IsStated own three × (member ≡ home_of three own)) ⊎ ((if b then ds else []) ≡ [])
    at_test true e =
        inl (subst (λ c. IsStated c three × (member ≡ home_of three c)) (sym (eqb-true own number e)) (stated, home))
    at_test false e = inr refl

first_client : (ds : List Deed) (own : ℕ) → (IsStated own three × (1 ≡ home_of three own)) ⊎ (only 1 ds own ≡ [])
first_client ds = client_only 1 1 ds (omega arith, omega arith) refl

third_client : (ds : List Deed) (own : ℕ) → (IsStated own three × (3 ≡ home_of three own)) ⊎ (only 2 ds own ≡ [])
third_client ds = client_only 3 2 ds (omega arith, omega arith) refl

-- who is given something: the third, and nobody else
gives_only : (member : ℕ) (gave : What) → filter_map (gift_due member 3) small_lines ≡ gave ∷ [] → (joiner : ℕ)
    → only 3 (Gave 3 gave ∷ []) joiner ≡ map (λ what. Gave joiner what) (filter_map (gift_due member joiner) small_lines)
gives_only member gave due joiner = dite (ℕ_discrete joiner 3)
    (λ (e : joiner ≡ 3). subst
    (λ j. only 3 (Gave 3 gave ∷ []) j ≡ map (λ what. Gave j what) (filter_map (gift_due member j) small_lines)) (sym e)
    (sym (ap (map (λ what. Gave 3 what)) due)))
    (λ ne. rw (ne_eqb joiner 3 ne, ne_eqb 3 joiner (λ e. ne (sym e))) refl)

third_gives : (joiner : ℕ) → [] ≡ map (λ what. Gave joiner what) (filter_map (gift_due 3 joiner) small_lines)
third_gives joiner = dite (ℕ_discrete joiner 3)
    (λ (e : joiner ≡ 3). subst (λ j. [] ≡ map (λ what. Gave j what) (filter_map (gift_due 3 j) small_lines)) (sym e) refl)
    (λ ne. rw (ne_eqb 3 joiner (λ e. ne (sym e))) refl)

abbrev WrittenAt : ℕ → ℕ → Type 0
WrittenAt member shard = IsWrittenBy three small_lines member (small_owned member shard)

small_written : (member shard : ℕ) → IsMember three member → shard < 2 → WrittenAt member shard
small_written member shard is within = at_three (λ m. WrittenAt m shard)
    (at_shards (WrittenAt 1) (record { clients = first_client _; givers = gives_only 1 what.Own refl })
    (record { clients = first_client _; givers = gives_only 1 what.Own refl }) shard within)
    (at_shards (WrittenAt 2) (record { clients = λ client. inr refl; givers = gives_only 2 what.Image refl })
    (record { clients = λ client. inr refl; givers = gives_only 2 what.Image refl }) shard within)
    (at_shards (WrittenAt 3) (record { clients = λ client. inr refl; givers = third_gives })
    (record { clients = third_client _; givers = third_gives }) shard within) member is

-- ---- histories

abbrev LawfulAt : ℕ → ℕ → Type 0
LawfulAt member shard = IsLawful (identity (grid_from three small_histories shard) member) 0 (small_histories member shard)

first_lawful_0 : LawfulAt 1 0
unfolding recipients
first_lawful_0 = tt & tt & tt & refl & refl & tt

first_lawful_1 : LawfulAt 1 1
unfolding recipients
first_lawful_1 = tt & tt & refl & refl & refl & tt

second_lawful_0 : LawfulAt 2 0
unfolding recipients
second_lawful_0 = tt & record { member_is = refl; at_is = refl; own_is = refl; to_is = refl; vector_is = refl } & tt

second_lawful_1 : LawfulAt 2 1
unfolding recipients
second_lawful_1 = refl & tt & record { member_is = refl; at_is = refl; own_is = refl; to_is = refl; vector_is = refl } & refl & tt

third_lawful_0 : LawfulAt 3 0
unfolding recipients
third_lawful_0 = tt & refl & tt

third_lawful_1 : LawfulAt 3 1
unfolding recipients
third_lawful_1 = refl & tt & refl & refl & tt

small_lawful : (member shard : ℕ) → IsMember three member → shard < 2 → LawfulAt member shard
small_lawful member shard is within = at_three (λ m. LawfulAt m shard)
    (at_shards (LawfulAt 1) first_lawful_0 first_lawful_1 shard within)
    (at_shards (LawfulAt 2) second_lawful_0 second_lawful_1 shard within)
    (at_shards (LawfulAt 3) third_lawful_0 third_lawful_1 shard within) member is

small_outside : (member shard : ℕ) → IsMember three member ⊎ (small_histories member shard ≡ [])
small_outside zero shard = inr refl
small_outside (suc zero) shard = inl (omega arith, omega arith)
small_outside (suc (suc zero)) shard = inl (omega arith, omega arith)
small_outside (suc (suc (suc zero))) shard = inl (omega arith, omega arith)
small_outside (suc (suc (suc (suc n)))) shard = inr refl

-- ---- sessions

abbrev SessionOf : ℕ → Type 0
SessionOf client = IsSession three small_lines small_histories client (small_served client)
    (λ shard. small_owned (home_of three client) shard (Client client)) (λ shard. small_places (home_of three client) shard (Client client))

abbrev DeedsAt : ℕ → ℕ → ℕ → Type 0
DeedsAt client member shard = small_owned member shard (Client client) ≡ all_deeds_of client 2 shard (small_served client)

abbrev LooksAt : ℕ → ℕ → ℕ → Type 0
LooksAt client member shard = LooksFit 2 shard 0 (small_places member shard (Client client)) (small_served client)

not_called : (number : ℕ) (peek : Peek) (own : ℕ) (ask : Ask) (reply : Reply)
    (made : Option Change) (to : ℕ)
    → Looked number peek ≡ Called own ask reply made to → ⊥
not_called number peek own ask reply made to e = cc

not_queried : (number : ℕ) (peek : Peek) (own : ℕ) (ask : QueryAsk) (replies : List QueryReply)
    → Looked number peek ≡ Queried own ask replies → ⊥
not_queried number peek own ask replies e = cc

abbrev one_peek : Peek
one_peek = record { key = one_key; value = Some []; at = 2 }

the_peek : (number : ℕ) (peek : Peek) → Looked number peek ≡ Looked 3 one_peek
    → IsLook peek (small_histories 1 (shard_of peek.key 2))
the_peek number peek e =
    let is : peek ≡ one_peek = cc in
    rw is (record { within = omega arith; value_is = refl })

first_told : (number : ℕ) (peek : Peek) → Among (Looked number peek) (small_served 1)
    → IsLook peek (small_histories 1 (shard_of peek.key 2))
first_told number peek (inl e) = absurd (not_called number peek _ _ _ _ _ e)
first_told number peek (inr (inl e)) = absurd (not_queried number peek _ _ _ e)
first_told number peek (inr (inr (inl e))) = the_peek number peek e
first_told number peek (inr (inr (inr a))) = absurd a

second_told : (number : ℕ) (peek : Peek) → Among (Looked number peek) (small_served 2) → ⊥
second_told number peek (inl e) = not_called number peek _ _ _ _ _ e
second_told number peek (inr a) = a

first_session : SessionOf 1
first_session = record {
  steps = refl;
  replies = tt & refl & tt & tt;
  deeds = at_shards (DeedsAt 1 1) refl refl;
  looks = at_shards (LooksAt 1 1) ((λ here. (let k : 1 ≤ 2 = omega arith in k)), tt) ((λ here. (let k : 2 ≤ 2 = omega arith in k)), tt);
  told = first_told;
  ready = λ shard within joins. absurd (joins refl);
}

-- The client of the joiner waits for the images.
after_first : (place : ℕ) → 0 < times place (3 ∷ []) → 1 ≤ place
after_first zero t = absurd (omega arith)
after_first (suc n) t = omega arith

abbrev ReadyAt : ℕ → Type 0
ReadyAt shard = IsReadyBefore (small_histories 3 shard) (small_places 3 shard (Client 2))

ready_0 : ReadyAt 0
ready_0 = record { past = Imaged image_0 ∷ []; older = inr (inl refl); ready = refl; later = λ place t. absurd (omega arith) }

ready_1 : ReadyAt 1
ready_1 = record { past = Imaged image_1 ∷ []; older = inr (inr (inr (inl refl))); ready = refl; later = after_first }

second_session : SessionOf 2
second_session = record {
  steps = refl;
  replies = tt & tt;
  deeds = at_shards (DeedsAt 2 3) refl refl;
  looks = at_shards (LooksAt 2 3) tt tt;
  told = λ number peek a. absurd (second_told number peek a);
  ready = λ shard within joins. at_shards ReadyAt ready_0 ready_1 shard within;
}

-- ---- members' threads

abbrev ThreadOf : ℕ → Type 0
ThreadOf member =
    IsThread three small_lines small_histories member (small_works member) (small_taken member) (λ shard. small_owned member shard Thread)

abbrev DoneAt : ℕ → ℕ → Type 0
DoneAt member shard = small_owned member shard Thread ≡ flat_map (work_at 2 shard) (small_works member)

abbrev DutiesAt : ℕ → ℕ → Type 0
DutiesAt member shard = filter_map (duty_at shard) (small_works member) ≡ filter_map (duty_of member) small_lines

abbrev GivenAt : ℕ → ℕ → ℕ → Type 0
GivenAt member giver shard = filter_map (got_from 2 shard giver) (small_works member) ≡ given_to member (small_histories giver shard)

not_merged : (shard : ℕ) (given : Image) (giver : ℕ) (change : Change) (verdict : Verdict) → Merged shard given
    ≡ GotFrom giver change verdict → ⊥
not_merged shard given giver change verdict e = cc

not_heard : (shard : ℕ) (given : Image) (at : ℕ) (report : Report) → Merged shard given ≡ HeardOf at report → ⊥
not_heard shard given at report e = cc

first_merges : (shard : ℕ) (given : Image) → Among (Merged shard given) (small_works 1) → ⊥
first_merges shard given (inl e) = cc
first_merges shard given (inr (inl e)) = cc
first_merges shard given (inr (inr (inl e))) = cc
first_merges shard given (inr (inr (inr (inl e)))) = cc
first_merges shard given (inr (inr (inr (inr a)))) = a

second_merges : (shard : ℕ) (given : Image) → Among (Merged shard given) (small_works 2) → ⊥
second_merges shard given (inl e) = cc
second_merges shard given (inr (inl e)) = cc
second_merges shard given (inr (inr (inl e))) = cc
second_merges shard given (inr (inr (inr a))) = a

abbrev IsGiven : ℕ → Image → Type 0
IsGiven shard given = IsGift (grid_from three small_histories shard) 3 given

given_0 : IsGiven 0 image_0
given_0 = record {
  from_founder = omega arith;
  gave = inl refl;
  is_image = record { giver_is = refl; at_is = refl; rows_are = refl; vector_is = refl; floor_is = refl };
}

given_1 : IsGiven 1 image_1
given_1 = record {
  from_founder = omega arith;
  gave = inr (inl refl);
  is_image = record { giver_is = refl; at_is = refl; rows_are = refl; vector_is = refl; floor_is = refl };
}

merged_is : (shard at : ℕ) (given image : Image) → Merged shard given ≡ Merged at image → (shard ≡ at) × (given ≡ image)
merged_is shard at given image e = (cc, cc)

third_merges : (shard : ℕ) (given : Image) → Among (Merged shard given) (small_works 3) → IsGiven shard given
third_merges shard given (inl e) = let is = merged_is shard 0 given image_0 e in rw (is.0, is.1) given_0
third_merges shard given (inr (inl e)) = let is = merged_is shard 1 given image_1 e in rw (is.0, is.1) given_1
third_merges shard given (inr (inr (inl e))) = absurd (not_merged shard given _ _ _ e)
third_merges shard given (inr (inr (inr (inl e)))) = absurd (not_heard shard given _ _ e)
third_merges shard given (inr (inr (inr (inr (inl e))))) = absurd (not_heard shard given _ _ e)
third_merges shard given (inr (inr (inr (inr (inr a))))) = absurd a

first_thread : ThreadOf 1
first_thread = record {
  deeds = at_shards (DoneAt 1) refl refl;
  shards = refl & omega arith & omega arith & omega arith & tt;
  duties = at_shards (DutiesAt 1) refl refl;
  mails = refl;
  members = tt & tt & tt & tt & tt;
  given = λ giver shard is within. at_three (λ g. GivenAt 1 g shard) (at_shards (GivenAt 1 1) refl refl shard within)
      (at_shards (GivenAt 1 2) refl refl shard within) (at_shards (GivenAt 1 3) refl refl shard within) giver is;
  merged = λ shard given a. absurd (first_merges shard given a);
}

second_thread : ThreadOf 2
second_thread = record {
  deeds = at_shards (DoneAt 2) refl refl;
  shards = tt & refl & tt & tt;
  duties = at_shards (DutiesAt 2) refl refl;
  mails = refl;
  members = tt & tt & tt & tt;
  given = λ giver shard is within. at_three (λ g. GivenAt 2 g shard) (at_shards (GivenAt 2 1) refl refl shard within)
      (at_shards (GivenAt 2 2) refl refl shard within) (at_shards (GivenAt 2 3) refl refl shard within) giver is;
  merged = λ shard given a. absurd (second_merges shard given a);
}

third_thread : ThreadOf 3
third_thread = record {
  deeds = at_shards (DoneAt 3) refl refl;
  shards = omega arith & omega arith & tt & omega arith & omega arith & tt;
  duties = at_shards (DutiesAt 3) refl refl;
  mails = refl;
  members = tt & tt & (omega arith, omega arith) & tt & tt & tt;
  given = λ giver shard is within. at_three (λ g. GivenAt 3 g shard) (at_shards (GivenAt 3 1) refl refl shard within)
      (at_shards (GivenAt 3 2) refl refl shard within) (at_shards (GivenAt 3 3) refl refl shard within) giver is;
  merged = λ shard given a. (omega arith, third_merges shard given a);
}

-- ---- mail

abbrev MailedTo : ℕ → Type 0
MailedTo member = IsMailed three small_served small_works member (small_taken member)

abbrev OfClient : ℕ → ℕ → Type 0
OfClient member client =
    of (client_place client) (small_taken member) ≡ delivered (draws_for three client member (changes_posted 2 (small_served client)))

abbrev OfMember : ℕ → ℕ → Type 0
OfMember member other = of (member_place three other) (small_taken member)
    ≡ delivered (draws_for three (courier_of other) member (reports_posted three other (filter_map round_of (small_works other))))

first_mailed : MailedTo 1
first_mailed = record {
  senders = omega arith & omega arith & omega arith & omega arith & omega arith & omega arith & omega arith & omega arith & tt;
  of_clients = at_two (OfClient 1) refl refl;
  of_members = at_three (OfMember 1) refl refl refl;
}

second_mailed : MailedTo 2
second_mailed = record {
  senders = omega arith & omega arith & omega arith & omega arith & omega arith & omega arith & omega arith & tt;
  of_clients = at_two (OfClient 2) refl refl;
  of_members = at_three (OfMember 2) refl refl refl;
}

third_mailed : MailedTo 3
third_mailed = record {
  senders = omega arith & omega arith & omega arith & omega arith & omega arith & omega arith & omega arith & tt;
  of_clients = at_two (OfClient 3) refl refl;
  of_members = at_three (OfMember 3) refl refl refl;
}

pub small_left : AreLeftByThreads three small_lines small_histories small_served
small_left = record {
  lawful = small_lawful;
  outside = small_outside;
  owned = small_owned;
  places = small_places;
  shared = small_shared;
  written = small_written;
  works = small_works;
  taken = small_taken;
  sessions = at_two SessionOf first_session second_session;
  threads = at_three ThreadOf first_thread second_thread third_thread;
  mailed = at_three MailedTo first_mailed second_mailed third_mailed;
}

-- ---- the script

small_heading : IsHeading three
small_heading = record {
  named = refl;
  members = omega arith & omega arith;
  founders = (omega arith, omega arith);
  shards = omega arith & omega arith;
  inbox = (omega arith, omega arith);
  trouble = omega arith;
  floor = omega arith;
  few_clients = omega arith;
  at_members = (omega arith, omega arith) & (omega arith, omega arith) & tt;
}

pub small_script : IsScript three small_lines
small_script = record {
  heading = small_heading;
  lines_stand = ((omega arith, omega arith), refl, tt)
      & (omega arith, omega arith, (omega arith, omega arith), refl)
      & ((omega arith, omega arith), omega arith)
      & ((omega arith, omega arith), omega arith, omega arith, omega arith)
      & ((omega arith, omega arith), refl, tt)
      & ((omega arith, omega arith), refl, (refl, omega arith, omega arith, record { line = refl; front = refl; back = refl }))
      & ((omega arith, omega arith), refl, tt)
      & tt;
  names_staying = refl & (refl & refl) & refl & refl & refl & refl & refl & tt;
  attended = refl & tt & tt & tt & refl & refl & refl & tt;
}
