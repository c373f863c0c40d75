-- What a shard keeps stays tied to its history by a call and by a change that is taken in.
use Rattle.std.proofs.Common.{◌≡◌, ◌∙◌, ap, sym, refl, subst, ℕ, ◌+◌, List, [], ◌∷◌, Bool, true, false, if◌then◌else◌, max}
use Rattle.std.proofs.Common.{Option, Some, None, bytes_eq, arith}
use Rattle.std.proofs.lemmas.Slice.Eq.{bytes_eq-Decides}
use Rattle.std.proofs.lemmas.Bool.Decides.{nat_tests}
use Rattle.gr_value.specs.Shard.{shard_of}
use Rattle.gr_stamp.specs.declared.change.Change.{Change}
use Rattle.gr_stamp.specs.Version.{beats}
use Rattle.gr_stamp.specs.Winner.{wins}
use Rattle.gr_vector.specs.Ids.{has_id}
use Rattle.gr_vector.specs.Order.{with_id}
use Rattle.gr_history.specs.declared.identity.Identity.{Identity}
use Rattle.gr_history.specs.declared.ask.Ask.{Ask}
use Rattle.gr_history.specs.declared.reply.Reply.{Reply}
use Rattle.gr_history.specs.declared.verdict.Verdict.{Verdict}
use Rattle.gr_history.specs.declared.verdict.Verdict.TheVariants.{Applied, Discarded, Repeat}
use Rattle.gr_history.specs.declared.deed.Deed.{Deed}
use Rattle.gr_history.specs.declared.deed.Deed.TheVariants.{Call, Taken}
use Rattle.gr_history.specs.Asks.{key_of}
use Rattle.gr_history.specs.Ids.{id_of, ids}
use Rattle.gr_history.specs.Floor.{floor}
use Rattle.gr_history.specs.Lawful.{IsOfShard}
use Rattle.gr_history.specs.Recipients.{recipients}
use Rattle.gr_history.specs.Standing.{standing}
use Rattle.gr_history.specs.Turned.{turned}
use Rattle.gr_history.specs.Verdicts.{verdict, verdict_over}
use Rattle.gr_history.specs.Calls.{call_gives, ver_of}
use Rattle.gr_cq.specs.Entries.{noted}
use Rattle.gr_law.proofs.Turns.{turned_applied, turned_call, turned_discarded, turned_repeat, turned_to, turned_unmade}
use Rattle.gr_slots.specs.Slots.{Entries}
use Rattle.gr_stable.proofs.Counting.{heard_next}
use Rattle.gr_shard.specs.Asking.{Hold}
use Rattle.gr_shard.specs.Entries.{with_change, with_made, applied}
use Rattle.gr_shard.specs.View.{IsKept, Kept}
use Rattle.gr_shard.proofs.Made.{IsMade, made_by_call}
use Rattle.gr_shard.specs.Telling.{turned_by_change}
use Rattle.gr_shard.proofs.KeptOn.{kept_on}
use Rattle.gr_shard.proofs.Named.{call_below}
use Rattle.gr_shard.proofs.Turning.{same_turned, there-slot_at, told_in_step, value-slot_at}
use Rattle.gr_shard.proofs.Slots.{stands_unchanged, stands_with, stands_after, stands_still}

-- a change that was made wins over what stood
makes_win : (id : Identity) (opening : ℕ) (past : List Deed) (key : List ℕ) (change : Change) → IsMade id opening past key change
    → (before : Option Change) → change.stamp.ver ≡ 1 + max (ver_of before) (floor opening past) → wins change before ≡ true
makes_win id opening past key change made None ver = refl
makes_win id opening past key change made (Some before) ver = grind (arith, nat_tests)

-- the same at the change's own key
pub made_wins : (id : Identity) (opening : ℕ) (past : List Deed) (key : List ℕ) (change : Change) → IsMade id opening past key change
    → (q : List ℕ) → bytes_eq change.key q ≡ true → wins change (standing q past) ≡ true
made_wins id opening past key change made q same =
    let here_is : key ≡ q = sym made.key_is ∙ (bytes_eq-Decides change.key q).0 same in
    makes_win id opening past key change made (standing q past)
    (subst (λ k. change.stamp.ver ≡ 1 + max (ver_of (standing k past)) (floor opening past)) here_is made.ver_is)

-- the slots once a call made this, if anything
slots_called : (id : Identity) (opening : ℕ) (now : Kept) (past : List Deed) (client seq : ℕ) (ask : Ask) (reply : Reply)
    (made : Option Change)
    (to : ℕ) → IsKept id opening now past → record { reply = reply; made = made; to = to } ≡ call_gives id opening past ask
    → Hold (with_change made now.clock now.slots) (Call client to seq ask reply made ∷ past)
slots_called id opening now past client seq ask reply None to kept gives =
    stands_unchanged now.slots (Call client to seq ask reply None) past (λ key. refl) kept.stands
slots_called id opening now past client seq ask reply (Some change) to kept gives =
    let is = made_by_call id opening past ask reply change to gives in
    let win = made_wins id opening past (key_of ask) change is in
    subst (λ at. Hold (with_change (Some change) at now.slots) (Call client to seq ask reply (Some change) ∷ past)) (sym kept.clocked)
    (stands_with now.slots (Call client to seq ask reply (Some change)) past change
    (λ key. stands_after key change past (bytes_eq change.key key) refl (win key)) win kept.stands)

of_shard_taken : (id : Identity) (past : List Deed) (change : Change) (told : Verdict) → shard_of change.key id.shards ≡ id.shard
    → IsOfShard id past → IsOfShard id (Taken change told ∷ past)
of_shard_taken id past change Applied here all = (here, all)
of_shard_taken id past change Discarded here all = (here, all)
of_shard_taken id past change Repeat here all = all

-- what a verdict says of the change and what stands
pub verdict_wins : (known : Bool) (stands : Option Change) (change : Change) → verdict_over known stands change ≡ Applied
    → wins change stands ≡ true
verdict_wins true stands change is = absurd cc
verdict_wins false None change is = refl
verdict_wins false (Some before) change is = at_test (beats change.stamp before.stamp) is
  where
    at_test : (b : Bool) → (if b then Applied else Discarded) ≡ Applied → b ≡ true
    at_test true e = refl
    at_test false e = absurd cc

pub verdict_loses : (known : Bool) (stands : Option Change) (change : Change) → verdict_over known stands change ≡ Discarded
    → wins change stands ≡ false
verdict_loses true stands change is = absurd cc
verdict_loses false None change is = absurd cc
verdict_loses false (Some before) change is = at_test (beats change.stamp before.stamp) is
  where
    at_test : (b : Bool) → (if b then Applied else Discarded) ≡ Discarded → b ≡ false
    at_test true e = absurd cc
    at_test false e = refl

-- what is so at the change's key is so at each key that is the same
at_its_key : (past : List Deed) (change : Change) (win : Bool) → wins change (standing change.key past) ≡ win
    → (q : List ℕ) → bytes_eq change.key q ≡ true → wins change (standing q past) ≡ win
at_its_key past change win is q same =
    subst (λ k. wins change (standing k past) ≡ win) ((bytes_eq-Decides change.key q).0 same) is

-- the slots once a change was taken in
slots_taken : (id : Identity) (opening : ℕ) (now : Kept) (past : List Deed) (change : Change) (told : Verdict) → IsKept id opening now
    past
    → told ≡ verdict past change → Hold (with_change (applied told change) now.clock now.slots) (Taken change told ∷ past)
slots_taken id opening now past change Applied kept is =
    let win = at_its_key past change true
    (verdict_wins (has_id (id_of change) (ids past)) (standing change.key past) change (sym is)) in
    subst (λ at. Hold (with_change (Some change) at now.slots) (Taken change Applied ∷ past)) (sym kept.clocked)
    (stands_with now.slots (Taken change Applied) past change
    (λ key. stands_after key change past (bytes_eq change.key key) refl (win key)) win kept.stands)
slots_taken id opening now past change Discarded kept is =
    let lose = at_its_key past change false
    (verdict_loses (has_id (id_of change) (ids past)) (standing change.key past) change (sym is)) in
    stands_unchanged now.slots (Taken change Discarded) past
    (λ key. stands_still key change past (bytes_eq change.key key) refl (lose key)) kept.stands
slots_taken id opening now past change Repeat kept is =
    stands_unchanged now.slots (Taken change Repeat) past (λ key. refl) kept.stands

-- What a change that came in turns, by the slots before.
pub turned_change : (change : Change) (past : List Deed) (slots : Entries) → Hold slots past
    → turned_to change past ∷ [] ≡ turned_by_change slots (Some change)
turned_change change past slots stands =
    ap (λ one. one ∷ []) (same_turned change.key (sym (value-slot_at change.key slots past stands)) refl
    (sym (there-slot_at change.key slots past stands)) refl)

pub turned_taken : (change : Change) (told : Verdict) (past : List Deed) (slots : Entries) → told ≡ verdict past change → Hold slots past
    → turned (Taken change told) past ≡ turned_by_change slots (applied told change)
turned_taken change Applied past slots is stands = turned_applied change past is ∙ turned_change change past slots stands
turned_taken change Discarded past slots is stands = turned_discarded change past is
turned_taken change Repeat past slots is stands = turned_repeat change past

module _ (id : Identity) (opening : ℕ) (now : Kept) (past : List Deed) where
  -- Kept before a call, all is kept after it.
  pub kept_called : (client seq : ℕ) (ask : Ask) (reply : Reply) (made : Option Change) (to : ℕ) → IsKept id opening now past
      → shard_of (key_of ask) id.shards ≡ id.shard
      → record { reply = reply; made = made; to = to } ≡ call_gives id opening past ask
      → IsKept id opening (record now {
        slots = with_change made now.clock now.slots;
        vector = with_made made now.vector;
        queries = noted (turned_by_change now.slots made) now.queries;
      })
      (Call client to seq ask reply made ∷ past)
  unfolding recipients
  kept_called client seq ask reply None to kept here gives =
      kept_on id opening now (Call client to seq ask reply None) past kept refl gives kept.of_shard
      (call_below id opening past ask kept.place.founded kept.named reply None to gives)
      now.slots (slots_called id opening now past client seq ask reply None to kept gives)
      now.vector kept.noted now.heard (kept.told ∙ sym (heard_next (Call client to seq ask reply None) past))
      (noted [] now.queries)
      (told_in_step (Call client to seq ask reply None) past [] now.queries (λ client name. refl)
      (turned_unmade client seq ask reply to past) kept.in_step)
  kept_called client seq ask reply (Some change) to kept here gives =
      let is = made_by_call id opening past ask reply change to gives in
      kept_on id opening now (Call client to seq ask reply (Some change)) past kept refl gives
      (ap (λ k. shard_of k id.shards) is.key_is ∙ here, kept.of_shard)
      (call_below id opening past ask kept.place.founded kept.named reply (Some change) to gives)
      (with_change (Some change) now.clock now.slots)
      (slots_called id opening now past client seq ask reply (Some change) to kept gives)
      (with_id (id_of change) now.vector) (ap (with_id (id_of change)) kept.noted)
      now.heard (kept.told ∙ sym (heard_next (Call client to seq ask reply (Some change)) past))
      (noted (turned_by_change now.slots (Some change)) now.queries)
      (told_in_step (Call client to seq ask reply (Some change)) past (turned_by_change now.slots (Some change)) now.queries
      (λ client name. refl)
      (turned_call id opening client seq ask reply change to past gives ∙ turned_change change past now.slots kept.stands) kept.in_step)

  -- Kept before a change is taken in, all is kept after it.
  pub kept_taken : (change : Change) (told : Verdict) → IsKept id opening now past → shard_of change.key id.shards ≡ id.shard
      → told ≡ verdict past change
      → IsKept id opening (record now {
        slots = with_change (applied told change) now.clock now.slots;
        vector = with_id (id_of change) now.vector;
        queries = noted (turned_by_change now.slots (applied told change)) now.queries;
      })
      (Taken change told ∷ past)
  unfolding recipients
  kept_taken change told kept here is =
      kept_on id opening now (Taken change told) past kept refl is (of_shard_taken id past change told here kept.of_shard) tt
      (with_change (applied told change) now.clock now.slots) (slots_taken id opening now past change told kept is)
      (with_id (id_of change) now.vector) (ap (with_id (id_of change)) kept.noted)
      now.heard (kept.told ∙ sym (heard_next (Taken change told) past))
      (noted (turned_by_change now.slots (applied told change)) now.queries)
      (told_in_step (Taken change told) past (turned_by_change now.slots (applied told change)) now.queries
      (λ client name. refl) (turned_taken change told past now.slots is kept.stands) kept.in_step)
