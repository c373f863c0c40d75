-- What a shard knows of removals that aren't stable goes on by the deeds.
use Rattle.std.proofs.Common.{◌≡◌, ◌∙◌, ◌≤◌, ◌<◌, ap, sym, refl, subst, ℕ, zero, suc, ◌-◌, List, [], ◌∷◌, Bool, true, false, if◌then◌else◌}
use Rattle.std.proofs.Common.{◌&&◌, ◌||◌, ◌==◌, not, nat_le, nat_lt, ◌⊎◌, inl, inr, Option, Some, None, bytes_eq, filter, max, arith}
use Rattle.std.proofs.lemmas.Bool.Decides.{nat_tests}
use Rattle.std.proofs.lemmas.Slice.Eq.{bytes_eq-Decides}
use Rattle.std.proofs.lemmas.Map.Text.{is_eq-slice_cmp}
use Rattle.std.specs.Prelude.{slice_index_or}
use Rattle.std.specs.List.{list_any}
use Rattle.std.specs.BTreeMap.{is_at}
use Rattle.std.specs.Cmp.Lexicographic.{slice_cmp}
use Rattle.std.specs.Ordering.{nat_cmp}
use Rattle.gr_stamp.specs.declared.change.Change.{Change}
use Rattle.gr_stamp.specs.Winner.{is_removal, winner, wins}
use Rattle.gr_vector.specs.declared.report.Report.{Report}
use Rattle.gr_vector.specs.Ids.{Id, covers, has_id}
use Rattle.gr_vector.specs.Order.{with_id}
use Rattle.gr_vector.proofs.Order.{has_with}
use Rattle.gr_history.specs.declared.identity.Identity.{Identity}
use Rattle.gr_history.specs.declared.ask.Ask.{Ask}
use Rattle.gr_history.specs.declared.reply.Reply.{Reply}
use Rattle.gr_history.specs.declared.deed.Deed.{Deed}
use Rattle.gr_history.specs.declared.deed.Deed.TheVariants.{Call, Asked, Taken, Gave, Imaged, Reported, Heard, Swept}
use Rattle.gr_history.specs.Asks.{key_of}
use Rattle.gr_history.specs.Calls.{call_gives}
use Rattle.gr_history.specs.Clock.{clock, since}
use Rattle.gr_history.specs.Ids.{id_of, known}
use Rattle.gr_history.specs.Lawful.{IsLawfulDeed}
use Rattle.gr_history.specs.Recipients.{recipients}
use Rattle.gr_history.specs.Regions.{keys_of}
use Rattle.gr_history.specs.Stable.{due, is_covered, is_due, is_due_from, is_stable}
use Rattle.gr_history.specs.Standing.{changes, lasting, names, standing}
use Rattle.gr_slots.specs.declared.slot.Slot.{Slot}
use Rattle.gr_stable.specs.Heard.{Reports, heard, is_counting_by, is_passed, is_stable_by, is_stable_now}
use Rattle.gr_stable.proofs.Counting.{heard_next}
use Rattle.gr_shard.specs.Entries.{slot_from, slot_of}
use Rattle.gr_shard.specs.Looked.{IsLooked, id_in, looked_after}
use Rattle.gr_shard.specs.View.{IsKept, Kept}
use Rattle.gr_shard.proofs.Counts.{stable_aimed}
use Rattle.gr_shard.proofs.Kept.{made_wins}
use Rattle.gr_shard.proofs.Left.{slot_stands}
use Rattle.gr_shard.proofs.Made.{IsMade, made_by_call}
use Rattle.gr_shard.proofs.Slots.{slot_after, stands_after, unchanged}

-- of a moment before all others
pub looked_nothing : (id : Identity) (past : List Deed) → IsLooked id 0 past
looked_nothing id past = record { passed = omega arith; unstable = λ key slot found removal early. absurd (omega (arith, early)) }

-- ---- an id of this member makes nothing stable

covers_other : (member n : ℕ) (own : Id) (ids : List Id) → (own.member == member) ≡ false
    → covers member n (with_id own ids) ≡ covers member n ids
covers_other member zero own ids apart = refl
covers_other member (suc n) own ids apart =
    ap (λ b. b && covers member n (with_id own ids))
    (has_with (record { member = member; rv = suc n }) own ids
    ∙ ap (λ b. (b && own.rv == suc n) || has_id (record { member = member; rv = suc n }) ids) apart)
    ∙ ap (λ b. has_id (record { member = member; rv = suc n }) ids && b) (covers_other member n own ids apart)

covered_other : (member : ℕ) (tombstone own : Id) (report : Option Report) (ids : List Id) → (own.member == member) ≡ false
    → is_covered member tombstone report (with_id own ids) ≡ is_covered member tombstone report ids
covered_other member tombstone own None ids apart = refl
covered_other member tombstone own (Some report) ids apart =
    ap (λ b. has_id tombstone report.vector.ids && b) (covers_other member report.own own ids apart)

module _ (me founders given : ℕ) (tombstone own : Id) (reports : Reports) (ids : List Id) where
  passed_own : (member : ℕ) → own.member ≡ me
      → is_passed me founders given tombstone reports (with_id own ids) member ≡ is_passed me founders given tombstone reports ids member
  passed_own member mine = at_me (member == me) refl
    where
      counts : Bool
      counts = is_counting_by founders given member reports

      report : Option Report
      report = slice_index_or reports (member - 1) None

      at_me : (b : Bool) → (member == me) ≡ b
          → (b || (not counts || is_covered member tombstone report (with_id own ids)))
          ≡ (b || (not counts || is_covered member tombstone report ids))
      at_me true is = refl
      at_me false is =
          ap (λ b. not counts || b)
          (covered_other member tombstone own report ids (subst (λ m. (m == member) ≡ false) (sym mine) (grind (arith, nat_tests))))

  stable_own : (n : ℕ) → own.member ≡ me
      → is_stable_by me founders given n tombstone reports (with_id own ids) ≡ is_stable_by me founders given n tombstone reports ids
  stable_own zero mine = refl
  stable_own (suc n) mine =
      ap (λ b. b && is_stable_by me founders given n tombstone reports (with_id own ids)) (passed_own (suc n) mine)
      ∙ ap (λ b. is_passed me founders given tombstone reports ids (suc n) && b) (stable_own n mine)

-- ---- a deed that makes nothing stable

module _ (id : Identity) (looked : ℕ) (deed : Deed) (past : List Deed) where
  -- by whom changes go to, the reports that count and the ids
  stable_still : (tombstone : Id) → id.founders ≤ 8 → recipients id (deed ∷ past) ≡ recipients id past → heard (deed ∷ past) ≡ heard past
      → is_stable_now id.member id.founders (recipients id past) tombstone (heard past) (known (deed ∷ past))
      ≡ is_stable_now id.member id.founders (recipients id past) tombstone (heard past) (known past)
      → is_stable id tombstone (deed ∷ past) ≡ is_stable id tombstone past
  stable_still tombstone few to_same heard_same ids_same =
      sym (stable_aimed id tombstone (deed ∷ past) few)
      ∙ ap (λ to. is_stable_now id.member id.founders to tombstone (heard (deed ∷ past)) (known (deed ∷ past))) to_same
      ∙ ap (λ reports. is_stable_now id.member id.founders (recipients id past) tombstone reports (known (deed ∷ past))) heard_same
      ∙ ids_same
      ∙ stable_aimed id tombstone past few

  -- Each slot behind it was there before, or came in now.
  looked_still : clock past ≤ clock (deed ∷ past)
      → ((key : List ℕ) (slot : Slot) → slot_of (standing key (deed ∷ past)) (since key (deed ∷ past)) ≡ Some slot
      → (slot_of (standing key past) (since key past) ≡ Some slot) ⊎ (clock past ≤ slot.taken_at))
      → ((tombstone : Id) → is_stable id tombstone (deed ∷ past) ≡ is_stable id tombstone past)
      → IsLooked id looked past → IsLooked id looked (deed ∷ past)
  looked_still later slots stable was = record {
    passed = let passed = was.passed in omega (arith, passed, later);
    unstable = λ key slot found removal early. stable (id_in slot) ∙ at_slot key slot removal early (slots key slot found);
  }
    where
      at_slot : (key : List ℕ) (slot : Slot) → is_removal slot.kind ≡ true → slot.taken_at < looked
          → (slot_of (standing key past) (since key past) ≡ Some slot) ⊎ (clock past ≤ slot.taken_at) → is_stable id (id_in slot) past ≡ false
      at_slot key slot removal early (inl before) = was.unstable key slot before removal early
      at_slot key slot removal early (inr now) = absurd (let passed = was.passed in omega (arith, early, now, passed))

  -- where what stands is the same too
  looked_same : id.founders ≤ 8 → clock past ≤ clock (deed ∷ past) → recipients id (deed ∷ past) ≡ recipients id past
      → heard (deed ∷ past) ≡ heard past → known (deed ∷ past) ≡ known past
      → ((key : List ℕ) → standing key (deed ∷ past) ≡ standing key past)
      → IsLooked id looked past → IsLooked id looked (deed ∷ past)
  looked_same few later to_same heard_same known_same stands =
      looked_still later (λ key slot found. inl (sym (unchanged key deed past (stands key)) ∙ found))
      (λ tombstone. stable_still tombstone few to_same heard_same
      (ap (is_stable_now id.member id.founders (recipients id past) tombstone (heard past)) known_same))

-- ---- a call that makes a change

module _ (id : Identity) (opening : ℕ) (past : List Deed) (client seq : ℕ) (ask : Ask) (reply : Reply) (change : Change) (to : ℕ) where
  looked_made : (looked : ℕ) → id.founders ≤ 8 → record { reply = reply; made = Some change; to = to } ≡ call_gives id opening past ask
      → IsLooked id looked past → IsLooked id looked (Call client to seq ask reply (Some change) ∷ past)
  unfolding is_stable_now recipients
  looked_made looked few gives was =
      looked_still id looked (Call client to seq ask reply (Some change)) past (omega arith) (λ key slot found. at_key key slot (bytes_eq change.key key)
      (sym (slot_after (Call client to seq ask reply (Some change)) past change
      (λ key. stands_after key change past (bytes_eq change.key key) refl (win key)) win key) ∙ found))
      (λ tombstone. stable_still id looked (Call client to seq ask reply (Some change)) past tombstone few refl
      (heard_next (Call client to seq ask reply (Some change)) past)
      (stable_own id.member id.founders (recipients id past) tombstone (id_of change) (heard past) (known past) 8 made.member_is)) was
    where
      made : IsMade id opening past (key_of ask) change
      made = made_by_call id opening past ask reply change to gives

      win : (key : List ℕ) → bytes_eq change.key key ≡ true → wins change (standing key past) ≡ true
      win = made_wins id opening past (key_of ask) change made

      at_key : (key : List ℕ) (slot : Slot) (b : Bool)
          → (if b then Some (slot_from change (clock past)) else slot_of (standing key past) (since key past)) ≡ Some slot
          → (slot_of (standing key past) (since key past) ≡ Some slot) ⊎ (clock past ≤ slot.taken_at)
      at_key key slot true is =
          let same : slot_from change (clock past) ≡ slot = cc in
          inr (subst (λ (s : Slot). clock past ≤ s.taken_at) same (omega arith))
      at_key key slot false is = inl is

-- ---- a sweep

-- of a key that is among these and isn't named by those that pass
not_named : (test : List ℕ → Bool) (key : List ℕ) (keys : List (List ℕ)) → list_any (is_at (slice_cmp nat_cmp key)) keys ≡ true
    → names key (filter test keys) ≡ false → test key ≡ false
not_named test key [] among unnamed = absurd cc
not_named test key (first ∷ keys) among unnamed =
    at_first (is_at (slice_cmp nat_cmp key) first) (test first) refl refl among unnamed (not_named test key keys)
  where
    same : is_at (slice_cmp nat_cmp key) first ≡ true → key ≡ first
    same is = (bytes_eq-Decides key first).0 (sym (is_eq-slice_cmp key first) ∙ is)

    itself : bytes_eq first first ≡ true
    itself = (bytes_eq-Decides first first).1 refl

    later : (b : Bool) → (b || names key (filter test keys)) ≡ false → names key (filter test keys) ≡ false
    later true is = absurd cc
    later false is = is

    at_first : (b c : Bool) → is_at (slice_cmp nat_cmp key) first ≡ b → test first ≡ c
        → (b || list_any (is_at (slice_cmp nat_cmp key)) keys) ≡ true
        → names key (if c then first ∷ filter test keys else filter test keys) ≡ false
        → (list_any (is_at (slice_cmp nat_cmp key)) keys ≡ true → names key (filter test keys) ≡ false → test key ≡ false) → test key ≡ false
    at_first true true b_is c_is among unnamed rest =
        absurd (let named : bytes_eq first key ≡ true = subst (λ k. bytes_eq first k ≡ true) (sym (same b_is)) itself in
        let is : (bytes_eq first key || names key (filter test keys)) ≡ false = unnamed in
        let not_so : true ≡ false = sym (ap (λ b. b || names key (filter test keys)) named) ∙ is in cc)
    at_first true false b_is c_is among unnamed rest = subst (λ k. test k ≡ false) (sym (same b_is)) c_is
    at_first false true b_is c_is among unnamed rest = rest among (later (bytes_eq first key) unnamed)
    at_first false false b_is c_is among unnamed rest = rest among unnamed

-- what has timed out and isn't due isn't stable
undue : (id : Identity) (moment : ℕ) (past : List Deed) (key : List ℕ) (slot : Slot) → is_due id moment past key ≡ false
    → slot_of (standing key past) (since key past) ≡ Some slot → is_removal slot.kind ≡ true
    → nat_le 600 (max moment (clock past) - slot.taken_at) ≡ true → is_stable id (id_in slot) past ≡ false
undue id moment past key slot not_due found removal late = at_standing (standing key past) not_due found
  where
    at_standing : (o : Option Change) → is_due_from id moment o (since key past) past ≡ false → slot_of o (since key past) ≡ Some slot
        → is_stable id (id_in slot) past ≡ false
    at_standing None undue_ is = absurd cc
    at_standing (Some change) undue_ is =
        let same : slot_from change (since key past) ≡ slot = cc in
        let removes : is_removal change.kind ≡ true = subst (λ (s : Slot). is_removal s.kind ≡ true) (sym same) removal in
        let out : nat_le 600 (max moment (clock past) - since key past) ≡ true =
        subst (λ (s : Slot). nat_le 600 (max moment (clock past) - s.taken_at) ≡ true) (sym same) late in
        subst (λ (s : Slot). is_stable id (id_in s) past ≡ false) same (rw (removes, out) at undue_)

looked_swept : (id : Identity) (looked moment : ℕ) (expired : List (List ℕ)) (past : List Deed) → id.founders ≤ 8
    → expired ≡ due id moment past → IsLooked id looked past
    → IsLooked id (max looked (max moment (clock past) - 599)) (Swept moment expired ∷ past)
unfolding recipients
looked_swept id looked moment expired past few is was = record {
  passed = let passed = was.passed in omega (arith, passed);
  unstable = λ key slot found removal early.
      stable_still id looked (Swept moment expired) past (id_in slot) few refl (heard_next (Swept moment expired) past) refl
      ∙ at_named key slot removal early (names key expired) refl found;
}
  where
    left : List ℕ → Bool → Option Change
    left key b = winner key (if b then [] else lasting key past)

    at_named : (key : List ℕ) (slot : Slot) → is_removal slot.kind ≡ true → slot.taken_at < max looked (max moment (clock past) - 599)
        → (b : Bool) → names key expired ≡ b
        → slot_of (standing key (Swept moment expired ∷ past)) (since key (Swept moment expired ∷ past)) ≡ Some slot
        → is_stable id (id_in slot) past ≡ false
    at_named key slot removal early true named found =
        absurd (let none : None ≡ Some slot =
        sym (ap (λ o. slot_of o (since key (Swept moment expired ∷ past))) (ap (left key) named)) ∙ found in cc)
    at_named key slot removal early false named found = at_moment (nat_lt slot.taken_at looked) refl
      where
        before : slot_of (standing key past) (since key past) ≡ Some slot
        before = sym (unchanged key (Swept moment expired) past (ap (left key) named)) ∙ found

        at_moment : (b : Bool) → nat_lt slot.taken_at looked ≡ b → is_stable id (id_in slot) past ≡ false
        at_moment true sooner = was.unstable key slot before removal (grind (arith, nat_tests))
        at_moment false sooner =
            undue id moment past key slot
            (not_named (is_due id moment past) key (keys_of (changes past)) (slot_stands past key slot before)
            (subst (λ keys. names key keys ≡ false) is named))
            before removal (grind (arith, nat_tests))

-- ---- all together

-- By a lawful deed.
looked_next : (id : Identity) (opening looked : ℕ) (deed : Deed) (past : List Deed) → id.founders ≤ 8 → IsLawfulDeed id opening deed past
    → IsLooked id looked past → IsLooked id (looked_after deed (clock (deed ∷ past)) looked) (deed ∷ past)
unfolding recipients
looked_next id opening looked (Call client to seq ask reply None) past few is was =
    looked_same id looked (Call client to seq ask reply None) past few (omega arith) refl (heard_next (Call client to seq ask reply None) past)
    refl (λ key. refl) was
looked_next id opening looked (Call client to seq ask reply (Some change)) past few is was =
    looked_made id opening past client seq ask reply change to looked few is was
looked_next id opening looked (Asked client seq ask reply) past few is was =
    looked_same id looked (Asked client seq ask reply) past few (omega arith) refl (heard_next (Asked client seq ask reply) past) refl
    (λ key. refl) was
looked_next id opening looked (Taken change verdict) past few is was = looked_nothing id (Taken change verdict ∷ past)
looked_next id opening looked (Gave to what) past few is was = looked_nothing id (Gave to what ∷ past)
looked_next id opening looked (Imaged image) past few is was = looked_nothing id (Imaged image ∷ past)
looked_next id opening looked (Reported report) past few is was =
    looked_same id looked (Reported report) past few (omega arith) refl (heard_next (Reported report) past) refl (λ key. refl) was
looked_next id opening looked (Heard report) past few is was = looked_nothing id (Heard report ∷ past)
looked_next id opening looked (Swept moment expired) past few is was = looked_swept id looked moment expired past few is was

-- Where all is kept behind a deed.
pub looked_on : (id : Identity) (opening looked : ℕ) (now : Kept) (deed : Deed) (past : List Deed) → IsKept id opening now (deed ∷ past)
    → IsLooked id looked past → IsLooked id (looked_after deed now.clock looked) (deed ∷ past)
looked_on id opening looked now deed past kept was =
    let place = kept.place in
    let founded = place.founded in
    let few = place.few in
    subst (λ clock_. IsLooked id (looked_after deed clock_ looked) (deed ∷ past)) (sym kept.clocked)
    (looked_next id opening looked deed past (omega (arith, founded, few)) kept.lawful.0 was)
