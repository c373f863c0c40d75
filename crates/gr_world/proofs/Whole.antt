-- A causal course is sound at each shard, and what is heard was made or closes one that departed.
use Rattle.std.proofs.Common.{◌≡◌, ◌⊎◌, ℕ, ◌≤◌, List, [], ◌∷◌, Bool, true, false, ◌&&◌, ◌==◌, refl, sym, subst, inl, inr}
use Rattle.std.proofs.Common.{if◌then◌else◌, map}
use Rattle.gr_history.specs.declared.deed.Deed.{Deed}
use Rattle.gr_history.specs.declared.deed.Deed.TheVariants.{Call, Asked, Taken, Gave, Imaged, Reported, Heard, Swept}
use Rattle.gr_history.specs.Room.{bare}
use Rattle.gr_law.specs.Grids.{Among, Grid}
use Rattle.gr_law.specs.Integrity.{IsHeardDeed, AreHeard, IsSound, IsWhole}
use Rattle.gr_script.specs.Rules.{Heading}
use Rattle.gr_world.specs.Departures.{IsClosing}
use Rattle.gr_world.specs.Events.{Event, Did, Peeked, Gathered, put_if, history}
use Rattle.gr_world.specs.Causes.{grid_at, IsNextDeed, IsCausal}
use Rattle.gr_world.specs.Histories.{AreHeardOrClosing}
use Rattle.gr_world.proofs.Events.{at_put, equal_numbers}
use Rattle.gr_world.proofs.SoundGrowth.{sound_next}

put_same : (b : Bool) (deed : Deed) (past : List Deed) → (if b then deed ∷ past else past) ≡ put_if b deed past
put_same true deed past = refl
put_same false deed past = refl

pub sound_course : (heading : Heading) (gone : List ℕ) (course : List Event) → heading.members ≤ 8 → IsCausal heading gone course
    → (shard : ℕ) → IsSound (grid_at heading shard course)
sound_course heading gone [] few h shard =
    record { few = few; lawful = λ member. tt; genuine = λ member. tt; once = λ member. tt; outside = λ member. inr refl }
sound_course heading gone (Did m s deed ∷ before) few h shard =
    at_test (shard == s) refl (sound_course heading gone before few h.1 shard)
  where
    at_test : (b : Bool) → (shard == s) ≡ b → IsSound (grid_at heading shard before)
        → IsSound (record (grid_at heading shard before) { history = λ i. put_if (b && i == m) deed (history i shard before) })
    at_test true e sound =
        sound_next (grid_at heading shard before) sound m gone deed
        (subst (λ k. IsNextDeed (grid_at heading k before) gone m deed) (sym (equal_numbers shard s e)) h.0.0)
        (λ i. put_if (i == m) deed (history i shard before)) (λ i. put_same (i == m) deed (history i shard before))
    at_test false e sound = sound
sound_course heading gone (Peeked client number peek ∷ before) few h shard = sound_course heading gone before few h.1 shard
sound_course heading gone (Gathered client number replies ∷ before) few h shard = sound_course heading gone before few h.1 shard

-- ---- reports that are heard

-- what was made stays so
still_made : (heading : Heading) (shard : ℕ) (event : Event) (before : List Event) (deed : Deed)
    → IsHeardDeed (grid_at heading shard before) deed → IsHeardDeed (grid_at heading shard (event ∷ before)) deed
still_made heading shard event before (Call client to seq ask reply made) h = tt
still_made heading shard event before (Asked client seq ask reply) h = tt
still_made heading shard event before (Taken change verdict) h = tt
still_made heading shard event before (Gave to what) h = tt
still_made heading shard event before (Imaged image) h = tt
still_made heading shard event before (Reported report) h = tt
still_made heading shard (Did m s deed) before (Heard report) h =
    at_put (λ past. Among (bare (Reported report)) (map bare past)) (shard == s && report.member == m) deed
    (history report.member shard before) h (λ a. inr a)
still_made heading shard (Peeked client number peek) before (Heard report) h = h
still_made heading shard (Gathered client number replies) before (Heard report) h = h
still_made heading shard event before (Swept moment expired) h = tt

abbrev IsOne : Heading → List ℕ → ℕ → List Event → Deed → List Deed → Type 0
IsOne heading gone shard now deed past = IsHeardDeed (grid_at heading shard now) deed ⊎ IsClosing gone deed past

still_one : (heading : Heading) (gone : List ℕ) (shard : ℕ) (event : Event) (before : List Event) (deed : Deed) (past : List Deed)
    → IsOne heading gone shard before deed past → IsOne heading gone shard (event ∷ before) deed past
still_one heading gone shard event before deed past (inl made) = inl (still_made heading shard event before deed made)
still_one heading gone shard event before deed past (inr closing) = inr closing

still_heard : (heading : Heading) (gone : List ℕ) (shard : ℕ) (event : Event) (before : List Event) (past : List Deed)
    → AreHeardOrClosing gone (grid_at heading shard before) past → AreHeardOrClosing gone (grid_at heading shard (event ∷ before)) past
still_heard heading gone shard event before [] h = tt
still_heard heading gone shard event before (deed ∷ past) h =
    (still_one heading gone shard event before deed past h.0, still_heard heading gone shard event before past h.1)

pub heard_course : (heading : Heading) (gone : List ℕ) (course : List Event) → IsCausal heading gone course → (shard member : ℕ)
    → AreHeardOrClosing gone (grid_at heading shard course) (history member shard course)
heard_course heading gone [] h shard member = tt
heard_course heading gone (Did m s deed ∷ before) h shard member =
    at_test (shard == s) (member == m) refl refl
    (still_heard heading gone shard (Did m s deed) before (history member shard before) (heard_course heading gone before h.1 shard member))
  where
    All : List Deed → Type 0
    All past = AreHeardOrClosing gone (grid_at heading shard (Did m s deed ∷ before)) past

    here : shard ≡ s → member ≡ m → IsOne heading gone shard before deed (history member shard before)
    here e f = subst (λ k. IsOne heading gone k before deed (history member k before)) (sym e)
        (subst (λ i. IsOne heading gone s before deed (history i s before)) (sym f) h.0.0.heard)

    at_test : (a b : Bool) → (shard == s) ≡ a → (member == m) ≡ b → All (history member shard before)
        → All (put_if (a && b) deed (history member shard before))
    at_test true true e f older = (
      still_one heading gone shard (Did m s deed) before deed (history member shard before)
          (here (equal_numbers shard s e) (equal_numbers member m f)),
      older,
    )
    at_test true false e f older = older
    at_test false b e f older = older
heard_course heading gone (Peeked client number peek ∷ before) h shard member =
    still_heard heading gone shard (Peeked client number peek) before (history member shard before)
    (heard_course heading gone before h.1 shard member)
heard_course heading gone (Gathered client number replies ∷ before) h shard member =
    still_heard heading gone shard (Gathered client number replies) before (history member shard before)
    (heard_course heading gone before h.1 shard member)

-- ---- where nobody departed

none_closes : (grid : Grid) (deed : Deed) (past : List Deed) → IsHeardDeed grid deed ⊎ IsClosing [] deed past → IsHeardDeed grid deed
none_closes grid deed past (inl made) = made
none_closes grid (Call client to seq ask reply made) past (inr closing) = tt
none_closes grid (Asked client seq ask reply) past (inr closing) = tt
none_closes grid (Taken change verdict) past (inr closing) = tt
none_closes grid (Gave to what) past (inr closing) = tt
none_closes grid (Imaged image) past (inr closing) = tt
none_closes grid (Reported report) past (inr closing) = tt
none_closes grid (Heard report) past (inr closing) = absurd (no closing.1)
  where
    no : false ≡ true → ⊥
    no e = cc
none_closes grid (Swept moment expired) past (inr closing) = tt

pub all_heard : (grid : Grid) (past : List Deed) → AreHeardOrClosing [] grid past → AreHeard grid past
all_heard grid [] h = tt
all_heard grid (deed ∷ past) h = (none_closes grid deed past h.0, all_heard grid past h.1)

pub whole_course : (heading : Heading) (course : List Event) → heading.members ≤ 8 → IsCausal heading [] course → (shard : ℕ)
    → IsWhole (grid_at heading shard course)
whole_course heading course few h shard = record {
  sound = sound_course heading [] course few h shard;
  heard = λ member. all_heard (grid_at heading shard course) (history member shard course) (heard_course heading [] course h shard member);
}
