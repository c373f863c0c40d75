-- What is known and was taken in stays so, whatever is done.
use Rattle.std.proofs.Common.{◌≡◌, ℕ, List, [], ◌∷◌, Bool, true, false, ◌&&◌, ◌||◌, ◌==◌, refl, sym, subst}
use Rattle.std.proofs.Common.{inl, inr, reverse, if◌then◌else◌}
use Rattle.std.proofs.lemmas.List.{reverse-reverse}
use Rattle.gr_stamp.specs.declared.change.Change.{Change}
use Rattle.gr_vector.specs.Ids.{Id, has_id}
use Rattle.gr_vector.proofs.Order.{same_id_itself}
use Rattle.gr_history.specs.declared.deed.Deed.{Deed}
use Rattle.gr_history.specs.declared.deed.Deed.TheVariants.{Call, Asked, Taken, Gave, Imaged, Reported, Heard, Swept}
use Rattle.gr_history.specs.Ids.{id_of, ids_at, ids}
use Rattle.gr_law.specs.Grids.{Among}
use Rattle.gr_law.proofs.Lists.{among_reverse, has_right}
use Rattle.gr_law.proofs.Steps.{true_isnt_false}
use Rattle.gr_script.specs.Rules.{Heading}
use Rattle.gr_world.specs.Events.{Event, Did, put_if, history}
use Rattle.gr_world.specs.Doings.{Doing, Takes, deed_of}
use Rattle.gr_world.specs.Courses.{does, identity_at, unless, takes_new, takes_new_all}
use Rattle.gr_world.specs.Departures.{if_of, taken_of}
use Rattle.gr_world.proofs.Walks.{Keeps, takes_keep}
use Rattle.gr_world.proofs.Events.{at_put, equal_numbers, history_here}
use Rattle.gr_world.specs.Shut.{Knows, HasTaken}

pub isnt_true : false ≡ true → ⊥
isnt_true e = true_isnt_false (sym e)

pub or_right : (a b : Bool) → (a || b) ≡ false → b ≡ false
or_right false b h = h
or_right true b h = absurd (true_isnt_false h)

pub or_first : (a b : Bool) → a ≡ true → (a || b) ≡ true
or_first true b h = refl
or_first false b h = absurd (isnt_true h)

pub or_second : (a b : Bool) → b ≡ true → (a || b) ≡ true
or_second true b h = refl
or_second false b h = h

pub into_reverse : {A : Type 0} → (x : A) (xs : List A) → Among x xs → Among x (reverse xs)
into_reverse x xs a = among_reverse x (reverse xs) (subst (Among x) (sym (reverse-reverse xs)) a)

-- what is known stays known
pub still_known : (heading : Heading) (j t m s : ℕ) (id : Id) (doing : Doing) → Keeps (Knows j t id) (does heading m s doing)
still_known heading j t m s id doing now h =
    at_put (λ past. has_id id (ids past) ≡ true) (t == s && j == m)
    (deed_of (identity_at heading m s) heading.floor (history m s now) doing) (history j t now) h
    (λ a. has_right id (ids_at (deed_of (identity_at heading m s) heading.floor (history m s now) doing)) (ids (history j t now)) a)

if_more : (of : ℕ) (one : Change) (rest : List Change) (change : Change) → Among change rest → Among change (if_of of one rest)
if_more of one rest change a = at_test (one.stamp.member == of)
  where
    at_test : (b : Bool) → Among change (if b then one ∷ rest else rest)
    at_test true = inr a
    at_test false = a

pub more_taken : (of : ℕ) (deed : Deed) (past : List Deed) (change : Change) → Among change (taken_of of past)
    → Among change (taken_of of (deed ∷ past))
more_taken of (Call client to seq ask reply made) past change a = a
more_taken of (Asked client seq ask reply) past change a = a
more_taken of (Taken one verdict) past change a = if_more of one (taken_of of past) change a
more_taken of (Gave to what) past change a = a
more_taken of (Imaged image) past change a = a
more_taken of (Reported report) past change a = a
more_taken of (Heard report) past change a = a
more_taken of (Swept moment expired) past change a = a

pub still_taken : (heading : Heading) (of j t m s : ℕ) (change : Change) (doing : Doing)
    → Keeps (HasTaken of j t change) (does heading m s doing)
still_taken heading of j t m s change doing now h =
    at_put (λ past. Among change (taken_of of past)) (t == s && j == m)
    (deed_of (identity_at heading m s) heading.floor (history m s now) doing) (history j t now) h
    (λ a. more_taken of (deed_of (identity_at heading m s) heading.floor (history m s now) doing) (history j t now) change a)

-- What was taken in is of the member, and known.
pub record IsTaken (of : ℕ) (past : List Deed) (change : Change) : Type 0 where
  pub of_member : change.stamp.member ≡ of
  pub known : has_id (id_of change) (ids past) ≡ true

taken_more : (of : ℕ) (deed : Deed) (past : List Deed) (change : Change) → IsTaken of past change → IsTaken of (deed ∷ past) change
taken_more of deed past change t =
    record { of_member = t.of_member; known = has_right (id_of change) (ids_at deed) (ids past) t.known }

has_first : (id : Id) (rest : List Id) → has_id id (id ∷ rest) ≡ true
has_first id rest = rw (same_id_itself id) refl

pub is_taken : (of : ℕ) (past : List Deed) (change : Change) → Among change (taken_of of past) → IsTaken of past change
is_taken of [] change a = absurd a
is_taken of (Call client to seq ask reply made ∷ past) change a =
    taken_more of (Call client to seq ask reply made) past change (is_taken of past change a)
is_taken of (Asked client seq ask reply ∷ past) change a =
    taken_more of (Asked client seq ask reply) past change (is_taken of past change a)
is_taken of (Taken one verdict ∷ past) change a = at_test (one.stamp.member == of) refl (is_taken of past change) a
  where
    same : (one.stamp.member == of) ≡ true → one.stamp.member ≡ of
    same h = equal_numbers one.stamp.member of h

    at_test : (b : Bool) → (one.stamp.member == of) ≡ b → (Among change (taken_of of past) → IsTaken of past change)
        → Among change (if b then one ∷ taken_of of past else taken_of of past) → IsTaken of (Taken one verdict ∷ past) change
    at_test true e next (inl is) = subst (IsTaken of (Taken one verdict ∷ past)) (sym is)
        (record { of_member = same e; known = has_first (id_of one) (ids past) })
    at_test true e next (inr a) = taken_more of (Taken one verdict) past change (next a)
    at_test false e next a = taken_more of (Taken one verdict) past change (next a)
is_taken of (Gave to what ∷ past) change a = taken_more of (Gave to what) past change (is_taken of past change a)
is_taken of (Imaged image ∷ past) change a = taken_more of (Imaged image) past change (is_taken of past change a)
is_taken of (Reported report ∷ past) change a = taken_more of (Reported report) past change (is_taken of past change a)
is_taken of (Heard report ∷ past) change a = taken_more of (Heard report) past change (is_taken of past change a)
is_taken of (Swept moment expired ∷ past) change a = taken_more of (Swept moment expired) past change (is_taken of past change a)

-- whoever takes in changes knows them
pub takes_knows : (heading : Heading) (member shard : ℕ) (changes : List Change) (change : Change) → Among change changes
    → (now : List Event) → Knows member shard (id_of change) (takes_new_all heading member shard changes now)
takes_knows heading member shard [] change a now = absurd a
takes_knows heading member shard (first ∷ rest) change (inr a) now =
    takes_knows heading member shard rest change a (takes_new heading member shard first now)
takes_knows heading member shard (first ∷ rest) change (inl is) now =
    takes_keep heading member shard (Knows member shard (id_of change)) rest
    (λ one a. still_known heading member shard member shard (id_of change) (Takes one)) (takes_new heading member shard first now)
    (subst (λ c. Knows member shard (id_of c) (takes_new heading member shard first now)) (sym is)
    (at_test (has_id (id_of first) (ids (history member shard now))) refl))
  where
    at_test : (b : Bool) → has_id (id_of first) (ids (history member shard now)) ≡ b
        → Knows member shard (id_of first) (unless b (does heading member shard (Takes first)) now)
    at_test true e = e
    at_test false e =
        subst (λ past. has_id (id_of first) (ids past) ≡ true)
        (sym (history_here member shard
        (deed_of (identity_at heading member shard) heading.floor (history member shard now) (Takes first)) now))
        (has_first (id_of first) (ids (history member shard now)))

-- each deed of each history is so
abbrev pub AreAll : (ℕ → Deed → Type 0) → List Event → Type 0
AreAll Q now = (j shard : ℕ) (deed : Deed) → Among deed (history j shard now) → Q j deed

pub all_did : (Q : ℕ → Deed → Type 0) (m s : ℕ) (deed : Deed) (now : List Event) → Q m deed → AreAll Q now
    → AreAll Q (Did m s deed ∷ now)
all_did Q m s deed now new h j shard one = at_test (shard == s) (j == m) refl
  where
    at_test : (a b : Bool) → (j == m) ≡ b → Among one (put_if (a && b) deed (history j shard now)) → Q j one
    at_test true true e (inl is) = subst (λ i. Q i one) (sym (equal_numbers j m e)) (subst (Q m) (sym is) new)
    at_test true true e (inr a) = h j shard one a
    at_test true false e a = h j shard one a
    at_test false b e a = h j shard one a
