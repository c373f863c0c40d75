-- What is owed or given as often as once is known.
use Rattle.std.proofs.Common.{◌≡◌, ℕ, zero, suc, ◌+◌, ◌%◌, ◌<◌, ◌≤◌, ◌⊎◌, ◌==◌, Bool, true, false}
use Rattle.std.proofs.Common.{List, [], ◌∷◌, map, Some}
use Rattle.std.proofs.Common.{refl, sym, ap, ◌∙◌, subst, arith, inl, inr, reverse, if◌then◌else◌, cond}
use Rattle.std.specs.Prelude.{count_by}
use Rattle.std.specs.List.{filter_map}
use Rattle.gr_stamp.specs.declared.change.Change.{Change}
use Rattle.gr_vector.specs.Ids.{Id, has_id, is_same_id}
use Rattle.gr_history.specs.declared.deed.Deed.{Deed}
use Rattle.gr_history.specs.declared.deed.Deed.TheVariants.{Call, Asked, Taken, Gave, Imaged, Reported, Heard, Swept}
use Rattle.gr_history.specs.Ids.{id_of, ids_at, ids}
use Rattle.gr_history.specs.Deeds.{taken_in}
use Rattle.gr_law.specs.Grids.{Among}
use Rattle.gr_law.proofs.Images.{among_filter_map}
use Rattle.gr_law.proofs.Lists.{among_reverse, has_left, has_right}
use Rattle.gr_post.specs.declared.mail.Mail.{Mail}
use Rattle.gr_post.specs.Plan.{Draw}
use Rattle.gr_post.specs.Laws.{owed, times}
use Rattle.gr_run_law.specs.Plans.{total_to}
use Rattle.gr_run_law.proofs.Lists.{count_cons, none_isnt_some, same_in_some}

-- ---- numbers and counts

pub total_at : (n : ℕ) (f : ℕ → ℕ) (k : ℕ) → 1 ≤ k → k ≤ n → f k ≤ total_to n f
total_at zero f k low high = absurd (omega arith)
total_at (suc n) f k low high = at_case (λ le. total_at n f k low le) (below k n)
  where
    below : (a b : ℕ) → (a ≤ b) ⊎ (b < a)
    below a b = grind arith

    at_case : (k ≤ n → f k ≤ total_to n f) → (k ≤ n) ⊎ (n < k) → f k ≤ total_to n f + f (suc n)
    at_case next (inl le) = let a = next le in omega arith
    at_case next (inr lt) = let e : k ≡ suc n = omega arith in rw e (omega arith)

pub among_count : {A : Type 0} (test : A → Bool) (x : A) (xs : List A) → Among x xs → test x ≡ true → 1 ≤ count_by test xs
among_count test x [] a is = absurd a
among_count test x (y ∷ xs) (inl same) is =
    let c = count_cons test y xs in
    let e : cond {A = ℕ} (test y) 1 0 ≡ 1 = rw (sym (ap test same) ∙ is) refl in omega arith
among_count test x (y ∷ xs) (inr a) is = let c = count_cons test y xs in let n = among_count test x xs a is in omega arith

count_some : {A : Type 0} (test : A → Bool) (xs : List A) → 1 ≤ count_by test xs → (x : A) × Among x xs × (test x ≡ true)
count_some test [] le = absurd (omega arith)
count_some test (x ∷ xs) le = at_test (test x) refl (λ more. count_some test xs more)
  where
    at_test : (b : Bool) → test x ≡ b → (1 ≤ count_by test xs → (y : _) × Among y xs × (test y ≡ true)) → (y : _)
        × Among y (x ∷ xs) × (test y ≡ true)
    at_test true e next = (x, inl refl, e)
    at_test false e next =
        let c = count_cons test x xs in
        let z : cond {A = ℕ} (test x) 1 0 ≡ 0 = rw e refl in
        let r = next (omega arith) in (r.0, inr r.1, r.2)

pub owed_some : (test : Mail → Bool) (ds : List Draw) (m : Mail) → Among m (map (λ (d : Draw). d.mail) ds) → test m
    ≡ true → 1 ≤ owed test ds
owed_some test [] m a is = absurd a
owed_some test (d ∷ ds) m (inl same) is =
    let e : test d.mail ≡ true = sym (ap test same) ∙ is in
    let o : owed test (d ∷ ds) ≡ times d.number + owed test ds = ap (λ b. (if b then times d.number else 0) + owed test ds) e in
    let t = some_times (d.number % 4 == 1) in
    omega arith
  where
    some_times : (b : Bool) → 1 ≤ (if b then 2 else 1)
    some_times true = omega arith
    some_times false = omega arith
owed_some test (d ∷ ds) m (inr a) is = let n = owed_some test ds m a is in omega arith

-- ---- what is known

pub ids_among : (i : Id) (d : Deed) (h : List Deed) → Among d h → has_id i (ids_at d) ≡ true → has_id i (ids h) ≡ true
ids_among i d [] a is = absurd a
ids_among i d (first ∷ past) (inl same) is = has_left i (ids_at first) (ids past) (subst (λ x. has_id i (ids_at x) ≡ true) same is)
ids_among i d (first ∷ past) (inr a) is = has_right i (ids_at first) (ids past) (ids_among i d past a is)

taken_known : (d : Deed) (change : Change) (i : Id) → taken_in d ≡ Some change → is_same_id (id_of change) i ≡ true
    → has_id i (ids_at d) ≡ true
taken_known (Call client to seq ask reply own) change i e is = absurd (none_isnt_some change e)
taken_known (Asked client seq ask reply) change i e is = absurd (none_isnt_some change e)
taken_known (Taken own verdict) change i e is =
    let same : is_same_id (id_of own) i ≡ true = ap (λ c. is_same_id (id_of c) i) (same_in_some own change e) ∙ is in rw same refl
taken_known (Gave to what) change i e is = absurd (none_isnt_some change e)
taken_known (Imaged image) change i e is = absurd (none_isnt_some change e)
taken_known (Reported report) change i e is = absurd (none_isnt_some change e)
taken_known (Heard report) change i e is = absurd (none_isnt_some change e)
taken_known (Swept moment expired) change i e is = absurd (none_isnt_some change e)

-- where a change with this id was taken in, it is known
pub counted_known : (i : Id) (h : List Deed) → 1 ≤ count_by (λ change. is_same_id (id_of change) i) (filter_map taken_in (reverse h))
    → has_id i (ids h) ≡ true
counted_known i h le =
    let c = count_some (λ change. is_same_id (id_of change) i) (filter_map taken_in (reverse h)) le in
    let d = among_filter_map taken_in c.0 (reverse h) c.1 in
    ids_among i d.0 h (among_reverse d.0 h d.1) (taken_known d.0 c.0 i d.2 c.2)
