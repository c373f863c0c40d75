-- Numbers added up over clients and members.
use Rattle.std.proofs.Common.{◌≡◌, ℕ, zero, suc, ◌+◌, ◌-◌, ◌<◌, ◌≤◌, ◌⊎◌, ◌==◌, Bool, true, false, List, [], ◌∷◌, map, cond}
use Rattle.std.proofs.Common.{refl, ap, arith, inl, inr, ne_eqb}
use Rattle.std.specs.Prelude.{count_by}
use Rattle.std.specs.List.{AllByRecursion}
use Rattle.std.proofs.lemmas.Bool.Decides.{nat_tests}
use Rattle.gr_post.specs.declared.mail.Mail.{Mail}
use Rattle.gr_post.specs.declared.mail.Posted.{Posted}
use Rattle.gr_post.specs.Mails.{of}
use Rattle.gr_run_law.specs.Plans.{total_to}
use Rattle.gr_run_law.proofs.Lists.{count_cons, same_number}

pub total_same : (n : ℕ) (f g : ℕ → ℕ) → ((k : ℕ) → 1 ≤ k → k ≤ n → f k ≡ g k) → total_to n f ≡ total_to n g
total_same zero f g same = refl
total_same (suc n) f g same =
    let a = total_same n f g (λ k low high. same k low (omega arith)) in
    let b = same (suc n) (omega arith) (omega arith) in omega arith

pub total_plus : (n : ℕ) (f g : ℕ → ℕ) → total_to n (λ k. f k + g k) ≡ total_to n f + total_to n g
total_plus zero f g = omega arith
total_plus (suc n) f g = let a = total_plus n f g in omega arith

pub total_none : (n : ℕ) (f : ℕ → ℕ) → ((k : ℕ) → 1 ≤ k → k ≤ n → f k ≡ 0) → total_to n f ≡ 0
total_none zero f none = refl
total_none (suc n) f none =
    let a = total_none n f (λ k low high. none k low (omega arith)) in
    let b = none (suc n) (omega arith) (omega arith) in omega arith

pub total_one : (n p x : ℕ) → 1 ≤ p → p ≤ n → total_to n (λ k. cond (p == k) x 0) ≡ x
total_one zero p x low high = absurd (omega arith)
total_one (suc n) p x low high = at_case (λ le. total_one n p x low le) (below p n)
  where
    below : (a b : ℕ) → (a ≤ b) ⊎ (b < a)
    below a b = grind arith

    at_case : (p ≤ n → total_to n (λ k. cond (p == k) x 0) ≡ x) → (p ≤ n) ⊎ (n < p)
        → total_to n (λ k. cond (p == k) x 0) + cond (p == suc n) x 0 ≡ x
    at_case next (inl le) =
        let a = next le in
        let b : cond (p == suc n) x 0 ≡ 0 = rw (ne_eqb p (suc n) (λ e. absurd (omega arith))) refl in omega arith
    at_case next (inr lt) =
        let a = total_none n (λ k. cond (p == k) x 0) (λ k low' high'. rw (ne_eqb p k (λ e. absurd (omega arith))) refl) in
        let e : p ≡ suc n = omega arith in
        let b : cond (p == suc n) x 0 ≡ x = rw (e, same_number (suc n)) refl in omega arith

shift_one : (p c : ℕ) → 1 ≤ c → (p == c - 1) ≡ (p + 1 == c)
shift_one p c low = grind (arith, nat_tests)

shift_more : (p n o : ℕ) → 1 ≤ o → n ≤ p → (p == n + (o - 1)) ≡ (p - n + 1 == o)
shift_more p n o low more = grind (arith, nat_tests)

-- a number of one sender is added once
one_sender : (n m p x : ℕ) → p < n + m → total_to n (λ c. cond (p == c - 1) x 0) + total_to m (λ o. cond (p == n + (o - 1)) x 0) ≡ x
one_sender n m p x less = at_case (below p n)
  where
    below : (a b : ℕ) → (a < b) ⊎ (b ≤ a)
    below a b = grind arith

    at_case : (p < n) ⊎ (n ≤ p) → total_to n (λ c. cond (p == c - 1) x 0) + total_to m (λ o. cond (p == n + (o - 1)) x 0) ≡ x
    at_case (inl lt) =
        let a = total_same n (λ c. cond (p == c - 1) x 0) (λ c. cond (p + 1 == c) x 0)
        (λ c low high. ap (λ b. cond b x 0) (shift_one p c low)) in
        let b = total_one n (p + 1) x (omega arith) (omega arith) in
        let c = total_none m (λ o. cond (p == n + (o - 1)) x 0) (λ o low high. rw (ne_eqb p (n + (o - 1)) (λ e. absurd (omega arith))) refl)
        in
        omega arith
    at_case (inr ge) =
        let a = total_same m (λ o. cond (p == n + (o - 1)) x 0) (λ o. cond (p - n + 1 == o) x 0)
        (λ o low high. ap (λ b. cond b x 0) (shift_more p n o low ge)) in
        let b = total_one m (p - n + 1) x (omega arith) (omega arith) in
        let c = total_none n (λ c. cond (p == c - 1) x 0) (λ c low high. rw (ne_eqb p (c - 1) (λ e. absurd (omega arith))) refl) in
        omega arith

count_of : (test : Mail → Bool) (q : ℕ) (p : Posted) (taken : List Posted)
    → count_by test (of q (p ∷ taken)) ≡ cond (p.from == q) (cond (test p.mail) 1 0) 0 + count_by test (of q taken)
count_of test q p taken = at_test (p.from == q)
  where
    at_test : (b : Bool) → count_by test (cond b (p.mail ∷ of q taken) (of q taken))
        ≡ cond b (cond (test p.mail) 1 0) 0 + count_by test (of q taken)
    at_test true = count_cons test p.mail (of q taken)
    at_test false = omega arith

-- What was taken is, in number, what was taken of each sender.
pub by_senders : (test : Mail → Bool) (n m : ℕ) (taken : List Posted) → AllByRecursion (λ (p : Posted). p.from < n + m) taken
    → count_by test (map (λ (p : Posted). p.mail) taken)
    ≡ total_to n (λ c. count_by test (of (c - 1) taken)) + total_to m (λ o. count_by test (of (n + (o - 1)) taken))
by_senders test n m [] all =
    let a = total_none n (λ c. 0) (λ k low high. refl) in let b = total_none m (λ o. 0) (λ k low high. refl) in omega arith
by_senders test n m (p ∷ taken) all =
    let rest = by_senders test n m taken all.1 in
    let first = count_cons test p.mail (map (λ (p : Posted). p.mail) taken) in
    let one = one_sender n m p.from (cond (test p.mail) 1 0) all.0 in
    let a = total_same n (λ c. count_by test (of (c - 1) (p ∷ taken)))
    (λ c. cond (p.from == c - 1) (cond (test p.mail) 1 0) 0 + count_by test (of (c - 1) taken))
    (λ c low high. count_of test (c - 1) p taken) in
    let b = total_plus n (λ c. cond (p.from == c - 1) (cond (test p.mail) 1 0) 0) (λ c. count_by test (of (c - 1) taken)) in
    let d = total_same m (λ o. count_by test (of (n + (o - 1)) (p ∷ taken)))
    (λ o. cond (p.from == n + (o - 1)) (cond (test p.mail) 1 0) 0 + count_by test (of (n + (o - 1)) taken))
    (λ o low high. count_of test (n + (o - 1)) p taken) in
    let e = total_plus m (λ o. cond (p.from == n + (o - 1)) (cond (test p.mail) 1 0) 0) (λ o. count_by test (of (n + (o - 1)) taken)) in
    omega arith
