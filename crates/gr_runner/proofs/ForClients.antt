-- Passes while they are dealt to clients.
use Rattle.std.proofs.Common.{◌≡◌, ◌≢◌, ℕ, zero, suc, ◌+◌, ◌-◌, ◌<◌, ◌≤◌, ◌==◌, Bool, List, [], ◌∷◌, ◌++◌, length, get_or, count_by, take, cond}
use Rattle.std.proofs.Common.{refl, sym, ap, ◌∙◌, subst, arith, reverse, flat_map, if◌then◌else◌, append_assoc, ne_eqb, length-append}
use Rattle.std.specs.List.{AllByRecursion}
use Rattle.std.proofs.lemmas.List.{take_all}
use Rattle.std.proofs.lemmas.List.Sums.{sum_by_more, sum_by_more_le}
use mathlib.Core.Logic.{dite}
use native.Mathlib.Decide.{ℕ_discrete}
use Rattle.gr_run_law.proofs.Lists.{same_number}
use Rattle.gr_script.specs.Rules.{AreWithin, Heading, IsWithin}
use Rattle.gr_member.specs.Seats.{Place}
use Rattle.gr_member.proofs.Leaving.{empty_of}
use Rattle.gr_runner.specs.declared.slots.ClientKit.{ClientKit}
use Rattle.gr_runner.specs.declared.slots.Slot.{Slot}
use Rattle.gr_runner.specs.Dealing.{AddsClients, AreAtHome, AreDealtTo, AreForClients, IsClientSlot, dealt_at, worker_at}
use Rattle.gr_runner.proofs.Dealings.{client_slots_more, dealt_then, one_thread, own_count, turned_one}

-- ---- lists

at_middle : {E : Type 0} (xs ys : List E) (x d : E) → get_or (xs ++ x ∷ ys) (length xs) d ≡ x
at_middle [] ys x d = refl
at_middle (first ∷ xs) ys x d = at_middle xs ys x d

pub all_of_each : {E : Type 0} (P : E → Type 0) (xs : List E) → ((k : ℕ) (x : E) → k < length xs → P (get_or xs k x)) → AllByRecursion P xs
all_of_each P [] each = tt
all_of_each P (x ∷ xs) each = (each zero x (omega arith), all_of_each P xs (λ k y l. each (suc k) y (omega (arith, l))))

pub within_get : (least most : ℕ) (numbers : List ℕ) (i d : ℕ) → AreWithin least most numbers → i < length numbers
    → IsWithin least most (get_or numbers i d)
within_get least most [] i d are less = absurd (omega (arith, less))
within_get least most (number ∷ numbers) zero d are less = are.0
within_get least most (number ∷ numbers) (suc i) d are less = within_get least most numbers i d are.1 (omega (arith, less))

-- ---- how many clients of a member

-- one for the client, where it is at the member of this place
abbrev one_at : ℕ → ℕ → ℕ
one_at m home = cond (home == suc m) 1 0

same_test : (home m : ℕ) → 1 ≤ home → ((home - 1) == m) ≡ (home == suc m)
same_test home m some = dite (ℕ_discrete home (suc m))
    (λ (is : home ≡ suc m).
    let less : home - 1 ≡ m = omega (arith, is) in
    (ap (λ (i : ℕ). i == m) less ∙ same_number m) ∙ sym (ap (λ (i : ℕ). i == suc m) is ∙ same_number (suc m)))
    (λ (ne : home ≢ suc m).
    let not : (home - 1) ≢ m = λ e. ne (omega (arith, e, some)) in
    ne_eqb (home - 1) m not ∙ sym (ne_eqb home (suc m) ne))

step_sums : (old new front more all one : ℕ) → old ≡ new + one → more ≡ front + one → old + front ≡ all → new + more ≡ all
step_sums old new front more all one e f g = omega (arith, e, f, g)

enough_sums : (left front all one : ℕ) → left + front ≡ all → front + one ≤ all → one ≡ 1 → 1 ≤ left
enough_sums left front all one e l f = omega (arith, e, l, f)

pub for_clients_none : (h : Heading) (n : ℕ) (passes : List (List (List Place))) → length h.clients ≤ n → AreForClients h n passes
    → AllByRecursion (λ left. left ≡ []) passes
for_clients_none h n passes l c = all_of_each (λ left. left ≡ []) passes (λ m x b.
    let many = c.many in
    let all = c.each m x (omega (arith, b, many))
    ∙ sym (ap (λ (xs : List ℕ). count_by (λ at. at == suc m) xs) (take_all n h.clients l)) in
    empty_of (get_or passes m x) (omega (arith, all)))

-- ---- one client more

module _ (h : Heading) (n : ℕ) (old : List (List (List Place))) (kit : ClientKit) (below : n < length h.clients) (c : AreForClients h n old)
    (some : 1 ≤ kit.plan.member) (is : kit.plan.member ≡ get_or h.clients n 0) where
  pub client_enough : kit.plan.member ≤ h.members → (x : List (List Place)) → 1 ≤ length (get_or old (kit.plan.member - 1) x)
  client_enough most x =
      let m = kit.plan.member - 1 in
      let next : kit.plan.member ≡ suc m = omega (arith, some) in
      enough_sums (length (get_or old m x)) (count_by (λ at. at == suc m) (take n h.clients)) (count_by (λ at. at == suc m) h.clients)
      (one_at m (get_or h.clients n 0)) (c.each m x (omega (arith, some, most)))
      (sum_by_more_le (one_at m) h.clients n 0 below)
      (ap (one_at m) (sym is ∙ next) ∙ ap (λ (b : Bool). cond b 1 0) (same_number (suc m)))

  pub client_more : (slot : Slot) (new : List (List (List Place))) → IsClientSlot kit slot → AreDealtTo old (slot ∷ []) new
      → AreForClients h (n + 1) new
  client_more slot new s d = record {
    many = d.many ∙ c.many;
    each = λ m x l.
        let many = c.many in
        step_sums (length (get_or old m x)) (length (get_or new m x)) (count_by (λ at. at == suc m) (take n h.clients))
        (count_by (λ at. at == suc m) (take (n + 1) h.clients)) (count_by (λ at. at == suc m) h.clients)
        (one_at m (get_or h.clients n 0))
        (ap length (d.each m x (omega (arith, l, many))) ∙ length-append (get_or new m x) (reverse (flat_map (dealt_at m) (slot ∷ [])))
        ∙ ap (λ (z : ℕ). length (get_or new m x) + z) (one m))
        (sum_by_more (one_at m) h.clients n 0 below) (c.each m x l);
  }
    where
      here : (m : ℕ) → dealt_at m slot ≡ (if (kit.plan.member - 1) == m then s.client.session.pass ∷ [] else [])
      here m = λ i. worker_at m (s.home_is i) (s.worker_is i)

      one : (m : ℕ) → length (reverse (flat_map (dealt_at m) (slot ∷ []))) ≡ one_at m (get_or h.clients n 0)
      one m =
          ap length (ap reverse (one_thread m slot ∙ here m) ∙ turned_one ((kit.plan.member - 1) == m) s.client.session.pass)
          ∙ own_count ((kit.plan.member - 1) == m) s.client.session.pass
          ∙ ap (λ (b : Bool). cond b 1 0) (same_test kit.plan.member m some) ∙ ap (one_at m) is

-- ---- kits

module _ (h : Heading) (kits front rest : List ClientKit) (kit : ClientKit) (homes : AreAtHome h kits) (e : kits ≡ front ++ kit ∷ rest) where
  pub kit_below : length front < length h.clients
  kit_below =
      let many = homes.many in
      let long : length kits ≡ length front + suc (length rest) = ap length e ∙ length-append front (kit ∷ rest) in
      omega (arith, many, long)

  pub kit_home : kit.plan.member ≡ get_or h.clients (length front) 0
  kit_home =
      let many = homes.many in
      let below = kit_below in
      sym (ap (λ (k : ClientKit). k.plan.member) (ap (λ (ks : List ClientKit). get_or ks (length front) kit) e ∙ at_middle front rest kit kit))
      ∙ homes.each (length front) 0 kit (omega (arith, many, below))

  pub kit_within : AreWithin 1 h.members h.clients → IsWithin 1 h.members kit.plan.member
  kit_within are = subst (IsWithin 1 h.members) (sym kit_home) (within_get 1 h.members h.clients (length front) 0 are kit_below)

pub kits_more : (kits front rest less : List ClientKit) (kit : ClientKit) → kits ≡ front ++ rest → rest ≡ kit ∷ less
    → kits ≡ (front ++ kit ∷ []) ++ less
kits_more kits front rest less kit e f = e ∙ ap (λ (ks : List ClientKit). front ++ ks) f ∙ sym (append_assoc front (kit ∷ []) less)

-- ---- several clients

pub added_more : (old between new : List (List (List Place))) (kits : List ClientKit) (kit : ClientKit) (front slots grown : List Slot)
    (slot : Slot) → AddsClients old kits front slots between → IsClientSlot kit slot → AreDealtTo between (slot ∷ []) new
    → grown ≡ slots ++ slot ∷ [] → AddsClients old (kits ++ kit ∷ []) front grown new
added_more old between new kits kit front slots grown slot a s d e = record {
  added = a.added ++ slot ∷ [];
  behind = e ∙ ap (λ (l : List Slot). l ++ slot ∷ []) a.behind ∙ append_assoc front a.added (slot ∷ []);
  are = client_slots_more kits (kits ++ kit ∷ []) a.added (a.added ++ slot ∷ []) kit slot a.are s refl refl;
  dealt = dealt_then old between new a.added (slot ∷ []) (a.added ++ slot ∷ []) a.dealt d refl;
}
