-- Passes while they are dealt to threads.
use Rattle.std.proofs.Common.{◌≡◌, ◌≢◌, ℕ, suc, ◌+◌, ◌-◌, ◌<◌, ◌≤◌, ◌==◌, Bool, true, false, List, [], ◌∷◌, ◌++◌, length, get_or, Option, Some, None, count_by}
use Rattle.std.proofs.Common.{refl, sym, ap, ◌∙◌, subst, arith, reverse, flat_map, if◌then◌else◌, append_assoc, append-nil, eqb-true, ne_eqb, length-append}
use Rattle.std.specs.Prelude.{slice_get}
use Rattle.std.specs.Option.{option_to_list}
use Rattle.std.proofs.lemmas.List.{reverse-append}
use Rattle.std.proofs.lemmas.List.Concat.{flat_map-append}
use Rattle.std.proofs.lemmas.Bool.{leb-true, leb-false}
use lib.Dec.{leb}
use Rattle.std.proofs.lemmas.Option.{slice_get-get_or}
use mathlib.Core.Logic.{dite}
use native.Mathlib.Decide.{ℕ_discrete}
use Rattle.gr_run_law.proofs.Lists.{same_number}
use Rattle.gr_member.specs.Seats.{Place}
use Rattle.gr_script.specs.Rules.{Heading}
use Rattle.gr_runner.specs.declared.slots.ClientKit.{ClientKit}
use Rattle.gr_runner.specs.declared.slots.MemberKit.{MemberKit}
use Rattle.gr_runner.specs.declared.slots.Slot.{Slot}
use Rattle.gr_runner.specs.Dealing.{AreClientSlots, AreDealtTo, AreMemberSlots, AreToCome, AreVisited, HaveEnough, HaveFewer}
use Rattle.gr_runner.specs.Dealing.{IsClientSlot, IsMemberSlot, IsTaken, dealt_at, needed_at, to_come}
use Rattle.gr_runner.proofs.Ends.{at_front, at_last, one_longer}

-- ---- one pass

pub turned_one : (b : Bool) (p : List Place) → reverse (if b then p ∷ [] else []) ≡ (if b then p ∷ [] else [])
turned_one true p = refl
turned_one false p = refl

turned_visit : (o : Option (List Place)) → reverse (option_to_list o) ≡ option_to_list o
turned_visit (Some p) = refl
turned_visit None = refl

-- a pass was taken at one member
own_part : (old new : List (List (List Place))) (home k : ℕ) (x : List (List Place)) (p : List Place) → IsTaken home old p new
    → get_or old k x ≡ get_or new k x ++ (if home == k then p ∷ [] else [])
own_part old new home k x p t = dite (ℕ_discrete home k)
    (λ (is : home ≡ k).
    subst (λ (b : Bool). get_or old k x ≡ get_or new k x ++ (if b then p ∷ [] else []))
    (sym (ap (λ (i : ℕ). i == k) is ∙ same_number k))
    (subst (λ (i : ℕ). get_or old i x ≡ get_or new i x ++ p ∷ []) is (t.here x)))
    (λ (ne : home ≢ k).
    subst (λ (b : Bool). get_or old k x ≡ get_or new k x ++ (if b then p ∷ [] else []))
    (sym (ne_eqb home k ne)) (sym (t.others k x (λ e. ne (sym e))) ∙ sym (append-nil (get_or new k x))))

visit_count : (joins : Bool) (count k : ℕ) (visits : List (List Place)) → (joins ≡ true → length visits ≡ count)
    → (joins ≡ false → visits ≡ []) → k < count → length (option_to_list (slice_get visits k)) ≡ (if joins then 1 else 0)
visit_count true count k visits all none l =
    let many = all refl in
    ap (λ (o : Option (List Place)). length (option_to_list o)) (slice_get-get_or visits k [] (omega (arith, l, many)))
visit_count false count k visits all none l =
    ap (λ (vs : List (List Place)). length (option_to_list (slice_get vs k))) (none refl)

pub own_count : (b : Bool) (p : List Place) → length (if b then p ∷ [] else []) ≡ (if b then 1 else 0)
own_count true p = refl
own_count false p = refl

sum_of_two : (a b c d e f g : ℕ) → a ≡ b + d → b ≡ c + e → d ≡ f → e ≡ g → a ≡ c + (f + g)
sum_of_two a b c d e f g i j k l = omega arith

-- ---- a thread's passes

-- what stands at the front of a list of one thread
pub one_thread : (k : ℕ) (slot : Slot) → flat_map (dealt_at k) (slot ∷ []) ≡ dealt_at k slot
one_thread k slot = append-nil (dealt_at k slot)

pub dealt_member : (joins : Bool) (old between new : List (List (List Place))) (home : ℕ) (visits : List (List Place)) (p : List Place) (slot : Slot)
    → AreVisited joins old visits between → IsTaken home between p new
    → ((k : ℕ) → dealt_at k slot ≡ option_to_list (slice_get visits k) ++ (if home == k then p ∷ [] else []))
    → AreDealtTo old (slot ∷ []) new
dealt_member joins old between new home visits p slot v t is = record {
  many = t.many ∙ v.many;
  each = λ k x l.
      let visit = option_to_list (slice_get visits k) in
      let own : List (List Place) = if home == k then p ∷ [] else [] in
      v.each k x l ∙ ap (λ (r : List (List Place)). r ++ visit) (own_part between new home k x p t)
      ∙ append_assoc (get_or new k x) own visit
      ∙ ap (λ (r : List (List Place)). get_or new k x ++ r)
      (sym (ap reverse (one_thread k slot ∙ is k) ∙ reverse-append visit own
      ∙ ap (λ (r : List (List Place)). r ++ reverse visit) (turned_one (home == k) p)
      ∙ ap (λ (r : List (List Place)). own ++ r) (turned_visit (slice_get visits k))));
}

pub fewer_member : (joins : Bool) (old between new : List (List (List Place))) (home : ℕ) (visits : List (List Place)) (p : List Place)
    → AreVisited joins old visits between → IsTaken home between p new → HaveFewer home joins old new
fewer_member joins old between new home visits p v t k x l =
    let visit = option_to_list (slice_get visits k) in
    let own : List (List Place) = if home == k then p ∷ [] else [] in
    sum_of_two (length (get_or old k x)) (length (get_or between k x)) (length (get_or new k x)) (length visit) (length own)
    (if joins then 1 else 0) (if home == k then 1 else 0)
    (ap length (v.each k x l) ∙ length-append (get_or between k x) visit)
    (ap length (own_part between new home k x p t) ∙ length-append (get_or new k x) own)
    (visit_count joins (length old) k visits v.all v.none l) (own_count (home == k) p)

-- ---- several threads

-- first to these threads, and then to others
pub dealt_then : (old between new : List (List (List Place))) (first second slots : List Slot) → AreDealtTo old first between
    → AreDealtTo between second new → slots ≡ first ++ second → AreDealtTo old slots new
dealt_then old between new first second slots one two e = record {
  many = two.many ∙ one.many;
  each = λ k x l.
      let many = one.many in
      let a = flat_map (dealt_at k) first in
      let b = flat_map (dealt_at k) second in
      one.each k x l ∙ ap (λ (r : List (List Place)). r ++ reverse a) (two.each k x (omega (arith, l, many)))
      ∙ append_assoc (get_or new k x) (reverse b) (reverse a)
      ∙ ap (λ (r : List (List Place)). get_or new k x ++ r)
      (sym (ap (λ (s : List Slot). reverse (flat_map (dealt_at k) s)) e ∙ ap reverse (flat_map-append (dealt_at k) first second)
      ∙ reverse-append a b));
}

-- ---- how many are still to come

come_less : (f n k m c : ℕ) (j b : Bool) → (j ≡ true → f ≤ k) → (j ≡ false → k < f) → (b ≡ true → k ≡ m) → (b ≡ false → k ≢ m) → k < n
    → c + (1 - (k - m)) + (n - f - (k - f)) ≡ c + (1 - (k + 1 - m)) + (n - f - (k + 1 - f)) + ((if j then 1 else 0) + (if b then 1 else 0))
come_less f n k m c true true jt jf bt bf l = let i = jt refl in let e = bt refl in omega (arith, i, e, l)
come_less f n k m c true false jt jf bt bf l = let i = jt refl in let e = bf refl in omega (arith, i, e, l)
come_less f n k m c false true jt jf bt bf l = let i = jf refl in let e = bt refl in omega (arith, i, e, l)
come_less f n k m c false false jt jf bt bf l = let i = jf refl in let e = bf refl in omega (arith, i, e, l)

not_same : (k m : ℕ) → (k == m) ≡ false → k ≢ m
not_same k m f e = grind (arith)

to_come_less : (h : Heading) (k m : ℕ) → k < h.members → to_come h k m ≡ to_come h (k + 1) m + needed_at m k (leb h.founders k)
to_come_less h k m l =
    come_less h.founders h.members k m (count_by (λ at. at == suc m) h.clients) (leb h.founders k) (k == m) (leb-true h.founders k)
    (leb-false h.founders k) (eqb-true k m) (not_same k m) l

pub come_enough : (h : Heading) (k : ℕ) (passes : List (List (List Place))) → k < h.members → AreToCome h k passes
    → HaveEnough k (leb h.founders k) passes
come_enough h k passes l c m x b =
    let many = c.many in
    let all = c.each m x (omega (arith, b, many)) in
    let less = to_come_less h k m l in
    omega (arith, all, less)

pub come_more : (h : Heading) (k : ℕ) (old new : List (List (List Place))) → k < h.members → AreToCome h k old → length new ≡ length old
    → HaveFewer k (leb h.founders k) old new → AreToCome h (k + 1) new
come_more h k old new l c many fewer = record {
  many = many ∙ c.many;
  each = λ m x b.
      let count = c.many in
      let all = c.each m x b in
      let less = to_come_less h k m l in
      let gone = fewer m x (omega (arith, b, count)) in
      omega (arith, all, less, gone);
}

-- ---- kits

pairs_more : {A B : Type 0} (R : ℕ → A → B → Type 0) (xs more : List A) (ys grown : List B) (x : A) (y : B) → length ys ≡ length xs
    → more ≡ xs ++ x ∷ [] → grown ≡ ys ++ y ∷ [] → ((k : ℕ) (a : A) (b : B) → k < length xs → R k (get_or xs k a) (get_or ys k b))
    → R (length xs) x y → (k : ℕ) (a : A) (b : B) → k < length more → R k (get_or more k a) (get_or grown k b)
pairs_more {A} {B} R xs more ys grown x y many e f each last k a b l = dite (ℕ_discrete k (length xs))
    (λ (is : k ≡ length xs).
    subst (λ (v : B). R k (get_or more k a) v) (sym (at_last grown ys y k b f (is ∙ sym many)))
    (subst (λ (v : A). R k v y) (sym (at_last more xs x k a e is)) (subst (λ (i : ℕ). R i x y) (sym is) last)))
    (λ (ne : k ≢ length xs).
    let long = one_longer more xs x e in
    let less : k < length xs = omega (arith, l, ne, long) in
    subst (λ (v : B). R k (get_or more k a) v) (sym (at_front grown ys y k b f (omega (arith, less, many))))
    (subst (λ (v : A). R k v (get_or ys k b)) (sym (at_front more xs x k a e less)) (each k a b less)))

pub member_slots_more : (h : Heading) (kits more : List MemberKit) (slots grown : List Slot) (kit : MemberKit) (slot : Slot)
    → AreMemberSlots h kits slots → IsMemberSlot h.members (length kits) (leb h.founders (length kits)) kit slot → more ≡ kits ++ kit ∷ []
    → grown ≡ slots ++ slot ∷ [] → AreMemberSlots h more grown
member_slots_more h kits more slots grown kit slot are one e f = record {
  many = one_longer grown slots slot f ∙ ap (λ (z : ℕ). z + 1) are.many ∙ sym (one_longer more kits kit e);
  each = pairs_more (λ k. IsMemberSlot h.members k (leb h.founders k)) kits more slots grown kit slot are.many e f are.each one;
}

pub client_slots_more : (kits more : List ClientKit) (slots grown : List Slot) (kit : ClientKit) (slot : Slot) → AreClientSlots kits slots
    → IsClientSlot kit slot → more ≡ kits ++ kit ∷ [] → grown ≡ slots ++ slot ∷ [] → AreClientSlots more grown
client_slots_more kits more slots grown kit slot are one e f = record {
  many = one_longer grown slots slot f ∙ ap (λ (z : ℕ). z + 1) are.many ∙ sym (one_longer more kits kit e);
  each = pairs_more (λ k. IsClientSlot) kits more slots grown kit slot are.many e f are.each one;
}

-- what is known of the member of one number is known of the one of another, where the two are the same
pub at_place : (P : ℕ → Bool → Type 0) (home k founders f : ℕ) → home ≡ k → founders ≡ f → P home (leb founders home) → P k (leb f k)
at_place P home k founders f e g p = subst (λ (i : ℕ). P i (leb f i)) e (subst (λ (i : ℕ). P home (leb i home)) g p)
