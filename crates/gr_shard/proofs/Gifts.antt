-- A gift tells of what was made, and what is kept stays tied to the history by it.
use Rattle.std.proofs.Common.{◌≡◌, ◌≢◌, ◌≤◌, ◌<◌, ◌∙◌, ap, sym, refl, subst, ℕ, zero, suc, ◌+◌, ◌-◌, ◌^◌, List, [], ◌∷◌, ◌++◌}
use Rattle.std.proofs.Common.{reverse, Bool, true, false, ◌&&◌, ◌||◌, ◌==◌, not, nat_le, max, bit_or, None, Some, arith, if◌then◌else◌}
use Rattle.std.specs.Int.{bit_at}
use Rattle.std.proofs.lemmas.List.{reverse-append}
use Rattle.std.proofs.lemmas.Bool.Decides.{nat_tests}
use Rattle.std.proofs.lemmas.Nat.Bits.{bit_at-lt, bit_at-pow_other, bit_at-pow_same, bit_at_above, bit_at_or, same_from_bits}
use Rattle.gr_history.specs.declared.identity.Identity.{Identity}
use Rattle.gr_history.specs.declared.image.What.{What}
use Rattle.gr_history.specs.declared.deed.Deed.{Deed}
use Rattle.gr_history.specs.declared.deed.Deed.TheVariants.{Call, Gave}
use Rattle.gr_history.specs.Gifts.{own_changes}
use Rattle.gr_history.specs.Made.{made, made_at}
use Rattle.gr_history.specs.Recipients.{gave_to, is_recipient, member_bits, recipients}
use Rattle.gr_law.proofs.Bits.{bits_at}
use Rattle.gr_law.proofs.Turns.{turned_gave}
use Rattle.gr_stable.proofs.Counting.{heard_next}
use Rattle.gr_shard.specs.Gifts.{with_recipient}
use Rattle.gr_stable.specs.Heard.{heard}
use Rattle.gr_shard.specs.View.{IsKept, IsPlace, Kept, kept}
use Rattle.gr_shard.proofs.Following.{new_in_step, quiet_in_step}
use Rattle.gr_shard.proofs.Named.{bits_below}
use Rattle.gr_shard.proofs.Slots.{stands_unchanged}

at_most_one : (deed : Deed) → reverse (made_at deed) ≡ made_at deed
at_most_one (Call client to seq ask reply None) = refl
at_most_one (Call client to seq ask reply (Some change)) = refl
at_most_one _ = refl

-- what a deed made comes last
pub own_more : (deed : Deed) (past : List Deed) → own_changes (deed ∷ past) ≡ own_changes past ++ made_at deed
own_more deed past = reverse-append (made_at deed) (made past) ∙ ap (λ last. own_changes past ++ last) (at_most_one deed)

-- ---- whom changes go to

equal : (a b : ℕ) → (a == b) ≡ true → a ≡ b
equal a b e = grind (arith, nat_tests)

unequal : (a b : ℕ) → (a == b) ≡ false → a ≢ b
unequal a b e = grind (arith, nat_tests)

bits_same : (f g : ℕ → Bool) (n : ℕ) → ((m : ℕ) → f m ≡ g m) → member_bits f n ≡ member_bits g n
bits_same f g zero same = refl
bits_same f g (suc n) same =
    ap (λ below. below + (if f (suc n) then 2 ^ n else 0)) (bits_same f g n same)
    ∙ ap (λ b. member_bits g n + (if b then 2 ^ n else 0)) (same (suc n))

abbrev bit_of : Bool → ℕ
bit_of b = if b then 1 else 0

bit_is : (test : ℕ → Bool) (n i : ℕ) (beyond : Bool) → nat_le n i ≡ beyond
    → bit_at (member_bits test n) i ≡ (if beyond then 0 else bit_of (test (suc i)))
bit_is test n i true e =
    bit_at_above (member_bits test n) n i (bits_below test n n (λ m less set. less)) (grind (arith, nat_tests))
bit_is test n i false e = bits_at test n i (grind (arith, nat_tests))

-- The bit of one member more.
bits_more : (f g : ℕ → Bool) (n k : ℕ) → k < n → g (suc k) ≡ true → ((i : ℕ) → i ≢ k → g (suc i) ≡ f (suc i))
    → bit_or (member_bits f n) (2 ^ k) ≡ member_bits g n
bits_more f g n k lt set same =
    same_from_bits (bit_or (member_bits f n) (2 ^ k)) (member_bits g n)
    (λ i. bit_at_or (member_bits f n) (2 ^ k) i ∙ at_place i (i == k) refl (nat_le n i) refl)
  where
    highest : (a b : ℕ) → a < 2 → b ≡ 1 → max a b ≡ 1
    highest a b less one = omega (arith, less, one)

    lowest : (a b : ℕ) → b ≡ 0 → max a b ≡ a
    lowest a b none = omega (arith, none)

    as_before : (i : ℕ) (beyond : Bool) → i ≢ k
        → ◌≡◌ {A = ℕ} (if beyond then 0 else bit_of (f (suc i))) (if beyond then 0 else bit_of (g (suc i)))
    as_before i true apart = refl
    as_before i false apart = ap bit_of (sym (same i apart))

    at_place : (i : ℕ) (here : Bool) → (i == k) ≡ here → (beyond : Bool) → nat_le n i ≡ beyond
        → max (bit_at (member_bits f n) i) (bit_at (2 ^ k) i) ≡ bit_at (member_bits g n) i
    at_place i true e beyond past =
        subst (λ j. max (bit_at (member_bits f n) j) (bit_at (2 ^ k) j) ≡ bit_at (member_bits g n) j) (sym (equal i k e))
        (highest (bit_at (member_bits f n) k) (bit_at (2 ^ k) k) (bit_at-lt (member_bits f n) k) (bit_at-pow_same k)
        ∙ sym (bits_at g n k lt ∙ ap bit_of set))
    at_place i false e beyond past =
        lowest (bit_at (member_bits f n) i) (bit_at (2 ^ k) i) (bit_at-pow_other k i (unequal i k e))
        ∙ bit_is f n i beyond past ∙ as_before i beyond (unequal i k e) ∙ sym (bit_is g n i beyond past)

-- a gift to this member itself, or to another
given_itself : (id : Identity) (past : List Deed) (to : ℕ) (what : What) → to ≡ id.member → (member : ℕ)
    → is_recipient id past member ≡ is_recipient id (Gave to what ∷ past) member
given_itself id past to what itself member = at_member (member == id.member) (to == member) refl refl
  where
    at_member : (own given : Bool) → (member == id.member) ≡ own → (to == member) ≡ given
        → ((nat_le member id.founders || gave_to member past) && not own)
        ≡ ((nat_le member id.founders || (given || gave_to member past)) && not own)
    at_member true given e g = none (nat_le member id.founders || gave_to member past) (nat_le member id.founders || (given || gave_to member past))
      where
        none : (a b : Bool) → (a && false) ≡ (b && false)
        none true true = refl
        none true false = refl
        none false true = refl
        none false false = refl
    at_member false true e g = absurd (unequal member id.member e (sym (equal to member g) ∙ itself))
    at_member false false e g = refl

given_other : (id : Identity) (past : List Deed) (to : ℕ) (what : What) → (to == id.member) ≡ false
    → is_recipient id (Gave to what ∷ past) to ≡ true
given_other id past to what other =
    ap (λ own. (nat_le to id.founders || ((to == to) || gave_to to past)) && not own) other
    ∙ ap (λ same. (nat_le to id.founders || (same || gave_to to past)) && true) (itself to) ∙ either (nat_le to id.founders)
  where
    itself : (n : ℕ) → (n == n) ≡ true
    itself n = grind (arith, nat_tests)

    either : (b : Bool) → ((b || true) && true) ≡ true
    either true = refl
    either false = refl

not_given : (id : Identity) (past : List Deed) (to member : ℕ) (what : What) → to ≢ member
    → is_recipient id (Gave to what ∷ past) member ≡ is_recipient id past member
not_given id past to member what apart =
    ap (λ given. (nat_le member id.founders || (given || gave_to member past)) && not (member == id.member)) (differ to member apart)
  where
    differ : (a b : ℕ) → a ≢ b → (a == b) ≡ false
    differ a b apart = at_test (a == b) refl
      where
        at_test : (t : Bool) → (a == b) ≡ t → (a == b) ≡ false
        at_test true e = absurd (apart (equal a b e))
        at_test false e = e

recipients_more : (id : Identity) (past : List Deed) (to : ℕ) (what : What) → 1 ≤ to → to ≤ 8
    → with_recipient id to (recipients id past) ≡ recipients id (Gave to what ∷ past)
unfolding recipients
recipients_more id past zero what from most = absurd (omega (arith, from))
recipients_more id past (suc below) what from most = at_member (suc below == id.member) refl
  where
    less : (n : ℕ) → suc n - 1 ≡ n
    less n = omega arith

    at_member : (own : Bool) → (suc below == id.member) ≡ own
        → (if own then member_bits (is_recipient id past) 8 else bit_or (member_bits (is_recipient id past) 8) (2 ^ (suc below - 1)))
        ≡ member_bits (is_recipient id (Gave (suc below) what ∷ past)) 8
    at_member true e =
        bits_same (is_recipient id past) (is_recipient id (Gave (suc below) what ∷ past)) 8
        (given_itself id past (suc below) what (equal (suc below) id.member e))
    at_member false e =
        ap (λ k. bit_or (member_bits (is_recipient id past) 8) (2 ^ k)) (less below)
        ∙ bits_more (is_recipient id past) (is_recipient id (Gave (suc below) what ∷ past)) 8 below most
        (given_other id past (suc below) what e)
        (λ i apart. not_given id past (suc below) (suc i) what (λ same. apart (omega (arith, same))))

-- ---- what is kept

pub kept_new : (id : Identity) (opening to : ℕ) → IsPlace id opening → to ≡ recipients id []
    → IsKept id opening (kept [] [] opening 0 false to (heard []) []) []
kept_new id opening to place aimed = record {
  place = place;
  lawful = tt;
  of_shard = tt;
  named = tt;
  stands = λ key. refl;
  noted = refl;
  floored = refl;
  low = place.opening_floor;
  clocked = refl;
  imaged = refl;
  aimed = aimed;
  told = refl;
  in_step = new_in_step;
}

-- Kept before a gift, all is kept after it.
pub kept_gave : (id : Identity) (opening : ℕ) (now : Kept) (past : List Deed) (to : ℕ) (what : What) → IsKept id opening now past
    → 1 ≤ to → to ≤ id.members → IsKept id opening (record now { to = with_recipient id to now.to }) (Gave to what ∷ past)
kept_gave id opening now past to what kept from stated = record {
  place = kept.place;
  lawful = (tt, kept.lawful);
  of_shard = kept.of_shard;
  named = ((from, stated), kept.named);
  stands = stands_unchanged now.slots (Gave to what) past (λ key. refl) kept.stands;
  noted = kept.noted;
  floored = kept.floored;
  low = kept.low;
  clocked = kept.clocked;
  imaged = kept.imaged;
  aimed = ap (with_recipient id to) kept.aimed ∙ recipients_more id past to what from (omega (arith, stated, kept.place.few));
  told = kept.told ∙ sym (heard_next (Gave to what) past);
  in_step = quiet_in_step (Gave to what) past now.queries (λ client name. refl) (turned_gave to what past) kept.in_step;
}
