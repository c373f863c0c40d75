-- A sweep that is prepared can be committed.
use Rattle.std.proofs.Common.{◌≡◌, ◌≤◌, ◌∙◌, ap, sym, refl, subst, ℕ, List, [], ◌∷◌}
use Rattle.std.proofs.Common.{reverse, true, false, max, Some, map}
use Rattle.std.proofs.Common.{bytes_eq, ◌||◌, Bool}
use Rattle.std.proofs.lemmas.Slice.Eq.{bytes_eq-Decides}
use Rattle.gr_stamp.specs.declared.stamp.TheConstants.{LIMIT}
use Rattle.gr_history.specs.declared.identity.Identity.{Identity}
use Rattle.gr_history.specs.declared.deed.Deed.{Deed}
use Rattle.gr_history.specs.declared.deed.Deed.TheVariants.{Swept}
use Rattle.gr_history.specs.Clock.{clock as clock_of}
use Rattle.gr_history.specs.Floor.{floor as floor_of}
use Rattle.gr_history.specs.Stable.{due}
use Rattle.gr_history.specs.Standing.{names}
use Rattle.gr_history.specs.Turned.{turned, turned_at}
use Rattle.gr_law.proofs.Turns.{swept_absent, swept_keys, swept_not_there}
use Rattle.gr_shard.specs.declared.effect.SlotsAfter.TheVariants as slots_
use Rattle.gr_shard.specs.Effects.{unchanged}
use Rattle.gr_shard.specs.Prepared.{IsFit}
use Rattle.gr_shard.specs.Sweeps.{risen, valueless, without_all}
use Rattle.gr_shard.specs.View.{Account, IsKept}
use Rattle.gr_shard.proofs.Sweeps.{floor_swept, kept_swept}
use Rattle.gr_shard.proofs.Turning.{same_turned}

-- ---- what a sweep turns

names_first : (key : List ℕ) (keys : List (List ℕ)) → names key (key ∷ keys) ≡ true
names_first key keys = let same : bytes_eq key key ≡ true = (bytes_eq-Decides key key).1 refl in rw same refl

names_later : (first key : List ℕ) (keys : List (List ℕ)) → names key keys ≡ true → names key (first ∷ keys) ≡ true
names_later first key keys is = at_first (bytes_eq first key)
  where
    at_first : (b : Bool) → (b || names key keys) ≡ true
    at_first true = refl
    at_first false = is

valueless_at : (deed : Deed) (past : List Deed) (keys : List (List ℕ))
    → ((key : List ℕ) → names key keys ≡ true → turned_at deed past key ≡ valueless key)
    → map (turned_at deed past) keys ≡ map valueless keys
valueless_at deed past [] absent = refl
valueless_at deed past (key ∷ keys) absent =
    ap (λ one. one ∷ map (turned_at deed past) keys) (absent key (names_first key keys))
    ∙ ap (λ rest. valueless key ∷ rest) (valueless_at deed past keys (λ other is. absent other (names_later key other keys is)))

-- A sweep turns what is due, which is there neither before nor behind.
pub turned_swept : (id : Identity) (opening moment : ℕ) (expired : List (List ℕ)) (past : List Deed) → expired ≡ due id moment past
    → turned (Swept moment expired) past ≡ map valueless expired
turned_swept id opening moment expired past is =
    ap (map (turned_at (Swept moment expired) past)) (swept_keys id opening moment expired past is)
    ∙ valueless_at (Swept moment expired) past expired (λ key named.
    let absent = swept_absent id opening moment expired past is key named in
    let gone = swept_not_there id opening moment expired past is key named in
    same_turned key absent.0 absent.1 gone.0 gone.1)

-- ---- what it keeps

module _ (account : Account) (some : 1 ≤ account.spare) where
  pub fit_swept : (moment : ℕ) (expired : List (List ℕ)) (floor clock : ℕ) → expired ≡ due account.id moment (reverse account.deeds)
      → floor ≡ floor_of account.opening (Swept moment expired ∷ reverse account.deeds) → floor ≤ LIMIT
      → clock ≡ max moment (clock_of (reverse account.deeds))
      → IsFit account (Swept moment expired) (record unchanged {
        slots = slots_.Without expired;
        floor = Some floor;
        clock = Some clock;
      })
  fit_swept moment expired floor clock is floored low clocked = record {
    room = some;
    keeps = λ now ordered same kept.
        let past = reverse account.deeds in
        let floor_is : risen now.slots now.floor expired ≡ floor =
        floor_swept account.id account.opening moment now past expired kept is ∙ sym floored in
        let clock_is : max moment now.clock ≡ clock = ap (max moment) kept.clocked ∙ sym clocked in
        subst (λ n. IsKept account.id account.opening (record now {
          slots = without_all expired now.slots;
          floor = floor;
          clock = n;
        })
        (Swept moment expired ∷ past)) clock_is
        (subst (λ n. IsKept account.id account.opening (record now {
          slots = without_all expired now.slots;
          floor = n;
          clock = max moment now.clock;
        })
        (Swept moment expired ∷ past)) floor_is
        (kept_swept account.id account.opening moment now past expired kept ordered is (subst (λ n. n ≤ LIMIT) (sym floor_is) low)));
    opens = refl;
    timed = tt;
    made = tt;
    given = tt;
  }
