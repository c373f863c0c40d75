-- Behind a departure all members that stay know the same changes of the one, at each shard.
use Rattle.std.proofs.Common.{suc, ◌≡◌, ◌⊎◌, ℕ, ◌≤◌, ◌<◌, List, ◌∷◌, ◌++◌, Bool, true, ◌||◌, ◌==◌, refl, sym, ap, ◌∙◌, subst}
use Rattle.std.proofs.Common.{inl, inr, arith, reverse}
use Rattle.gr_vector.specs.Ids.{has_id}
use Rattle.gr_history.specs.Ids.{ids}
use Rattle.gr_law.specs.Grids.{Among}
use Rattle.gr_law.specs.Integrity.{IsSound}
use Rattle.gr_law.proofs.Lists.{cases_le}
use Rattle.gr_script.specs.declared.line.Line.{Line}
use Rattle.gr_script.specs.declared.line.Line.TheVariants.{Depart}
use Rattle.gr_script.specs.Rules.{Heading}
use Rattle.gr_script.specs.Steps.{departed, is_gone}
use Rattle.gr_world.specs.Events.{Event, history}
use Rattle.gr_world.specs.Departures.{taken_of}
use Rattle.gr_world.specs.Doings.{Takes, deed_of}
use Rattle.gr_world.specs.Courses.{identity_at, for_each, hands_over, course}
use Rattle.gr_world.specs.Causes.{grid_at}
use Rattle.gr_world.specs.Shut.{AreOne, AreStill, IsFromTaken, IsOne, IsShut}
use Rattle.gr_world.proofs.Events.{other_shard, same_number}
use Rattle.gr_world.proofs.Causal.{course_causal}
use Rattle.gr_world.proofs.Whole.{sound_course}
use Rattle.gr_world.proofs.Causes.{each_keeps}
use Rattle.gr_world.proofs.Growing.{or_first}
use Rattle.gr_world.proofs.Walks.{Keeps, takes_keep}
use Rattle.gr_world.proofs.Lines.{AreFit, fit_rest, fit_tail, handed_keeps}
use Rattle.gr_world.proofs.Handed.{handed_one}
use Rattle.gr_world.proofs.FromTaken.{from_taken}
use Rattle.gr_world.proofs.Providers.{images_gone}
use Rattle.gr_world.proofs.Still.{still_later}

-- the histories of a shard are as they were
abbrev pub AreSame : ℕ → List Event → List Event → Type 0
AreSame shard before now = (j : ℕ) → history j shard now ≡ history j shard before

elsewhere : (heading : Heading) (gone : List ℕ) (of n shard : ℕ) → (shard ≡ n → ⊥) → (before : List Event)
    → Keeps (AreSame shard before) (hands_over heading gone of n)
elsewhere heading gone of n shard other before =
    handed_keeps heading gone (AreSame shard before) of n
    (λ taker giver e at_giver last l. takes_keep heading taker n (AreSame shard before) (reverse (taken_of of (history giver n last)))
    (λ change a mid same j. other_shard j shard taker n
    (deed_of (identity_at heading taker n) heading.floor (history taker n mid) (Takes change)) mid other ∙ same j) last l)

one_same : (heading : Heading) (gone : List ℕ) (of shard : ℕ) (before now : List Event) → AreSame shard before now
    → IsOne heading gone of shard before → IsOne heading gone of shard now
one_same heading gone of shard before now same one j k at_j at_k id named =
    ap (λ p. has_id id (ids p)) (same j) ∙ one j k at_j at_k id named ∙ ap (λ p. has_id id (ids p)) (sym (same k))

from_same : (heading : Heading) (gone : List ℕ) (of shard : ℕ) (before now : List Event) → AreSame shard before now
    → IsFromTaken heading gone of shard before → IsFromTaken heading gone of shard now
from_same heading gone of shard before now same from j stays id named known =
    let k = from j stays id named (subst (λ p. has_id id (ids p) ≡ true) (same j) known) in
    record {
      giver = k.giver;
      staying = k.staying;
      change = k.change;
      taken = subst (λ p. Among k.change (taken_of of p)) (sym (same k.giver)) k.taken;
      named = k.named;
    }

-- the shards below n have been handed over
record IsUpTo (heading : Heading) (gone : List ℕ) (of n : ℕ) (now : List Event) : Type 0 where
  pub done : (shard : ℕ) → shard < n → IsOne heading gone of shard now
  pub rest : (shard : ℕ) → n ≤ shard → IsFromTaken heading gone of shard now

all_handed : (heading : Heading) (gone : List ℕ) (of : ℕ) (now : List Event)
    → ((shard : ℕ) → IsFromTaken heading gone of shard now)
    → AreOne heading gone of (for_each heading.shards (hands_over heading gone of) now)
all_handed heading gone of now from =
    (each_keeps (IsUpTo heading gone of) heading.shards (hands_over heading gone of) now
    (record { done = λ shard less. absurd (omega (arith, less)); rest = λ shard le. from shard })
    (λ n mid less upto. record {
      done = λ shard low. at_le n mid upto shard (cases_le n shard) low;
      rest = λ shard le. from_same heading gone of shard mid (hands_over heading gone of n mid)
          (elsewhere heading gone of n shard (λ is. omega (arith, is, le)) mid mid (λ j. refl)) (upto.rest shard (omega (arith, le)));
    })).done
  where
    at_le : (n : ℕ) (mid : List Event) → IsUpTo heading gone of n mid → (shard : ℕ) → (n ≤ shard) ⊎ (shard < n) → shard < suc n
        → IsOne heading gone of shard (hands_over heading gone of n mid)
    at_le n mid upto shard (inr lt) low =
        one_same heading gone of shard mid (hands_over heading gone of n mid)
        (elsewhere heading gone of n shard (λ is. omega (arith, is, lt)) mid mid (λ j. refl)) (upto.done shard lt)
    at_le n mid upto shard (inl le) low =
        let is : n ≡ shard = omega (arith, le, low) in
        subst (λ s. IsOne heading gone of s (hands_over heading gone of n mid)) is
        (handed_one heading gone of n mid (upto.rest n (omega arith)))

pub itself : (n : ℕ) (b : Bool) → ((n == n) || b) ≡ true
itself n b = or_first (n == n) b (same_number n)

-- a course is sound at each shard
pub course_sound : (heading : Heading) (past : List Line) → AreFit heading past → (shard : ℕ)
    → IsSound (grid_at heading shard (course heading past))
course_sound heading past fit shard =
    sound_course heading (departed past) (course heading past) fit.heading_is.members.1
    (course_causal heading past fit.heading_is fit.stand) shard

-- Behind its departure.
pub departed_one : (heading : Heading) (of : ℕ) (past : List Line) → AreFit heading (Depart of ∷ past)
    → AreOne heading (of ∷ departed past) of (course heading (Depart of ∷ past))
departed_one heading of past fit =
    all_handed heading (of ∷ departed past) of (course heading past)
    (λ shard.
    let sound = course_sound heading past (fit_rest heading (Depart of) past fit) shard in
    from_taken heading (of ∷ departed past) of shard (course heading past) sound (itself of (is_gone (departed past) of))
    (images_gone heading of past shard fit sound))

pub departed_still : (heading : Heading) (of : ℕ) (past later : List Line) → AreFit heading (later ++ Depart of ∷ past)
    → AreStill heading (of ∷ departed past) of (course heading (Depart of ∷ past)) (course heading (later ++ Depart of ∷ past))
departed_still heading of past later fit =
    still_later heading of (Depart of ∷ past) later fit (itself of (is_gone (departed past) of))
    (departed_one heading of past (fit_tail heading later (Depart of ∷ past) fit))

-- After each departure.
pub departed_shut : (heading : Heading) (of : ℕ) (past later : List Line) → AreFit heading (later ++ Depart of ∷ past)
    → IsShut heading of past later
departed_shut heading of past later fit = record {
  one = departed_one heading of past (fit_tail heading later (Depart of ∷ past) fit);
  still = departed_still heading of past later fit;
}
