-- The keys whose removals came in at each moment, and how they are tied to the slots.
use Rattle.std.specs.Prelude.{◌≡◌, ℕ, List, [], Bool, true, false, ◌==◌, ◌||◌, Option, Some, None}
use Rattle.std.specs.Global.{Vec}
use Rattle.std.specs.Ordering.{nat_cmp}
use Rattle.std.specs.Cmp.Lexicographic.{slice_cmp}
use Rattle.std.specs.List.{list_any}
use Rattle.std.specs.List.Sorted.{IsStrictlySortedBy}
use Rattle.std.specs.Map.{keys_of}
use Rattle.std.specs.BTreeMap.{BTreeMap, get, is_at, IsOrdered}
use Rattle.gr_slots.specs.declared.slot.Slot.{Slot}
use Rattle.gr_slots.specs.Slots.{Entries, slot_at, removed_at}

-- lists of keys by moments
abbrev pub Moments : Type 0
Moments = BTreeMap ℕ (Vec (List ℕ))

abbrev pub listed_in : Option (Vec (List ℕ)) → List (List ℕ)
listed_in None = []
listed_in (Some keys) = keys.items

-- the keys that are listed at a moment
abbrev pub keys_at : Moments → ℕ → List (List ℕ)
keys_at removals at = listed_in (get nat_cmp removals at)

-- whether a key is among keys
abbrev pub is_listed : List ℕ → List (List ℕ) → Bool
is_listed key keys = list_any (is_at (slice_cmp nat_cmp key)) keys

-- whether it is this moment, if there is one
abbrev pub is_moment : ℕ → Option ℕ → Bool
is_moment at None = false
is_moment at (Some moment) = moment == at

-- whether what stands is a removal that came in at the moment
abbrev pub is_removed_at : ℕ → Option Slot → Bool
is_removed_at at slot = is_moment at (removed_at slot)

-- whether what stands is a removal that came in at one of the moments
abbrev pub is_removed_among : List ℕ → Option Slot → Bool
is_removed_among moments slot = list_any (λ at. is_removed_at at slot) moments

-- whether it is this key, if there is one
abbrev pub is_one : Option (List ℕ) → List ℕ → Bool
is_one None key = false
is_one (Some one) key = is_at (slice_cmp nat_cmp one) key

-- Each removal that stands is listed at its moment, if it isn't that of the one key that may be unlisted. What else is listed is stale.
pub record AreIndexed (unlisted : Option (List ℕ)) (slots : Entries) (removals : Moments) : Type 0 where
  pub ordered : IsStrictlySortedBy (slice_cmp nat_cmp) (keys_of slots)
  pub in_time : IsOrdered nat_cmp removals
  pub listed : (key : List ℕ) (at : ℕ) → is_removed_at at (slot_at key slots) ≡ true
      → (is_one unlisted key || is_listed key (keys_at removals at)) ≡ true
