-- What a history leaves at its end.
use Rattle.std.specs.Prelude.{◌≡◌, ℕ, List, [], ◌∷◌, not, filter, count_by}
use Rattle.std.specs.List.{filter_map}
use Rattle.std.specs.Ordering.{nat_cmp, match_ordering}
use Rattle.std.specs.Cmp.Lexicographic.{slice_cmp}
use Rattle.gr_stamp.specs.declared.change.Change.{Change}
use Rattle.gr_history.specs.declared.deed.Deed.{Deed}
use Rattle.gr_history.specs.declared.record.Region.{Region}
use Rattle.gr_history.specs.Ids.{known}
use Rattle.gr_history.specs.Standing.{changes, standing, there}
use Rattle.gr_stamp.specs.Winner.{is_removal}
use Rattle.gr_history.specs.Floor.{floor}

-- the keys with one more, in order and each once
abbrev pub with_key : List ℕ → List (List ℕ) → List (List ℕ)
with_key key [] = key ∷ []
with_key key (first ∷ keys) = match_ordering (slice_cmp nat_cmp key first) (key ∷ first ∷ keys) (first ∷ keys) (first ∷ with_key key keys)

-- the keys of the changes, in order and each once
abbrev pub keys_of : List Change → List (List ℕ)
keys_of [] = []
keys_of (change ∷ past) = with_key change.key (keys_of past)

-- the changes that stand, in the order of their keys
abbrev pub all_standing : List Deed → List Change
all_standing past = filter_map (λ key. standing key past) (keys_of (changes past))

-- the keys that are there, in order
abbrev pub keys : List Deed → List (List ℕ)
keys past = filter (λ key. there key past) (keys_of (changes past))

-- A region has the puts and invalidations that stand, the number of removals that stand, the floor, and all ids that are known.
pub record IsRegionOf (opening : ℕ) (past : List Deed) (region : Region) : Type 0 where
  pub rows_are : region.rows ≡ filter (λ change. not (is_removal change.kind)) (all_standing past)
  pub tombstones_are : region.tombstones ≡ count_by (λ change. is_removal change.kind) (all_standing past)
  pub floor_is : region.floor ≡ floor opening past
  pub vector_is : region.vector.ids ≡ known past
