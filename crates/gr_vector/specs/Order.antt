-- Ids in order, each once: by member, and of one member the greatest number first. So a set of ids is one list.
use Rattle.std.specs.Prelude.{◌≡◌, List, [], ◌∷◌, Bool, true, ◌&&◌, ◌||◌, ◌==◌, nat_lt, if◌then◌else◌}
use Rattle.gr_vector.specs.Ids.{Id, is_same_id}

abbrev pub is_before : Id → Id → Bool
is_before one two = nat_lt one.member two.member || (one.member == two.member && nat_lt two.rv one.rv)

-- the ids with one more
abbrev pub with_id : Id → List Id → List Id
with_id id [] = id ∷ []
with_id id (first ∷ rest) =
    if is_same_id first id then first ∷ rest else if is_before id first then id ∷ first ∷ rest else first ∷ with_id id rest

-- the ids of either list, where the first is in order
abbrev pub united : List Id → List Id → List Id
united ids [] = ids
united ids (id ∷ rest) = with_id id (united ids rest)

abbrev pub AllAfter : Id → List Id → Type 0
AllAfter id [] = Unit {0}
AllAfter id (first ∷ rest) = (is_before id first ≡ true) × AllAfter id rest

abbrev pub IsSorted : List Id → Type 0
IsSorted [] = Unit {0}
IsSorted (first ∷ rest) = AllAfter first rest × IsSorted rest
