-- What stands at the keys, deed by deed.
use Rattle.std.specs.Prelude.{◌≡◌, ℕ, List, [], ◌∷◌, ◌++◌, Bool, not, map, filter, Option, None, if◌then◌else◌}
use Rattle.std.specs.Option.{option_or}
use Rattle.std.specs.List.{fold}
use Rattle.std.specs.FinMap as finite
use Rattle.gr_by_key.specs.Maps.{ByKey, names_in, with_value}
use Rattle.gr_vector.specs.Ids.{Id, has_id}
use Rattle.gr_stamp.specs.declared.change.Change.{Change}
use Rattle.gr_stamp.specs.Winner.{wins}
use Rattle.gr_oql.specs.declared.event.Turned.{Turned}
use Rattle.gr_history.specs.declared.deed.Deed.{Deed}
use Rattle.gr_history.specs.declared.deed.Deed.TheVariants.{Call, Asked, Taken, Gave, Imaged, Reported, Heard, Swept}
use Rattle.gr_history.specs.Ids.{id_of, known}
use Rattle.gr_history.specs.Regions.{with_key}
use Rattle.gr_history.specs.Standing.{drops, standing}
use Rattle.gr_history.specs.Turned.{is_other, turned_by, turned}
use Rattle.gr_route.specs.declared.turning.Standing.{Standing}

-- changes by the bytes of their keys
abbrev pub Changes : Type 0
Changes = ByKey Change

-- They are what stands behind this history.
abbrev pub Stand : Changes → List Deed → Type 0
Stand changes past = (key : List ℕ) → finite.get changes key ≡ standing key past

-- What stands at the keys, and the ids that are known, are those behind this history.
abbrev pub IsBehind : List Deed → Standing → Type 0
IsBehind past one = Stand one.changes past × (one.known.ids ≡ known past)

-- the keys that each deed turns, the oldest deed first
abbrev pub turned_each : List Deed → List (List Turned)
turned_each [] = []
turned_each (deed ∷ past) = turned_each past ++ turned deed past ∷ []

-- ---- what comes in at a deed

-- the rows of an image that aren't among these ids
abbrev pub fresh : List Id → List Change → List Change
fresh ids rows = filter (λ row. not (has_id (id_of row) ids)) rows

-- what wins at a key, by what won of what came in, where this stands before
abbrev pub won_at : Changes → List ℕ → Option Change → Option Change
won_at won key before = option_or (finite.get won key) before

abbrev pub with_won : Changes → Change → Changes → Changes
with_won changes change won =
    if wins change (won_at won change.key (finite.get changes change.key)) then finite.insert won change.key change else won

-- what wins at the keys of what came in, the newest first, where it isn't what stands
abbrev pub winners : Changes → List Change → Changes
winners changes [] = finite.empty
winners changes (change ∷ came) = with_won changes change (winners changes came)

-- ---- a deed, by what won and what stands before it

-- what a deed leaves at a key
abbrev pub left_by : Deed → Changes → List ℕ → Option Change → Option Change
left_by deed won key before = if drops key deed before then None else won_at won key before

abbrev pub turns_by : Deed → Changes → Changes → List ℕ → Bool
turns_by deed won changes key = is_other (finite.get changes key) (left_by deed won key (finite.get changes key))

abbrev pub turned_in : Deed → Changes → Changes → List ℕ → Turned
turned_in deed won changes key = turned_by key (finite.get changes key) (left_by deed won key (finite.get changes key))

abbrev pub moved_by : Deed → Changes → Changes → List ℕ → List ℕ × Option Change
moved_by deed won changes key = (key, left_by deed won key (finite.get changes key))

abbrev pub with_move : Changes → List ℕ × Option Change → Changes
with_move changes move = with_value move.0 move.1 changes

-- ---- the keys that a deed can turn

-- the keys that a sweep or an image names
abbrev pub mentioned : Deed → List (List ℕ)
mentioned (Call client to seq ask reply made) = []
mentioned (Asked client seq ask reply) = []
mentioned (Taken change verdict) = []
mentioned (Gave to what) = []
mentioned (Imaged image) = map (λ change. change.key) image.rows
mentioned (Reported report) = []
mentioned (Heard report) = []
mentioned (Swept moment expired) = expired

abbrev pub could_drop : Deed → Changes → List (List ℕ)
could_drop (Call client to seq ask reply made) changes = []
could_drop (Asked client seq ask reply) changes = []
could_drop (Taken change verdict) changes = []
could_drop (Gave to what) changes = []
could_drop (Imaged image) changes = names_in changes
could_drop (Reported report) changes = []
could_drop (Heard report) changes = []
could_drop (Swept moment expired) changes = expired

abbrev pub with_keys : List (List ℕ) → List (List ℕ) → List (List ℕ)
with_keys keys more = fold (λ keys key. with_key key keys) keys more

-- in order and each once
abbrev pub touched : Deed → Changes → List Change → List (List ℕ)
touched deed changes came = with_keys (with_keys [] (could_drop deed changes)) (map (λ change. change.key) came)
