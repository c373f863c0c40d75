-- The ids that a history knows. Here and in all definitions of what is lawful a history is listed the
-- newest deed first: the tail of a list is the history before its first deed.
use Rattle.std.specs.Prelude.{List, [], ◌∷◌, ◌++◌, map}
use Rattle.std.specs.Option.{option_to_list}
use Rattle.gr_stamp.specs.declared.change.Change.{Change}
use Rattle.gr_vector.specs.Ids.{Id}
use Rattle.gr_vector.specs.Order.{united}
use Rattle.gr_history.specs.declared.deed.Deed.{Deed}
use Rattle.gr_history.specs.declared.deed.Deed.TheVariants.{Call, Taken, Imaged}

abbrev pub id_of : Change → Id
id_of change = record { member = change.stamp.member; rv = change.stamp.rv }

abbrev pub ids_at : Deed → List Id
ids_at (Call client to seq ask reply made) = map id_of (option_to_list made)
ids_at (Taken change verdict) = id_of change ∷ []
ids_at (Imaged image) = image.vector.ids
ids_at _ = []

-- the ids of what was made and taken in, and those that images knew
abbrev pub ids : List Deed → List Id
ids [] = []
ids (deed ∷ past) = ids_at deed ++ ids past

-- the same, as a vector has them: in order, each once
abbrev pub known : List Deed → List Id
known past = united [] (ids past)
