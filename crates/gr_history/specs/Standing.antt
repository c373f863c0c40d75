-- What stands at a key.
use Rattle.std.specs.Prelude.{ℕ, List, [], ◌∷◌, ◌++◌, Bool, false, ◌&&◌, ◌||◌, not, bytes_eq, filter, Option, Some, None, if◌then◌else◌}
use Rattle.std.specs.Option.{option_to_list}
use Rattle.gr_value.specs.declared.value.Field.{Field}
use Rattle.gr_stamp.specs.declared.change.Change.{Change}
use Rattle.gr_stamp.specs.Winner.{winner, holds, is_there}
use Rattle.gr_vector.specs.Ids.{Id, has_id}
use Rattle.gr_history.specs.declared.verdict.Verdict.TheVariants.{Applied, Discarded, Repeat}
use Rattle.gr_history.specs.declared.deed.Deed.{Deed}
use Rattle.gr_history.specs.declared.deed.Deed.TheVariants.{Call, Asked, Taken, Gave, Imaged, Reported, Heard, Swept}
use Rattle.gr_history.specs.Ids.{id_of, ids}

-- The changes that come in at a deed: what a call made, a change that is new, an image's rows that are new.
abbrev pub came : Deed → List Deed → List Change
came (Call client to seq ask reply made) past = option_to_list made
came (Asked client seq ask reply) past = []
came (Taken change Applied) past = change ∷ []
came (Taken change Discarded) past = change ∷ []
came (Taken change Repeat) past = []
came (Gave to what) past = []
came (Imaged image) past = filter (λ row. not (has_id (id_of row) (ids past))) image.rows
came (Reported report) past = []
came (Heard report) past = []
came (Swept moment expired) past = []

-- all changes that came in, the newest first
abbrev pub changes : List Deed → List Change
changes [] = []
changes (deed ∷ past) = came deed past ++ changes past

-- whether the key is one of these
abbrev pub names : List ℕ → List (List ℕ) → Bool
names key [] = false
names key (first ∷ rest) = bytes_eq first key || names key rest

-- whether one of the changes is of the key
abbrev pub has_key : List ℕ → List Change → Bool
has_key key [] = false
has_key key (first ∷ rest) = bytes_eq first.key key || has_key key rest

-- whether what stands, if anything does, is among these ids
abbrev pub is_known : List Id → Option Change → Bool
is_known ids None = false
is_known ids (Some change) = has_id (id_of change) ids

-- Whether a deed drops the key, at which this stands: a sweep that names it, or an image that knows what
-- stands and has no row of the key.
abbrev pub drops : List ℕ → Deed → Option Change → Bool
drops key (Call client to seq ask reply made) stands = false
drops key (Asked client seq ask reply) stands = false
drops key (Taken change verdict) stands = false
drops key (Gave to what) stands = false
drops key (Imaged image) stands = not (has_key key image.rows) && is_known image.vector.ids stands
drops key (Reported report) stands = false
drops key (Heard report) stands = false
drops key (Swept moment expired) stands = names key expired

-- the changes that came in since the key was last dropped
abbrev pub lasting : List ℕ → List Deed → List Change
lasting key [] = []
lasting key (deed ∷ past) = if drops key deed (winner key (lasting key past)) then [] else came deed past ++ lasting key past

-- the change that stands at the key: the one that won
abbrev pub standing : List ℕ → List Deed → Option Change
standing key past = winner key (lasting key past)

-- whether the key is there, with a value or without
abbrev pub there : List ℕ → List Deed → Bool
there key past = is_there (standing key past)

-- the value that is present at the key
abbrev pub present : List ℕ → List Deed → Option (List Field)
present key past = holds key (lasting key past)
