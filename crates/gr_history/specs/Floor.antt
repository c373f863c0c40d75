-- The tombstones that expired, and the floor of versions.
use Rattle.std.specs.Prelude.{ℕ, List, [], ◌∷◌, ◌++◌, max, Option, Some, None, if◌then◌else◌}
use Rattle.std.specs.List.{filter_map}
use Rattle.gr_stamp.specs.declared.change.Change.{Change}
use Rattle.gr_stamp.specs.Winner.{is_removal}
use Rattle.gr_history.specs.declared.deed.Deed.{Deed}
use Rattle.gr_history.specs.declared.deed.Deed.TheVariants.{Call, Asked, Taken, Gave, Imaged, Reported, Heard, Swept}
use Rattle.gr_history.specs.Standing.{standing}

-- the tombstone, where a removal stands
abbrev pub removal_of : Option Change → Option Change
removal_of None = None
removal_of (Some change) = if is_removal change.kind then Some change else None

-- The tombstones that expire at a deed: those of the keys that a sweep names.
abbrev pub expired_at : Deed → List Deed → List Change
expired_at (Call client to seq ask reply made) past = []
expired_at (Asked client seq ask reply) past = []
expired_at (Taken change verdict) past = []
expired_at (Gave to what) past = []
expired_at (Imaged image) past = []
expired_at (Reported report) past = []
expired_at (Heard report) past = []
expired_at (Swept moment expired) past = filter_map (λ key. removal_of (standing key past)) expired

-- all tombstones that expired
abbrev pub expired : List Deed → List Change
expired [] = []
expired (deed ∷ past) = expired_at deed past ++ expired past

-- the greatest version among changes, or 0
abbrev pub greatest_ver : List Change → ℕ
greatest_ver [] = 0
greatest_ver (change ∷ rest) = max change.stamp.ver (greatest_ver rest)

-- The floor begins with an opening floor. It rises to the versions of tombstones that expire, and to the floors of images.
abbrev pub floor : ℕ → List Deed → ℕ
floor opening [] = opening
floor opening (Call client to seq ask reply made ∷ past) = floor opening past
floor opening (Asked client seq ask reply ∷ past) = floor opening past
floor opening (Taken change verdict ∷ past) = floor opening past
floor opening (Gave to what ∷ past) = floor opening past
floor opening (Imaged image ∷ past) = max image.floor (floor opening past)
floor opening (Reported report ∷ past) = floor opening past
floor opening (Heard report ∷ past) = floor opening past
floor opening (Swept moment expired ∷ past) = max (greatest_ver (expired_at (Swept moment expired) past)) (floor opening past)
