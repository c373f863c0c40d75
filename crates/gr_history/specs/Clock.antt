-- A shard's clock, and when what stands at a key came in.
use Rattle.std.specs.Prelude.{ℕ, List, [], ◌∷◌, Bool, false, ◌&&◌, ◌==◌, max, Option, Some, None, if◌then◌else◌}
use Rattle.gr_stamp.specs.declared.change.Change.{Change}
use Rattle.gr_stamp.specs.Version.{Version}
use Rattle.gr_history.specs.declared.deed.Deed.{Deed}
use Rattle.gr_history.specs.declared.deed.Deed.TheVariants.{Swept}
use Rattle.gr_history.specs.Standing.{standing}

-- the greatest moment of a sweep, or 0
abbrev pub clock : List Deed → ℕ
clock [] = 0
clock (Swept moment expired ∷ past) = max moment (clock past)
clock (_ ∷ past) = clock past

abbrev pub is_same_stamp : Version → Version → Bool
is_same_stamp one two = one.ver == two.ver && one.member == two.member && one.rv == two.rv

-- whether one change stands in both places, told by its stamp
abbrev pub is_same_standing : Option Change → Option Change → Bool
is_same_standing None other = false
is_same_standing (Some change) None = false
is_same_standing (Some change) (Some other) = is_same_stamp change.stamp other.stamp

-- the clock when what stands at the key came in
abbrev pub since : List ℕ → List Deed → ℕ
since key [] = 0
since key (deed ∷ past) = if is_same_standing (standing key (deed ∷ past)) (standing key past) then since key past else clock past
