-- A history at its places. A place is a number: how many deeds the history had.
use Rattle.std.specs.Prelude.{ℕ, suc, List, [], ◌∷◌, nat_le, length, if◌then◌else◌}
use Rattle.gr_history.specs.declared.deed.Deed.{Deed}

-- the history at a place
abbrev pub at_place : ℕ → List Deed → List Deed
at_place n [] = []
at_place n (deed ∷ past) = if nat_le (suc (length past)) n then deed ∷ past else at_place n past
