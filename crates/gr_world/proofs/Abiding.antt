-- The laws hold of records with integrity, and of those that members left.
use Rattle.std.proofs.Common.{ℕ, List, [], ◌∷◌, inl}
use Rattle.gr_history.specs.declared.deed.Deed.{Deed}
use Rattle.gr_law.specs.Grids.{Grid}
use Rattle.gr_law.specs.Integrity.{AreHeard, IsParted, IsWhole}
use Rattle.gr_law.proofs.Reached.{law_0-holds}
use Rattle.gr_law.proofs.Took.{law_1-holds}
use Rattle.gr_law.proofs.Late.{law_2-parted}
use Rattle.gr_law.proofs.Parted.{whole_parted}
use Rattle.gr_law.proofs.Queries.{law_queries-holds}
use Rattle.gr_law.proofs.Held.{law_3-parted, law_4-parted, law_5-holds, same_value-parted, same_entry-parted}
use Rattle.gr_world.specs.Histories.{AreHeardOrClosing, IsLawAbiding}

-- A report that is heard was made, where there is integrity.
all_made : (gone : List ℕ) (grid : Grid) (past : List Deed) → AreHeard grid past → AreHeardOrClosing gone grid past
all_made gone grid [] h = tt
all_made gone grid (deed ∷ past) h = (inl h.0, all_made gone grid past h.1)

pub parted_abiding : (gone : List ℕ) (grid : Grid) → IsParted grid → ((member : ℕ) → AreHeardOrClosing gone grid (grid.history member))
    → IsLawAbiding gone grid
parted_abiding gone grid parted heard = record {
  sound = parted.sound;
  heard = heard;
  reached = law_0-holds grid parted.sound;
  greater = law_1-holds grid parted.sound;
  late = law_2-parted grid parted;
  held = law_3-parted grid parted;
  same = same_value-parted grid parted;
  one_entry = same_entry-parted grid parted;
  no_removed = law_4-parted grid parted;
  one_history = law_5-holds grid parted.sound;
  queries = law_queries-holds grid parted.sound;
}

pub whole_abiding : (gone : List ℕ) (grid : Grid) → IsWhole grid → IsLawAbiding gone grid
whole_abiding gone grid whole =
    parted_abiding gone grid (whole_parted grid whole) (λ member. all_made gone grid (grid.history member) (whole.heard member))
