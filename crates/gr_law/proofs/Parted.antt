-- A whole record is one that nobody left.
use Rattle.std.proofs.Common.{ℕ, List, [], ◌∷◌, inl}
use Rattle.gr_history.specs.declared.deed.Deed.{Deed}
use Rattle.gr_history.specs.declared.deed.Deed.TheVariants.{Call, Asked, Taken, Gave, Imaged, Reported, Heard, Swept}
use Rattle.gr_law.specs.Grids.{Grid}
use Rattle.gr_law.specs.Integrity.{IsHeardDeed, AreHeard, IsHeardOrClosed, AreHeardOrClosed, IsWhole, IsParted}

heard_all : (grid : Grid) (me : ℕ) (past : List Deed) → AreHeard grid past → AreHeardOrClosed grid me past
heard_all grid me [] h = tt
heard_all grid me (deed ∷ past) h = (at_deed deed h.0, heard_all grid me past h.1)
  where
    at_deed : (d : Deed) → IsHeardDeed grid d → IsHeardOrClosed grid me d past
    at_deed (Call client to seq ask reply one) h = tt
    at_deed (Asked client seq ask reply) h = tt
    at_deed (Taken c how) h = tt
    at_deed (Gave to what) h = tt
    at_deed (Imaged image) h = tt
    at_deed (Reported report) h = tt
    at_deed (Heard report) h = inl h
    at_deed (Swept moment named) h = tt

pub whole_parted : (grid : Grid) → IsWhole grid → IsParted grid
whole_parted grid whole = record { sound = whole.sound; heard = λ me. heard_all grid me (grid.history me) (whole.heard me) }
