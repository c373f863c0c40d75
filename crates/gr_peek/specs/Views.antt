-- What contracts see of a copy, its eyes and its notes.
use Rattle.std.specs.Prelude.{ℕ, Bool, List}
use Rattle.logbook.specs.Pages.{Book}
use Rattle.gr_oql.specs.declared.event.Turned.{Turned}

-- a note: of which copy it tells, and what had been published
pub record Note : Type 0 where
  pub copy : Book
  pub publications : List (List Turned)

-- A published copy: which it is, whether it is shown to eyes, what was published, and whether memory was refused. Nothing is published
-- after that.
pub record Publishing : Type 0 where
  pub copy : Book
  pub shown : Bool
  pub publications : List (List Turned)
  pub halted : Bool

-- An eye: of which copy, whether it is shown it, the publications that it knows, the longest of these and of its notes, and how many
-- enterings were denied.
pub record Watching : Type 0 where
  pub copy : Book
  pub shown : Bool
  pub known : List (List Turned)
  pub told : List (List Turned)
  pub denied : ℕ
