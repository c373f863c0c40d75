-- Events that wait.
use Rattle.std.specs.Prelude.{ℕ, List}
use Rattle.gr_oql.specs.declared.event.Event.{Event}

-- the events, and the number of further ones that there is room for
pub record Waits : Type 0 where
  pub events : List Event
  pub spare : ℕ
