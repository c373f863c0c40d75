-- What is found of the query that a call names, and of the others.
use Rattle.std.specs.Prelude.{◌≡◌, ℕ, List, Some, None, option_map}
use Rattle.gr_oql.specs.declared.event.Turned.{Turned}
use Rattle.gr_oql.specs.Question.{Question}
use Rattle.gr_cq.specs.Entries.{Kept, Entry, find, changed_at, kept_opened, kept_noted, enrolled, closed, noted}

-- A query runs once it is enrolled, is found as it was changed, and is found no more once it is closed.
pub record IsServed (client : ℕ) (name : List ℕ) (entries : List Entry) : Type 0 where
  pub enrolled : (question : Question) → find client name entries ≡ None
      → find client name (enrolled client name question entries) ≡ Some (kept_opened question)
  pub changed : (change : Kept → Kept) → find client name (changed_at client name change entries) ≡ option_map change (find client name
      entries)
  pub closed : find client name (closed client name entries) ≡ None
  pub noted : (turned : List Turned) → find client name (noted turned entries) ≡ option_map (kept_noted turned) (find client name entries)

-- Of another query that is found which was found before.
pub record StaysApart (client : ℕ) (name : List ℕ) (two : ℕ) (other : List ℕ) (entries : List Entry) : Type 0 where
  pub enrolled : (question : Question) → find two other (enrolled client name question entries) ≡ find two other entries
  pub changed : (change : Kept → Kept) → find two other (changed_at client name change entries) ≡ find two other entries
  pub closed : find two other (closed client name entries) ≡ find two other entries
