-- What a turn keeps, and what of it stays.
use Rattle.std.specs.Prelude.{◌≡◌, ℕ, List, [], ◌∷◌, ◌++◌, reverse, Option, Some}
use Rattle.logbook.specs.Pages.{Book}
use Rattle.gr_history.specs.declared.deed.Deed.{Deed}
use Rattle.gr_history.specs.declared.identity.Identity.{Identity}
use Rattle.gr_history.specs.Recipients.{NamesMembers}
use Rattle.gr_history.specs.Turned.{turned}
use Rattle.gr_oql.specs.declared.event.Turned.{Turned}
use Rattle.gr_peek.specs.Views.{Note, Publishing, Watching}
use Rattle.gr_peek_law.specs.Turns.{turned_each}
use Rattle.gr_shard.specs.View.{Account, after_deed}
use Rattle.gr_shard.specs.Prepared.{Gives}
use Rattle.gr_shard.specs.declared.next.Came.{Came}
use Rattle.gr_shard.specs.declared.next.Next.{Next}
use Rattle.gr_turn.specs.declared.view.View.{View}
use Rattle.gr_member.specs.declared.replica.Origin.{Origin}

-- a shard with its copy: what stays of it, and its deeds, which are what is published
pub record Replicated : Type 0 where
  pub origin : Origin
  pub deeds : List Deed

abbrev pub replicated : Account → Book → Replicated
replicated account copy = record { origin = record { id = account.id; opening = account.opening; copy = copy }; deeds = account.deeds }

-- the keys that the newest of these deeds turned
abbrev pub newest_turned : List Deed → List Turned
newest_turned [] = []
newest_turned (deed ∷ past) = turned deed past

-- The shard added the deed that it adds where this is done and so answered.
pub record Serves (old : Account) (to_do : Next) (came : Came) (new : Account) : Type 0 where
  pub deed : Deed
  pub added : new ≡ after_deed old deed
  pub gives : Gives old.id old.opening (reverse old.deeds) to_do came deed

-- what is told of all that was published
abbrev pub told_of : Publishing → Note
told_of published = record { copy = published.copy; publications = published.publications }

-- what is told once these keys are published too
abbrev pub told_more : Note → List Turned → Note
told_more note turned = record note { publications = note.publications ++ turned ∷ [] }

-- The same, and what the deed turned was published.
pub record Shows (old : Account) (to_do : Next) (came : Came) (new : Account) (before after : Note) : Type 0 where
  pub served : Serves old to_do came new
  pub told : after ≡ told_more before (turned served.deed (reverse old.deeds))

-- One deed was added: the one that a shard adds where this is done and so answered.
pub record Does (old : Replicated) (to_do : Next) (came : Came) (new : Replicated) : Type 0 where
  pub deed : Deed
  pub added : new.deeds ≡ old.deeds ++ deed ∷ []
  pub gives : Gives old.origin.id old.origin.opening (reverse old.deeds) to_do came deed
  pub named : NamesMembers old.origin.id deed

-- What is known of the origin is that the shard is this one's, and began with this floor.
abbrev pub IsBaseOf : Identity → ℕ → Option Origin → Type 0
IsBaseOf id opening base = (o : Origin) → base ≡ Some o → (o.id ≡ id) × (o.opening ≡ opening)

-- an eye, and the publications of which the last note tells
pub record Watched : Type 0 where
  pub eye : Watching
  pub noted : List (List Turned)

-- The eye is of the seat's copy, and what was noted is what the deeds turned that the seat has seen.
pub record IsWatchOf (view : View Deed Origin) (watch : Watched) : Type 0 where
  pub copied : (o : Origin) → view.base ≡ Some o → o.copy ≡ watch.eye.copy
  pub noted : watch.noted ≡ turned_each (reverse view.seen)
