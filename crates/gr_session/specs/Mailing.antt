-- A client's courier: what it needs for posting, what of it stays, and what it has sent in the end.
use Rattle.std.specs.Prelude.{◌≡◌, ℕ, ◌<◌, List, length, map, reverse, slice_index_or}
use Rattle.gr_post.specs.Couriers.{Carrying, AreOf, passes_of, tables_of}
use Rattle.gr_post.specs.declared.mail.Posting.{Posting}
use Rattle.gr_post.specs.declared.stage.Stage.TheVariants.{Open}
use Rattle.gr_post.specs.Passes.{Ring, Sending}
use Rattle.gr_post.specs.Plan.{delivered, draws}

-- It takes mails for so many members.
pub record TakesFor (members : ℕ) (c : Carrying) : Type 0 where
  pub stage : c.stage ≡ Open
  pub many : length (passes_of c) ≡ members

-- The same, and it sends them to these inboxes.
pub record CanPost (rings : List Ring) (members : ℕ) (c : Carrying) : Type 0 where
  pub its : AreOf rings c
  pub takes : TakesFor members c

-- the numbers of its passes
abbrev pub numbers_of : List Sending → List ℕ
numbers_of passes = map (λ (p : Sending). p.number) passes

-- It is the same courier, at the same stage.
pub record CarriesOn (c d : Carrying) : Type 0 where
  pub stage : d.stage ≡ c.stage
  pub first : d.first ≡ c.first
  pub many : length (passes_of d) ≡ length (passes_of c)
  pub tables : tables_of d ≡ tables_of c
  pub numbers : numbers_of (passes_of d) ≡ numbers_of (passes_of c)

-- What a courier sent in the end, by its passes, where these mails were posted, the first one first: each inbox all that the plan
-- delivers there, an `End` last.
pub record HasSent (c : Carrying) (posted : List Posting) (sends : List Sending) : Type 0 where
  pub many : length sends ≡ length c.lines
  pub tables : map (λ (p : Sending). p.table) sends ≡ tables_of c
  pub numbers : numbers_of sends ≡ numbers_of (passes_of c)
  pub sent : (k : ℕ) (d : Sending) → k < length c.lines
      → (slice_index_or sends k d).sent ≡ delivered (draws (length c.lines) c.first k (reverse posted))

-- the same of what was posted to it
abbrev pub HaveDelivered : Carrying → List Sending → Type 0
HaveDelivered c sends = HasSent c c.posted sends
