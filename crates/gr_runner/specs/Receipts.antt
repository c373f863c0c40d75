-- What takers of mail are told of their senders.
use Rattle.std.specs.Prelude.{◌≡◌, ℕ, ◌<◌, true, List, length, map, slice_index_or, slice_set}
use Rattle.atomic_table.specs.Seated.{TableId}
use Rattle.gr_post.specs.Mails.{IsClosed, has_end, of}
use Rattle.gr_post.specs.Passes.{Ring, Sending, Taking, met_by}

-- of which inboxes they are
abbrev pub ring_tables : List Ring → List TableId
ring_tables rings = map (λ (r : Ring). r.table) rings

abbrev pub send_tables : List Sending → List TableId
send_tables passes = map (λ (p : Sending). p.table) passes

abbrev pub take_tables : List Taking → List TableId
take_tables passes = map (λ (t : Taking). t.table) passes

-- Where an `End` was taken of a sender that sent just one, as its last mail, all was taken that it sent.
abbrev pub IsTaken : Taking → Sending → Type 0
IsTaken take send = IsClosed send.sent → has_end (of send.number take.taken) ≡ true → of send.number take.taken ≡ send.sent

-- So it is of one sender at each inbox.
abbrev pub AreTaken : List Taking → List Sending → Type 0
AreTaken takes sends = (k : ℕ) (t : Taking) (s : Sending) → k < length sends → IsTaken (slice_index_or takes k t) (slice_index_or sends k s)

-- The taker at this place was told of the pass, and the others are as they were.
pub record IsToldAt (at : ℕ) (takes : List Taking) (pass : Sending) (after : List Taking) : Type 0 where
  pub told : Taking
  pub there : at < length takes
  pub now : after ≡ slice_set takes at told
  pub met : (t : Taking) → told ≡ met_by (slice_index_or takes at t) pass
  pub whole : IsTaken told pass
