-- The inboxes of a run, and the passes to them that are left.
use Rattle.std.specs.Prelude.{◌≡◌, ℕ, ◌<◌, List, length, slice_index_or}
use Rattle.gr_post.specs.Passes.{Ring, Sending, Taking, sender_of, taker_of}

-- Of one inbox the passes of the first so many senders.
pub record HasSenders (ring : Ring) (left : ℕ) (passes : List Sending) : Type 0 where
  pub many : length passes ≡ left
  pub each : (k : ℕ) (d : Sending) → k < left → slice_index_or passes k d ≡ sender_of ring.table k

-- the same of each inbox
pub record HaveSenders (rings : List Ring) (left : ℕ) (sends : List (List Sending)) : Type 0 where
  pub many : length sends ≡ length rings
  pub each : (k : ℕ) (r : Ring) (p : List Sending) → k < length rings
      → HasSenders (slice_index_or rings k r) left (slice_index_or sends k p)

-- one sender's passes to all inboxes
pub record AreSendersOf (rings : List Ring) (number : ℕ) (passes : List Sending) : Type 0 where
  pub many : length passes ≡ length rings
  pub each : (k : ℕ) (r : Ring) (d : Sending) → k < length rings
      → slice_index_or passes k d ≡ sender_of (slice_index_or rings k r).table number

-- There are so many inboxes, each with the passes of so many senders, and nobody has sent or taken anything.
pub record IsOpen (members senders : ℕ) (rings : List Ring) (sends : List (List Sending)) (takes : List Taking) : Type 0 where
  pub many : length rings ≡ members
  pub takers : length takes ≡ members
  pub senders_each : HaveSenders rings senders sends
  pub takes_each : (k : ℕ) (r : Ring) (t : Taking) → k < members
      → slice_index_or takes k t ≡ taker_of (slice_index_or rings k r).table senders
