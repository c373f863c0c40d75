-- Which senders have ended.
use Rattle.std.specs.Prelude.{◌≡◌, ℕ, ◌<◌, Bool, List, length, slice_index_or}
use Rattle.gr_post.specs.declared.mail.Posted.{Posted}
use Rattle.gr_post.specs.Mails.{of, has_end}

-- It is marked of each of so many senders whether an `End` of it was taken.
pub record AreEnds (senders : ℕ) (taken : List Posted) (ended : List Bool) : Type 0 where
  pub many : length ended ≡ senders
  pub each : (k : ℕ) (b : Bool) → k < senders → slice_index_or ended k b ≡ has_end (of k taken)
