use Rattle.std.proofs.Common.{◌≡◌, ◌+◌, ◌<◌, ◌≤◌, ℕ, [], length, get_or}
use Rattle.std.specs.Prelude.{All, vec_len, vec_capacity}
use Rattle.gr_peek.specs.Entering.{new_eye}
use Rattle.gr_member.specs.Replicas.{Watched}
use Rattle.gr_member.proofs.watch.watches_of.Given as goal

abbrev pub invariant-loop-eye : goal.invariant-loop-eye
invariant-loop-eye l = record {
  left : vec_len l.watches + length l.rest ≡ length l.fn.eyes;
  held : length l.fn.eyes ≤ vec_capacity l.watches;
  each : All (λ eye. eye ≡ new_eye l.published.shown l.published.copy) l.rest;
  made : (k : ℕ) (w : Watched) → k < vec_len l.watches
      → get_or l.watches.items k w ≡ record { eye = new_eye l.published.shown l.published.copy; noted = [] };
}

abbrev pub decreases-loop-eye : goal.decreases-loop-eye
decreases-loop-eye l = length l.rest
