-- What is known where the passes of several threads were met.
use Rattle.std.specs.Prelude.{◌≡◌, ◌⊎◌, ℕ, ◌<◌, ◌==◌, List, [], ◌∷◌, ◌++◌, length, map, flat_map, slice_get, slice_index_or, if◌then◌else◌}
use Rattle.std.specs.List.{AllByRecursion}
use Rattle.std.specs.Option.{option_to_list}
use Rattle.gr_turn.specs.Views.{times}
use Rattle.gr_law.specs.Grids.{Among}
use Rattle.gr_value.specs.Lists.{StartsWith}
use Rattle.gr_member.specs.Passes.{House, IsPassOf, MeetsAll}
use Rattle.gr_member.specs.Seats.{Place, nowhere}
use Rattle.gr_runner.specs.declared.gathering.Left.{Left}
use Rattle.gr_host.specs.Houses.{ArePassesOf}

-- ---- one seat

-- The seat knows what it knew at first and what those knew that were met into it: each place that it made is one of theirs,
-- and it has the numbers of all.
pub record Knows (first desk : Place) (those : List Place) : Type 0 where
  pub began : desk.view.opening ≡ first.view.opening
  pub counted : desk.view.seats ≡ first.view.seats
  pub begins : AllByRecursion (λ (p : Place). StartsWith desk.view.seen p.view.seen) those
  pub made : (n : ℕ) → 0 < times n desk.view.made
      → (0 < times n first.view.made) ⊎ ((p : Place) × Among p those × (0 < times n p.view.made))
  pub numbers_first : (n : ℕ) → 0 < times n first.view.parts → 0 < times n desk.view.parts
  pub numbers : AllByRecursion (λ (p : Place). (n : ℕ) → 0 < times n p.view.parts → 0 < times n desk.view.parts) those

-- ---- passes

-- of each pass the seat at a shard
abbrev pub seats_at : ℕ → List (List Place) → List Place
seats_at shard passes = map (λ (p : List Place). slice_index_or p shard nowhere) passes

-- So it is at each shard.
pub record KnowsAll (first desk : List Place) (those : List (List Place)) : Type 0 where
  pub many : length desk ≡ length first
  pub each : (k : ℕ) (s : Place) → k < length first
      → Knows (slice_index_or first k s) (slice_index_or desk k s) (seats_at k those)

-- ---- all members

-- the passes that a thread leaves at the member of this place
abbrev pub left_at : ℕ → Left → List (List Place)
left_at member left =
    option_to_list (slice_get left.visits.items member) ++ (if left.home == member then left.pass ∷ [] else [])

-- At each member the pass that is kept there knows what it knew at first and what all of these left there.
pub record DesksKnow (firsts desks : List (List Place)) (lefts : List Left) : Type 0 where
  pub many : length desks ≡ length firsts
  pub each : (member : ℕ) (p : List Place) → member < length firsts
      → KnowsAll (slice_index_or firsts member p) (slice_index_or desks member p) (flat_map (left_at member) lefts)

-- What was known goes on being known, with what this thread left.
abbrev pub KnowMore : List (List Place) → Left → List (List Place) → Type 0
KnowMore desks left after = (firsts : List (List Place)) (lefts : List Left) → DesksKnow firsts desks lefts
    → DesksKnow firsts after (left ∷ lefts)

-- All passes of these threads were met.
abbrev pub Gathers : List (List Place) → List Left → List (List Place) → Type 0
Gathers desks lefts after = DesksKnow desks after lefts

-- ---- what is asked

-- a pass at each member, or none
abbrev pub AreVisits : List House → List (List Place) → Type 0
AreVisits houses visits = (visits ≡ []) ⊎ ArePassesOf houses visits

-- The thread's pass is one of its member, and its visits are of the members.
pub record IsLeftAt (houses : List House) (left : Left) : Type 0 where
  pub there : left.home < length houses
  pub its : (h : House) → IsPassOf (slice_index_or houses left.home h) left.pass
  pub visits : AreVisits houses left.visits.items

-- At each member that was visited the pass was met, and the others are as they were.
pub record MeetsVisits (desks visits after : List (List Place)) : Type 0 where
  pub many : length after ≡ length desks
  pub met : (k : ℕ) (p q : List Place) → k < length desks → k < length visits
      → MeetsAll (slice_index_or desks k p) (slice_index_or visits k q) (slice_index_or after k p)
  pub not_met : (k : ℕ) (p : List Place) → k < length desks → visits ≡ [] → slice_index_or after k p ≡ slice_index_or desks k p
  pub all_or_none : (visits ≡ []) ⊎ (length visits ≡ length desks)
