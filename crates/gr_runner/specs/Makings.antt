-- The members of a run, as they are made.
use Rattle.std.specs.Prelude.{◌≡◌, ℕ, suc, ◌+◌, ◌-◌, ◌≤◌, ◌<◌, ◌==◌, Bool, true, false, not, List, length, count_by, slice_index_or}
use Rattle.gr_script.specs.declared.line.Act.TheVariants as act
use Rattle.gr_script.specs.declared.line.Line.{Line}
use Rattle.gr_script.specs.declared.line.Line.TheVariants as line
use Rattle.gr_script.specs.Rules.{Heading}
use Rattle.gr_member.specs.declared.plan.Plan.{Plan}
use Rattle.gr_member.specs.Seats.{Place}
use Rattle.gr_member.specs.Passes.{House, IsPassOf}
use Rattle.gr_member.specs.Fresh.{AreFresh, AreShown}

-- what a member is planned to be
abbrev pub plan_of : Heading → ℕ → Plan
plan_of h member = record { member = member; members = h.members; founders = h.founders; shards = h.shards; floor = h.floor }

-- how many passes it has: one that is kept at it, its thread's, one for each client at it, and one for each member that may join
abbrev pub passes_at : Heading → ℕ → ℕ
passes_at h member = 2 + count_by (λ at. at == member) h.clients + (h.members - h.founders)

-- whether a client peeks on the line
abbrev pub is_peek : Line → Bool
is_peek (line.Step client seq (act.Peek key)) = true
is_peek _ = false

-- how often clients peek
abbrev pub peeks : List Line → ℕ
peeks lines = count_by is_peek lines

-- whether copies are shown: where some client peeks
abbrev pub shows : List Line → Bool
shows lines = not (peeks lines == 0)

-- The member was made by this plan, with so many passes.
pub record IsMade (plan : Plan) (passes : ℕ) (house : House) (made : List (List Place)) : Type 0 where
  pub plan_is : house.plan ≡ plan
  pub locks : length house.locks ≡ plan.shards
  pub many : length made ≡ passes
  pub fresh : AreFresh house passes made

-- The first members of the script, member 1 first, and the passes of each.
pub record AreMade (h : Heading) (members : ℕ) (houses : List House) (made : List (List (List Place))) : Type 0 where
  pub many : length houses ≡ members
  pub dealt : length made ≡ members
  pub each : (k : ℕ) (house : House) (passes : List (List Place)) → k < members
      → IsMade (plan_of h (suc k)) (passes_at h (suc k)) (slice_index_or houses k house) (slice_index_or made k passes)

-- The passes of the first members of the script are shown their copies, or none is.
abbrev pub AreAllShown : Heading → Bool → ℕ → List (List (List Place)) → Type 0
AreAllShown h shown members made = (k : ℕ) (passes : List (List Place)) → k < members
    → AreShown shown (passes_at h (suc k)) (slice_index_or made k passes)

-- Each of the passes is one of this member.
abbrev pub AreOf : House → List (List Place) → Type 0
AreOf house passes = (k : ℕ) (p : List Place) → k < length passes → IsPassOf house (slice_index_or passes k p)

-- The passes are those of this member, one at least.
pub record AreAt (house : House) (passes : List (List Place)) : Type 0 where
  pub some : 1 ≤ length passes
  pub each : AreOf house passes

-- the same of each of these members
pub record AreEachAt (houses : List House) (made : List (List (List Place))) : Type 0 where
  pub many : length made ≡ length houses
  pub each : (k : ℕ) (house : House) (passes : List (List Place)) → k < length houses
      → AreAt (slice_index_or houses k house) (slice_index_or made k passes)
