-- The steps of all clients, told apart.
use Rattle.std.specs.Prelude.{◌≡◌, ◌≢◌, ℕ, suc, ◌≤◌, ◌<◌, List, [], ◌∷◌, ◌++◌, length, slice_index_or}
use Rattle.gr_script.specs.declared.line.Line.{Line}
use Rattle.gr_script.specs.declared.line.Line.TheVariants as line
use Rattle.gr_script.specs.declared.line.Step.{Step}
use Rattle.gr_script.specs.Steps.{steps_of}

-- Of each of so many clients there are its steps, those of client 1 first.
pub record AreStepsOf (lines : List Line) (clients : ℕ) (each : List (List Step)) : Type 0 where
  pub many : length each ≡ clients
  pub own : (k : ℕ) (d : List Step) → k < clients → slice_index_or each k d ≡ steps_of (suc k) lines

-- The client's step was put last of its own, and the steps of the others are as they were.
pub record IsPutWith (client : ℕ) (step : Step) (old new : List (List Step)) : Type 0 where
  pub many : length new ≡ length old
  pub own : (k : ℕ) (d : List Step) → suc k ≡ client → slice_index_or new k d ≡ slice_index_or old k d ++ step ∷ []
  pub others : (k : ℕ) (d : List Step) → suc k ≢ client → slice_index_or new k d ≡ slice_index_or old k d

-- With a line the step on it came to its client's, and with one that has none nothing.
abbrev pub AreWith : Line → List (List Step) → List (List Step) → Type 0
AreWith (line.Step client seq act) old new = IsPutWith client (record { seq = seq; act = act }) old new
AreWith _ old new = new ≡ old

-- where the line is a step, its client is one of so many
abbrev pub HasPlace : Line → ℕ → Type 0
HasPlace (line.Step client seq act) clients = (1 ≤ client) × (client ≤ clients)
HasPlace _ clients = Unit {0}
