-- Histories that no run leaves: those of the small run with one changed by as little as can be. A clause that is said too
-- weakly would hold of its histories.
use Rattle.std.specs.Prelude.{ℕ, ◌==◌, ◌&&◌, List, [], ◌∷◌, if◌then◌else◌}
use Rattle.gr_vector.specs.declared.report.Report.{Report}
use Rattle.gr_history.specs.declared.image.What.TheVariants as what
use Rattle.gr_history.specs.declared.verdict.Verdict.TheVariants as verdict
use Rattle.gr_history.specs.declared.deed.Deed.{Deed}
use Rattle.gr_history.specs.declared.deed.Deed.TheVariants.{Asked, Taken, Gave, Imaged, Reported, Swept}
use Rattle.gr_world.specs.Grids.{Histories}
use Rattle.gr_world.specs.Rows.{put}
use Rattle.gr_run_law.specs.Small.{opens, rows_0, report_0, report_1, image_0, small_histories}

-- the small run's histories, but for this one
abbrev pub changed : ℕ → ℕ → List Deed → Histories
changed member shard history m s = if m == member && s == shard then history else small_histories m s

-- 1. The first member sweeps a shard twice.
abbrev pub swept_twice : Histories
swept_twice = changed 1 0 (Swept 600 [] ∷ small_histories 1 0)

-- 2. The second gives its image twice.
abbrev pub given_twice : Histories
given_twice = changed 2 0 (Gave 3 what.Image ∷ small_histories 2 0)

-- 3. The joiner's client opens a query before the image comes.
abbrev pub asked_early : Histories
asked_early = changed 3 0 (Imaged image_0 ∷ Asked 2 1 opens rows_0 ∷ [])

-- 4. The second takes the put in once, where the plan brings it twice.
abbrev pub taken_once : Histories
taken_once = changed 2 1 (Gave 3 what.Image ∷ Reported report_1 ∷ Taken (put 1 1 1) verdict.Applied ∷ [])

-- 5. The joiner hears no report at a shard.
abbrev pub unheard : Histories
unheard = changed 3 0 (Imaged image_0 ∷ [])

-- what members reported
abbrev pub small_rounds : ℕ → List (List Report)
small_rounds member = if member == 2 then (report_0 ∷ report_1 ∷ []) ∷ [] else []

-- a round without its second report
abbrev pub half_rounds : ℕ → List (List Report)
half_rounds member = if member == 2 then (report_0 ∷ []) ∷ [] else []

-- A founder takes nothing in.
abbrev pub left_out : Histories
left_out = changed 2 1 []
