-- What the record of a run has, whatever order, delay and repeats its threads and their mail had.
use Rattle.std.specs.Prelude.{List, []}
use Rattle.gr_history.specs.declared.record.Record.{Record}
use Rattle.gr_script.specs.declared.line.Line.{Line}
use Rattle.gr_script.specs.Rules.{Heading}
use Rattle.gr_world.specs.Histories.{KeepsLaws}
use Rattle.gr_world.specs.Served.{HasServed, histories_in}
use Rattle.gr_run_law.specs.Runs.{IsLawfulRun}
use Rattle.gr_run_law.specs.Closed.{TakesAll, HasSameRows}

pub record IsRecordOfRun (heading : Heading) (lines : List Line) (left : Record) : Type 0 where
  -- The record is a lawful run's.
  pub lawful : IsLawfulRun heading lines left
  -- Members that took in the same changes have the same entries, no removed value is back but by a greater stamp, and
  -- a query's initial result followed by its events is its result.
  pub laws : KeepsLaws heading [] left
  -- Each client was served, step by step, and told what came of it.
  pub served : HasServed heading lines left
  -- Each founder and each member that joined took in every change,
  pub all : TakesAll heading lines (histories_in left)
  -- and all these have the same rows.
  pub rows : HasSameRows heading lines (histories_in left)
