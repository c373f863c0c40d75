-- The record of the script that a text is.
use Rattle.std.specs.Prelude.{◌≡◌, ℕ, List, false, reverse, Ok}
use Rattle.gr_history.specs.declared.record.Record.{Record}
use Rattle.gr_script.specs.declared.line.Line.{Line}
use Rattle.gr_script.specs.Expanded.{expansion}
use Rattle.gr_script.specs.Rules.{Heading, IsScript}
use Rattle.gr_script.specs.Said.{script_of}
use Rattle.gr_script.specs.Steps.{departed}
use Rattle.gr_world.specs.Histories.{KeepsLaws}
use Rattle.gr_world.specs.Records.{IsReplayed}
use Rattle.gr_world.specs.Served.{HasServed, FollowsLines, histories_in}
use Rattle.gr_world.specs.Shut.{AreShut}

pub record IsPlayed (text : List ℕ) (left : Record) : Type 0 where
  pub heading : Heading
  pub written : List Line
  pub lines : List Line
  -- The text is this script, which is played as its expansion.
  pub read : script_of false text ≡ Ok (heading, written)
  pub expanded_is : lines ≡ expansion written
  pub ruled : IsScript heading lines
  -- The record is all that the course of these lines says.
  pub replayed : IsReplayed heading lines left
  -- Members that took in the same changes have the same entries, and no removed value is back.
  pub laws : KeepsLaws heading (departed (reverse lines)) left
  -- Each client was served, step by step, and told what came of it.
  pub served : HasServed heading lines left
  -- The steps of all clients stand in the order of the lines.
  pub in_order : FollowsLines heading lines (histories_in left)
  -- After a member departed, all that stay know the same of its changes, and none of them comes in any more.
  pub shut : AreShut heading (reverse lines)
