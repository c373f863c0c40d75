-- A script's heading, and what a script is read for.
use Rattle.std.specs.Prelude.{Bool, true, false}
use Rattle.gr_script.specs.declared.form.Form.{Form}
use Rattle.gr_script.specs.declared.form.Form.TheVariants.{Replay, Run}
use Rattle.gr_script.specs.declared.script.Script.{Script}
use Rattle.gr_script.specs.Rules.{Heading, heading}

abbrev pub heading_of : Script → Heading
heading_of s = heading s.region s.members s.founders s.shards s.inbox s.trouble s.floor s.clients

abbrev pub is_run : Form → Bool
is_run Replay = false
is_run Run = true
