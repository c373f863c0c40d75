use Rattle.gr_script.specs.Scripts.{heading_of}
use Rattle.gr_run_law.proofs.Records.{drill_equal}
use Rattle.gr_top.proofs.running.drill.Goals as goal

pub returns : goal.returns
returns g c =
    let script = c.in_ok-script.script in
    let left = c.in_ok-record_of.ensures.lawful in
    record {
      drawn = c.in_ok-script.ensures;
      left = left;
      equal = drill_equal c.args.start c.args.steps (heading_of script, script.lines) c.in_ok-record_of.record_of c.in_ok-script.ensures
          script.ruled left.lawful;
    }
