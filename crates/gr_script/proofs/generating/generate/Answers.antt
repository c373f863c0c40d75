use Rattle.gr_script.proofs.DrillStands.{put_together, drill_is_ruled}
use Rattle.gr_script.proofs.generating.generate.Goals as goal

pub invariant_of-result : goal.invariant_of-result
invariant_of-result c =
    let are = put_together _ _ _ _ _ _ _ c.in_ok-lines.ensures c.in_ok-push_opens.ensures c.in_ok-push_steps.ensures
    c.in_ok-push_fetches.ensures in
    record {
      ruled = drill_is_ruled c.args.start c.args.steps _ _ c.in_ok-drill_query.field-0 _ c.in_ok-drill_region.ensures
          c.in_ok-drill_homes.ensures c.in_ok-drill_query.ensures.spelled are c.requires.start.1 c.requires.steps.1
          c.in_ok-drill_query.ensures.region;
    }
