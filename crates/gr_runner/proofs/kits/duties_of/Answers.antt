use Rattle.std.proofs.Common.{◌≡◌, ◌∙◌, Option, Some, None, sym, ap, map, append-nil}
use Rattle.std.specs.Prelude.{option_map}
use Rattle.gr_host.specs.declared.duties.Duty.{Duty}
use Rattle.gr_host.specs.Works.{duty_is}
use Rattle.gr_runner.proofs.Numbered.{duties_with}
use Rattle.gr_runner.proofs.kits.duties_of.Goals as goal
use Rattle.gr_runner.proofs.kits.duties_of.Goals.{in-Some+in_ok-push, in_default}

pub loop-line-preserved : goal.loop-line-preserved
loop-line-preserved c =
    let with = λ (found : Option Duty) (is : c.duty_of.result ≡ found).
    duties_with c.args.member c.as_slice-line-items.result.now c.loop-line.line-index c.line-item.result c.loop-line.duties found
    c.loop-line-test.true c.line-item.is c.loop-line.invariant (ap (option_map duty_is) (sym is) ∙ c.duty_of.ensures)
    in
    elim c.match-duty_of.branch [
      | in-Some+in_ok-push w ↦ ap (map duty_is) (w.duties-is ∙ w.in_ok-push.ensures.ok) ∙ with (Some w.in-Some.duty) w.in-Some.is
      | in_default w ↦ ap (map duty_is) (w.duties-is ∙ sym (append-nil c.loop-line.duties)) ∙ with None w.in_default.is
    ]
