use Rattle.std.proofs.Common.{◌≡◌, ◌∙◌, ◌+◌, ℕ, sym, ap, subst}
use Rattle.gr_script.specs.Past.{steps}
use Rattle.gr_script.specs.Printed.{act_saying}
use Rattle.gr_script.specs.Taken.{Taken, said, lines_taken}
use Rattle.gr_script.proofs.ScriptBack.{first_is, no_join, step_is}
use Rattle.gr_script.proofs.Taking.{line_next}
use Rattle.gr_script.proofs.past.Past.push_step.Goals as goal

pub returns-clause-line : goal.returns-clause-line
returns-clause-line c =
    let t = c.args.self.now in
    let client = c.args.step.client in
    let stepped = subst (λ (s : Taken). c.of-seq.result ≡ steps c.from-first.result (said s)) c.self.view_is
    (c.of-seq.ensures ∙ c.self.invariant.0.tallied.steps c.from-first.result) in
    let counted = stepped ∙ ap (λ (n : ℕ). steps n (said t)) c.from-first.ensures in
    ap lines_taken c.in_ok-put.ensures
    ∙ line_next t (act_saying client c.args.step.act) _ c.args.after.now c.requires.next
    (step_is (said t) client (c.of-seq.result + 1) c.args.step.act (ap (λ (n : ℕ). n + 1) (sym counted)))

pub put-requires-clause-next : goal.put-requires-clause-next
put-requires-clause-next c =
    let t = c.args.self.now in
    let client = c.args.step.client in
    let stepped = subst (λ (s : Taken). c.of-seq.result ≡ steps c.from-first.result (said s)) c.self.view_is
    (c.of-seq.ensures ∙ c.self.invariant.0.tallied.steps c.from-first.result) in
    let counted = stepped ∙ ap (λ (n : ℕ). steps n (said t)) c.from-first.ensures in (
      act_saying client c.args.step.act,
      sym c.requires.kind,
      c.from-first.ensures ∙ first_is client c.args.step.act,
      no_join client c.args.step.act,
      step_is (said t) client (c.of-seq.result + 1) c.args.step.act (ap (λ (n : ℕ). n + 1) (sym counted)),
      c.requires.next,
    )
