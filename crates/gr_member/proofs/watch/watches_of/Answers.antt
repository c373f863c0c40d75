use Rattle.std.proofs.Common.{◌≡◌, ◌+◌, ◌<◌, ℕ, [], ◌∷◌, length, ap, ◌∙◌, subst, arith, length-append}
use Rattle.std.specs.Prelude.{vec_len}
use Rattle.gr_peek.specs.Entering.{new_eye}
use Rattle.gr_peek.specs.Views.{Watching}
use Rattle.gr_member.proofs.Dealt.{eyes_last, unused_more}
use Rattle.gr_member.proofs.watch.watches_of.Goals as goal

pub loop-eye-preserved : goal.loop-eye-preserved
loop-eye-preserved c =
    let both = eyes_last (λ eye. eye ≡ new_eye c.args.published.now.shown c.args.published.now.copy) c.loop-eye.rest c.pop.new.self c.in-Some.eye
    c.loop-eye.invariant.each c.in-Some.ensures.item in
    let ok = c.loop-eye.watches.ok in
    let less : length c.loop-eye.rest ≡ length c.pop.new.self + 1 =
    ap length c.in-Some.ensures.item ∙ length-append c.pop.new.self (c.in-Some.eye ∷ []) in
    let one = c.push_reserved.ensures.len in
    let same = c.push_reserved.ensures.capacity in
    let left = c.loop-eye.invariant.left in
    let held = c.loop-eye.invariant.held in
    record {
      left = omega arith;
      held = omega arith;
      each = both.0;
      made = λ k w b. unused_more c.loop-eye.watches.items c.push_reserved.new.self.items (vec_len c.loop-eye.watches) c.new.result
          (record { eye = new_eye c.args.published.now.shown c.args.published.now.copy; noted = [] }) c.push_reserved.ensures.items (omega arith)
          (c.new.ensures ∙ ap (λ (eye : Watching). record { eye = eye; noted = [] }) both.1) c.loop-eye.invariant.made k w
          (subst (λ (n : ℕ). k < n) one b);
    }
