use Rattle.std.proofs.Common.{◌≡◌, ◌∙◌, ap, sym, ℕ, List, ◌+◌, ◌*◌, ◌^◌, ◌≤◌, [], ◌∷◌, ◌++◌, append_assoc, arith, lit<}
use Rattle.std.specs.Prelude.{decimal}
use Rattle.std.proofs.Math.Nat.{pow-le-pow_right}
use Rattle.gr_report.specs.Deeds.{members_upto, with_commas}
use Rattle.gr_report.proofs.Commas.{mark_behind, with_commas-more, mark_behind-more, members-with, members-without}
use Rattle.gr_report.proofs.Commas.{power-one_more}
use Rattle.gr_report.proofs.lists.put_list.Goals as goal
use Rattle.gr_report.proofs.lists.put_list.Goals.{then-has_bit+in_ok-put_next, else-has_bit}

pub loop-below-preserved : goal.loop-below-preserved
loop-below-preserved c =
    let now = c.loop-below.invariant in
    let below = c.loop-below.below in
    let bit = c.loop-below.bit in
    let to = c.args.to in
    let twice : bit * 2 ≡ 2 ^ (below + 1) = omega (arith, now.bit, power-one_more below) in
    let most : bit * 2 ≤ 256 = rw twice (pow-le-pow_right (lit< tt) {i = below + 1} {j = 8} (omega arith)) in
    elim c.if-has_bit.branch [
      | then-has_bit+in_ok-put_next w ↦
          let with : members_upto to (below + 1) ≡ members_upto to below ++ (below + 1) ∷ [] =
          members-with to below bit now.bit (sym c.has_bit.ensures ∙ w.if-has_bit.true) in
          record {
            bit = twice;
            least = omega arith;
            most = most;
            mark = ap (λ m. m.now) w.mark-is ∙ sym (ap mark_behind with ∙ mark_behind-more (members_upto to below) (below + 1));
            text = ap (λ o. o.items) w.out-is ∙ w.in_ok-put_next.ensures
                ∙ ap (λ (m : List ℕ). c.loop-below.out.items ++ m ++ decimal (below + 1)) now.mark
                ∙ ap (λ (o : List ℕ). o ++ mark_behind (members_upto to below) ++ decimal (below + 1)) now.text
                ∙ ap (λ (o : List ℕ). o ++ decimal (below + 1))
                (append_assoc c.args.out.now.items (with_commas (members_upto to below)) (mark_behind (members_upto to below)))
                ∙ append_assoc c.args.out.now.items (with_commas (members_upto to below) ++ mark_behind (members_upto to below))
                (decimal (below + 1))
                ∙ ap (λ (t : List ℕ). c.args.out.now.items ++ t)
                (sym (ap with_commas with ∙ with_commas-more (members_upto to below) (below + 1)));
          }
      | else-has_bit w ↦
          let without : members_upto to (below + 1) ≡ members_upto to below =
          members-without to below bit now.bit (sym c.has_bit.ensures ∙ w.if-has_bit.false) in
          record {
            bit = twice;
            least = omega arith;
            most = most;
            mark = ap (λ m. m.now) w.mark-is ∙ now.mark ∙ ap mark_behind (sym without);
            text = ap (λ o. o.items) w.out-is ∙ now.text ∙ ap (λ (ms : List ℕ). c.args.out.now.items ++ with_commas ms) (sym without);
          }
    ]
